use Rattle.std.proofs.Common.{arith, inl, inr, refl}
use Rattle.wfc_cli.proofs.laws.lines_are_told_by_example.Goals as goal

pub returns-clause-whole : goal.returns-clause-whole
returns-clause-whole c = record { cases = inl refl }

pub returns-clause-none : goal.returns-clause-none
returns-clause-none c = refl

pub returns-clause-front : goal.returns-clause-front
returns-clause-front c = record { cases = inr (record { front = (7, refl); counted = inl (omega arith) }) }
