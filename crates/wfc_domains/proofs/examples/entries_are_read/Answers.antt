use Rattle.std.proofs.Common.{arith}
use Rattle.wfc_domains.proofs.examples.entries_are_read.Goals as goal

pub returns-clause-split : goal.returns-clause-split
returns-clause-split c = record { limit = omega arith; some = λ l. omega arith }

pub returns-clause-nothing_small : goal.returns-clause-nothing_small
returns-clause-nothing_small c = λ s. let l = s.some (omega arith) in absurd (omega (arith, l))

pub returns-clause-no_room : goal.returns-clause-no_room
returns-clause-no_room c = λ s. absurd (omega (arith, s.limit))
