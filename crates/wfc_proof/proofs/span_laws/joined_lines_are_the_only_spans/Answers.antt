use Rattle.std.proofs.Common.{[], length, refl, ap, arith}
use Rattle.wfc_proof.specs.declared.Line.TheVariants.{Span}
use Rattle.wfc_proof.proofs.OnlyJoins.{joined_spans, only_spans}
use Rattle.wfc_proof.proofs.span_laws.joined_lines_are_the_only_spans.Goals as goal

pub returns-clause-are : goal.returns-clause-are
returns-clause-are c lines whole = joined_spans lines whole

pub returns-clause-only : goal.returns-clause-only
returns-clause-only c lines spans whole are = only_spans lines spans whole are

pub returns-clause-apart : goal.returns-clause-apart
returns-clause-apart c are = let none = are.apart [] [] (Span 1 4 4 2) (Span 1 5 5 2) refl in cc

pub returns-clause-counts : goal.returns-clause-counts
returns-clause-counts c are = omega (arith, ap length are.counts)
