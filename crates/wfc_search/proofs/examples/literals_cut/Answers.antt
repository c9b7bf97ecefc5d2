use Rattle.std.proofs.Common.{refl, lit≤, lit<, arith}
use Rattle.std.proofs.lemmas.Bool.{false≢true}
use Rattle.wfc_problem.specs.Rounds.{greatest}
use Rattle.wfc_search.specs.Small.{pair, ring}
use Rattle.wfc_search.proofs.Runs.{between_none}
use Rattle.wfc_search.proofs.examples.literals_cut.Goals as goal

pub returns : goal.returns
unfolding pair ring greatest
returns c = record {
  choice = (lit< tt, refl, lit≤ tt);
  only = λ cuts. absurd (omega (arith, cuts.2));
  gone = λ cuts. absurd (false≢true cuts.1);
  last = (lit< tt, refl);
  outside = λ cuts. absurd (omega (arith, cuts.0));
  between = between_none _ 1;
  too_many = λ b. absurd (omega (arith, b.within));
  ways = refl;
  work = refl;
}
