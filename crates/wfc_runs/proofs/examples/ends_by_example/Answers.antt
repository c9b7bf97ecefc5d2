use Rattle.std.proofs.Common.{ℕ, List, length, ap, sym, ◌∙◌, arith}
use Rattle.std.specs.Prelude.{slice_index}
use Rattle.wfc_problem.specs.Rounds.{greatest}
use Rattle.wfc_search.specs.Small.{pair}
use Rattle.wfc_runs.proofs.examples.ends_by_example.Goals as goal

pub returns-clause-map : goal.returns-clause-map
unfolding pair greatest
returns-clause-map c is = is

pub returns-clause-other_map : goal.returns-clause-other_map
unfolding pair greatest
returns-clause-other_map c is held = let e = ap (λ (xs : List ℕ). slice_index xs 0) (sym is ∙ held) in omega (arith, e)

pub returns-clause-no_map : goal.returns-clause-no_map
returns-clause-no_map c = (tt, tt)

pub returns-clause-spent : goal.returns-clause-spent
returns-clause-spent c held = held

pub returns-clause-short : goal.returns-clause-short
unfolding pair
returns-clause-short c is legal = let e = ap (λ (xs : List ℕ). length xs) is in omega (arith, e, legal.each_cell)
