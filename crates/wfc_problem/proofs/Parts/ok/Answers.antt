-- A search in a rising list finds the number exactly where the list has it.
use Rattle.std.proofs.Common.{ℕ, List, ◌∙◌, ap}
use Rattle.std.specs.Prelude.{◌==◌}
use Rattle.std.specs.List.{list_any}
use Rattle.wfc_lists.proofs.Rising.{searched_has}
use Rattle.wfc_problem.proofs.Parts.ok.Goals as goal

pub returns : goal.returns
returns c =
    let is = c.supports.ensures.value in
    record {
      value =
          c.is_ok.ensures.value
          ∙ searched_has c.supports.result.now c.args.w c.binary_search.result c.binary_search.ensures.position (rw is c.requires.rising)
          ∙ ap (λ (xs : List ℕ). list_any (λ x. x == c.args.w) xs) is;
    }
