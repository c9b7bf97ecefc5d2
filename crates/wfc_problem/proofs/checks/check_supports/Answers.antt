-- A list is at fault where the vector that contains it is.
use Rattle.std.proofs.Common.{ℕ, sym, ◌∙◌, ap, Vec, Global}
use Rattle.std.specs.Option.{option_map}
use Rattle.wfc_problem.specs.declared.Part.TheVariants.{Supports}
use Rattle.wfc_problem.specs.declared.ProblemFault.TheVariants.{BadIndex}
use Rattle.wfc_lists.proofs.Positions.{position-map}
use Rattle.wfc_problem.proofs.checks.check_supports.Goals as goal

pub returns-in-Some : goal.returns-in-Some
returns-in-Some c =
    let found = rw (c.deref.ensures.value, c.len.ensures, c.parts.inside.weights.ok.0) at (sym c.first_wrong_list.ensures.value ∙ c.in-Some.is) in
    record {
      value =
          rw (← c.parts.view_is)
          (sym (ap (option_map (λ (at : ℕ). BadIndex Supports at))
          (position-map _ (λ (list : Vec ℕ Global). list.items) c.parts.inside.supports.items ∙ found)));
    }

pub returns-in-None : goal.returns-in-None
returns-in-None c =
    let found = rw (c.deref.ensures.value, c.len.ensures, c.parts.inside.weights.ok.0) at (sym c.first_wrong_list.ensures.value ∙ c.in-None.is) in
    record {
      value =
          rw (← c.parts.view_is)
          (sym (ap (option_map (λ (at : ℕ). BadIndex Supports at))
          (position-map _ (λ (list : Vec ℕ Global). list.items) c.parts.inside.supports.items ∙ found)));
    }
