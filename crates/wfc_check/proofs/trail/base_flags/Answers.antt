-- Flags that are all set are a whole base.
use Rattle.std.proofs.Common.{◌≡◌, ◌*◌, true, refl, sym, ◌∙◌, ap}
use Rattle.std.specs.Prelude.{replicate}
use Rattle.wfc_problem.specs.Network.{values}
use Rattle.wfc_problem.proofs.CallerLemmas.{whole_base}
use Rattle.wfc_check.proofs.trail.base_flags.Goals as goal

pub returns-then-is_whole-clause-base : goal.returns-then-is_whole-clause-base
returns-then-is_whole-clause-base c =
    let P = c.args.problem.now in
    let whole = sym c.is_whole.ensures.value ∙ c.if-is_whole.true in
    let items = c.in_ok-vec.ensures.items_if_clones_equal (λ y e. e) in
    let pairs : c.cells.result * c.values.result ≡ P.cells * values P = rw (c.cells.ensures.value, c.values.ensures.value) refl in
    items ∙ ap (λ n. replicate n true) pairs ∙ sym (whole_base P c.is_whole.ensures.problem whole)
