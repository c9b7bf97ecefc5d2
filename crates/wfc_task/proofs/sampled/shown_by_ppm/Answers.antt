use Rattle.std.proofs.Common.{ap, subst, sym, ◌*◌, ◌∙◌, ◌≤◌}
use Rattle.wfc_picture.specs.declared.palette.TheConstants.{MAX_PIXELS}
use Rattle.wfc_picture.specs.declared.symbol.Kind.TheVariants as kinds
use Rattle.wfc_ppm.specs.Ppm.{PpmView}
use Rattle.wfc_task.proofs.LessonLemmas.{ppm_sampled}
use Rattle.wfc_task.proofs.sampled.shown_by_ppm.Goals as goal
use Rattle.wfc_task.specs.Lesson.{IsSampled}
use Rattle.wfc_task.specs.Sampled.{shown_colours}

pub returns-clause-sampled : goal.returns-clause-sampled
returns-clause-sampled c =
    let ppm : PpmView = record { width = c.ppm.inside.width; height = c.ppm.inside.height; maxval = c.ppm.inside.maxval; pixels = c.ppm.inside.pixels.items } in
    let small = subst (λ (p : PpmView). p.width * p.height ≤ MAX_PIXELS) (sym c.ppm.view_is) c.requires.small in
    subst (λ symbols. IsSampled (record { kind = kinds.Ppm ppm.maxval; width = ppm.width; symbols = symbols })) (sym (c.in_ok-symbols.ensures.value ∙ ap shown_colours (sym c.ppm.view_is))) (ppm_sampled ppm c.ppm.invariant small)
