use Rattle.std.proofs.Common.{ap, subst, sym, ◌*◌, ◌∙◌, ◌≤◌}
use Rattle.wfc_grid.specs.Grid.{GridView}
use Rattle.wfc_grid.specs.declared.reading.TheConstants.{MAX_GRID_BYTES}
use Rattle.wfc_picture.specs.declared.symbol.Kind.TheVariants as kinds
use Rattle.wfc_task.proofs.LessonLemmas.{grid_sampled}
use Rattle.wfc_task.proofs.sampled.shown_by_grid.Goals as goal
use Rattle.wfc_task.specs.Lesson.{IsSampled}
use Rattle.wfc_task.specs.Sampled.{symbols_of}

pub returns-clause-sampled : goal.returns-clause-sampled
returns-clause-sampled c =
    let grid : GridView = record { width = c.grid.inside.width; height = c.grid.inside.height; bytes = c.grid.inside.bytes.items } in
    let small = subst (λ (g : GridView). g.width * g.height ≤ MAX_GRID_BYTES) (sym c.grid.view_is) c.requires.small in
    subst (λ symbols. IsSampled (record { kind = kinds.Grid; width = grid.width; symbols = symbols })) (sym (c.in_ok-symbols.ensures.value ∙ ap symbols_of (sym c.grid.view_is))) (grid_sampled grid c.grid.invariant small)
