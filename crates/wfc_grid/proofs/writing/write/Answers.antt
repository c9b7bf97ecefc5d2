use Rattle.std.proofs.Common.{◌≡◌, ◌∙◌, ◌<◌, length, subst, arith}
use Rattle.std.specs.Slice.Iter.{chunks_exact_rest}
use Rattle.wfc_grid.specs.Grid.{IsGrid, raster_of_grid}
use Rattle.wfc_grid.specs.Spelling.{grid_text}
use Rattle.wfc_grid.proofs.TextLemmas.{more_written, all_written}
use Rattle.wfc_grid.proofs.GridLemmas.{written_grid}
use Rattle.wfc_grid.proofs.writing.write.Goals as goal

pub loop-row-preserved : goal.loop-row-preserved
loop-row-preserved c =
    let step = c.in-Some.ensures.steps in
    record {
      size = step.0 ∙ c.loop-row.invariant.size;
      written = rw (c.in_ok-push.ensures.items, c.in_ok-extend_from_slice.ensures.items)
          (more_written c.args.grid.now c.loop-row.text.items _ c.in-Some.row.now _ c.loop-row.invariant.written step.1.0 (step.1.1 ∙ c.loop-row.invariant.size));
    }

pub returns-clause-text : goal.returns-clause-text
returns-clause-text c =
    let is : IsGrid c.args.grid.now = subst IsGrid c.grid.view_is c.grid.invariant in
    let short : length (chunks_exact_rest c.loop-row.row-iterator) < c.args.grid.now.width = omega (arith, c.in-None.ensures.steps.1.0, c.loop-row.invariant.size) in
    all_written c.args.grid.now c.loop-row.text.items _ is c.loop-row.invariant.written short

pub returns-clause-spelled : goal.returns-clause-spelled
returns-clause-spelled c =
    let is : IsGrid c.args.grid.now = subst IsGrid c.grid.view_is c.grid.invariant in
    let short : length (chunks_exact_rest c.loop-row.row-iterator) < c.args.grid.now.width = omega (arith, c.in-None.ensures.steps.1.0, c.loop-row.invariant.size) in
    let text : c.loop-row.text.items ≡ grid_text (raster_of_grid c.args.grid.now).rows = all_written c.args.grid.now c.loop-row.text.items _ is c.loop-row.invariant.written short in
    rw text (written_grid c.args.grid.now is)
