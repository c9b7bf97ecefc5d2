use Rattle.std.proofs.Common.{◌+◌, ◌%◌, ◌^◌, subst, sym, ap, ◌∙◌}
use Rattle.wfc_overlap.specs.Bridge.{AreInside}
use Rattle.wfc_blocks.specs.Blocks.{output_of_block}
use Rattle.wfc_blocks.specs.CanvasView.{canvas_of}
use Rattle.wfc_blocks.specs.Grown.{terms_with}
use Rattle.wfc_blocks.proofs.CanvasLemmas.{pins_in_block}
use Rattle.wfc_blocks.proofs.StepLemmas.{is_block_step}
use Rattle.wfc_blocks.proofs.growing.fill_block.Goals as goal

pub run_block-requires-clause-inside : goal.run_block-requires-clause-inside
run_block-requires-clause-inside g c =
    subst (AreInside (output_of_block c.args.block)) (sym (c.deref.ensures.value ∙ c.in_ok-pins.ensures.value)) (pins_in_block c.args.marks.now (canvas_of c.args.canvas.now) c.args.block)

pub returns-clause-step : goal.returns-clause-step
returns-clause-step g c =
    is_block_step (terms_with c.args.patterns.now _ c.args.budget c.args.seed c.args.marks.now) (canvas_of c.args.canvas.now) (canvas_of c.set_block.new.canvas) c.args.block c.deref.result.now _ c.in_ok-end.end c.set_block.result
    (c.deref.ensures.value ∙ c.in_ok-pins.ensures.value) (ap (λ k. (c.args.seed + k) % 2 ^ 64) c.from.ensures) c.in_ok-end.ensures.ends c.set_block.ensures.set
