use Rattle.std.proofs.Common.{◌∙◌}
use Rattle.wfc_overlap.specs.Built.{texts_of}
use Rattle.wfc_blocks.specs.CanvasView.{canvas_of}
use Rattle.wfc_blocks.specs.Covers.{area_of}
use Rattle.wfc_blocks.specs.Grown.{terms_with}
use Rattle.wfc_blocks.proofs.GrownLemmas.{answers_grown}
use Rattle.wfc_blocks.proofs.whole.grown_area.Goals as goal

pub returns : goal.returns
returns g c = record {
  grown = λ rule all.
      answers_grown (texts_of c.args.palette.now) c.args.pins.now (area_of c.args.cover) c.fill_blocks.new.canvas.width c.fill_blocks.new.canvas.height c.args.cover.n
      (terms_with c.args.patterns.now rule c.args.budget c.args.seed c.args.marks.now) (canvas_of c.in_ok-canvas.canvas) (canvas_of c.fill_blocks.new.canvas) c.in_ok-halt.halt c.shown_growth.result c.shown_growth.ensures.value
      (c.fill_blocks.ensures.alike.width ∙ c.in_ok-canvas.ensures.width) (c.fill_blocks.ensures.alike.height ∙ c.in_ok-canvas.ensures.height) c.requires.n c.in_ok-canvas.ensures.empty (c.in_ok-halt.ensures.growth rule all);
}
