use Rattle.std.proofs.Common.{ℕ, List, ◌++◌, map, ap, ◌∙◌}
use Rattle.wfc_model.specs.Legal.{Pin, kept_pin}
use Rattle.wfc_pins.specs.PinView.{PinView}
use Rattle.wfc_blocks.specs.Canvas.{lines_within, set_line}
use Rattle.wfc_blocks.specs.CanvasView.{canvas_of}
use Rattle.wfc_blocks.proofs.LineLemmas.{map_block}
use Rattle.wfc_blocks.proofs.lines.block_lines.Goals as goal

pub returns : goal.returns
returns c =
    let texts : List (List ℕ) = map (λ text. text.items) c.args.texts.now in
    let line : Pin → PinView = λ pin. set_line texts pin.column pin.row pin.number in
    record {
      value = c.in_ok-push_within.ensures.within
          ∙ ap (λ lines. lines ++ lines_within c.args.block c.args.pins.now)
          (c.in_ok-lines.ensures.value ∙ ap (map line) (c.deref.ensures.value ∙ c.in_ok-marks.ensures.value) ∙ map_block line kept_pin (canvas_of c.args.canvas.now) c.args.block);
    }
