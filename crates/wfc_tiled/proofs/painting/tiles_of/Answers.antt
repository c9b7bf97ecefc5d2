use Rattle.std.proofs.Common.{◌*◌, length, sym, ap, ◌∙◌}
use Rattle.std.proofs.lemmas.List.FromFn.{length-range_with_len}
use Rattle.wfc_tiled.specs.Mask.{MaskView}
use Rattle.wfc_tiled.proofs.painting.tiles_of.Goals as goal

pub tiles_of_masked-requires : goal.tiles_of_masked-requires
tiles_of_masked-requires c = record {
  each_cell = c.requires.each_cell ∙ sym (ap (λ (m : MaskView). length m.places) c.in_ok-mask.ensures.value ∙ length-range_with_len 0 (c.args.width * c.args.height));
}
