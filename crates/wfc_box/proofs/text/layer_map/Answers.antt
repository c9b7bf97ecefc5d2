use Rattle.std.proofs.Common.{◌∙◌}
use Rattle.wfc_tiled.proofs.CallerLemmas.{plain_map}
use Rattle.wfc_box.proofs.text.layer_map.Goals as goal

pub returns : goal.returns
returns c = record { value = c.in_ok-picture.ensures.value ∙ plain_map c.args.width c.args.height c.args.cells.now c.requires.each_cell }
