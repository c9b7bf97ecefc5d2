use Rattle.wfc_blocks.proofs.PaintLemmas.{unset_in}
use Rattle.wfc_blocks.proofs.canvas.Canvas.new.Goals as goal

pub returns-clause-empty : goal.returns-clause-empty
returns-clause-empty c = unset_in c.args.width c.args.height c.in_ok-unset_entries.field-0.items c.in_ok-unset_entries.ensures.unset
