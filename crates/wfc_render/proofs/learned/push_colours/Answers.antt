use Rattle.wfc_render.specs.Learned.{colour_line}
use Rattle.wfc_render.proofs.RangeLemmas.{written_next}
use Rattle.wfc_render.proofs.learned.push_colours.Goals as goal

pub loop-k-preserved : goal.loop-k-preserved
loop-k-preserved c = written_next (colour_line c.args.palette.now) c.loop-k.k c.push_head.new.text.items c.loop-k.text.items c.push_colour.new.text.items c.loop-k.invariant c.in_ok-push_colour.ensures.line
