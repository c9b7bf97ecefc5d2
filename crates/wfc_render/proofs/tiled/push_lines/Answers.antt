use Rattle.std.proofs.Common.{[], get_or}
use Rattle.wfc_render.specs.Drawn.{drawn_line}
use Rattle.wfc_render.proofs.RangeLemmas.{written_next}
use Rattle.wfc_render.proofs.tiled.push_lines.Goals as goal

pub loop-j-preserved : goal.loop-j-preserved
loop-j-preserved c =
    written_next (drawn_line c.args.form c.args.tiles.now (get_or c.args.picture.now.rows c.args.y [])) c.loop-j.j c.args.text.now.items c.loop-j.text.items c.push_line.new.text.items
    c.loop-j.invariant c.in_ok-push_line.ensures.line
