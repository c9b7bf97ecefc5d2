use Rattle.wfc_render.specs.LearnedTiles.{pair_lines}
use Rattle.wfc_render.proofs.RangeLemmas.{written_next}
use Rattle.wfc_render.proofs.tile_texts.push_pairs.Goals as goal

pub loop-v-preserved : goal.loop-v-preserved
loop-v-preserved c = written_next (pair_lines c.args.way c.args.tiles.now) c.loop-v.v c.push_head.new.text.items c.loop-v.text.items c.push_pairs_of.new.text.items c.loop-v.invariant c.in_ok-push_pairs_of.ensures.lines
