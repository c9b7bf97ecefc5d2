use Rattle.wfc_render.specs.LearnedTiles.{variant_line}
use Rattle.wfc_render.proofs.RangeLemmas.{written_next}
use Rattle.wfc_render.proofs.tile_texts.push_variants.Goals as goal

pub loop-v-preserved : goal.loop-v-preserved
loop-v-preserved c = written_next (variant_line c.args.tiles.now) c.loop-v.v c.push_head.new.text.items c.loop-v.text.items c.push_variant.new.text.items c.loop-v.invariant c.in_ok-push_variant.ensures.line
