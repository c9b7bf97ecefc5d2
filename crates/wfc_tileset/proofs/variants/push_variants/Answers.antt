use Rattle.wfc_tileset.proofs.VariantLemmas.{row_more}
use Rattle.wfc_tileset.proofs.variants.push_variants.Goals as goal

pub loop-index-preserved : goal.loop-index-preserved
loop-index-preserved c = row_more _ _ _ _ _ c.loop-index.invariant c.in_ok-push.ensures.items
