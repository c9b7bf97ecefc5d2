use Rattle.std.proofs.Common.{◌≡◌, length, ap, arith}
use Rattle.wfc_symmetry.specs.Class.{variant_count}
use Rattle.wfc_tileset.specs.Tiles.{TileView}
use Rattle.wfc_tileset.proofs.VariantLemmas.{numbered_fits, numbered_more}
use Rattle.wfc_tileset.proofs.variants.Variants.new.Goals as goal

pub overflow_cast-t : goal.overflow_cast-t
overflow_cast-t c =
    let fits = numbered_fits c.args.tiles.items c.deref-tile-items.result.now c.loop-tile.tile-index _ _ c.deref-tile-items.ensures.value c.requires.limit c.loop-tile.invariant (omega arith) in
    omega (arith, fits.1, c.len-t.ensures)

pub overflow_cast-len : goal.overflow_cast-len
overflow_cast-len c =
    let fits = numbered_fits c.args.tiles.items c.deref-tile-items.result.now c.loop-tile.tile-index _ _ c.deref-tile-items.ensures.value c.requires.limit c.loop-tile.invariant (omega arith) in
    omega (arith, fits.0, c.len.ensures)

pub loop-tile-preserved : goal.loop-tile-preserved
loop-tile-preserved c =
    let is_t : c.len-t.result ≡ length c.loop-tile.first.items = omega (arith, c.len-t.ensures) in
    let is_n : c.len.result ≡ length c.loop-tile.list.items = omega (arith, c.len.ensures) in
    numbered_more c.deref-tile-items.result.now c.loop-tile.tile-index c.len-t.result c.len.result _ c.tile-item.result _ _ _ _
    c.loop-tile.invariant (omega arith) c.tile-item.is is_t is_n (ap (λ (t : TileView). variant_count t.class) c.tile.view_is)
    c.in_ok-push.ensures.items c.in_ok-push_variants.ensures.pushed
