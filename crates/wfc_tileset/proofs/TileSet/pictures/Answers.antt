use Rattle.std.proofs.Common.{◌≤◌, length, arith}
use Rattle.wfc_tileset.specs.declared.variants.TheConstants.{MAX_VARIANTS}
use Rattle.wfc_tileset.specs.Tiles.{variant_total}
use Rattle.wfc_tileset.proofs.VariantLemmas.{few_tiles}
use Rattle.wfc_tileset.proofs.TileSet.pictures.Goals as goal

pub overflow_cast-result : goal.overflow_cast-result
overflow_cast-result c =
    let few : length c.self.inside.pictures.items ≤ length c.self.inside.variants = c.self.invariant.drawn.few in
    let limit : variant_total c.self.inside.variants ≤ MAX_VARIANTS = c.self.invariant.tile_set.limit in
    omega (arith, few_tiles c.self.inside.variants)
