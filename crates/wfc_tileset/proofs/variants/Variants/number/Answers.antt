use Rattle.std.proofs.Common.{◌+◌, ◌<◌, List, length, subst, arith, ◌≡◌}
use Rattle.wfc_tileset.specs.Tiles.{TileView, variant_total}
use Rattle.wfc_tileset.specs.Numbers.{IsNumbered, tile_start}
use Rattle.wfc_tileset.proofs.VariantLemmas.{length_begun, begun_at, number_below}
use Rattle.wfc_tileset.proofs.variants.Variants.number.Goals as goal

pub index-requires : goal.index-requires
index-requires c =
    let is = subst (λ (ts : List TileView). IsNumbered ts c.self.inside.list.items c.self.inside.first.items) c.self.view_is c.self.invariant in
    let long : length c.self.inside.first.items ≡ length c.args.self.now = length_begun _ _ _ is in
    omega (arith, c.requires.variant.tile_in)

pub overflow_add-result : goal.overflow_add-result
overflow_add-result c =
    let is = subst (λ (ts : List TileView). IsNumbered ts c.self.inside.list.items c.self.inside.first.items) c.self.view_is c.self.invariant in
    let read : c.index.result.now ≡ tile_start c.args.self.now c.args.variant.0 = begun_at _ _ _ is _ _ c.requires.variant.tile_in c.index.ensures in
    let below : tile_start c.args.self.now c.args.variant.0 + c.args.variant.1 < variant_total c.args.self.now = number_below _ _ _ c.requires.variant.tile_in c.requires.variant.index_in in
    omega (arith, is.limit, c.from.ensures)

pub returns-clause-value : goal.returns-clause-value
returns-clause-value c =
    let is = subst (λ (ts : List TileView). IsNumbered ts c.self.inside.list.items c.self.inside.first.items) c.self.view_is c.self.invariant in
    let read : c.index.result.now ≡ tile_start c.args.self.now c.args.variant.0 = begun_at _ _ _ is _ _ c.requires.variant.tile_in c.index.ensures in
    omega (arith, c.from.ensures)

pub returns-clause-number_in : goal.returns-clause-number_in
returns-clause-number_in c =
    let is = subst (λ (ts : List TileView). IsNumbered ts c.self.inside.list.items c.self.inside.first.items) c.self.view_is c.self.invariant in
    let read : c.index.result.now ≡ tile_start c.args.self.now c.args.variant.0 = begun_at _ _ _ is _ _ c.requires.variant.tile_in c.index.ensures in
    let below : tile_start c.args.self.now c.args.variant.0 + c.args.variant.1 < variant_total c.args.self.now = number_below _ _ _ c.requires.variant.tile_in c.requires.variant.index_in in
    omega (arith, c.from.ensures)
