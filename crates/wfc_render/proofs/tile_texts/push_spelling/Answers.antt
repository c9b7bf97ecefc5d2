use Rattle.std.proofs.Common.{◌<◌, length, subst, sym, arith}
use Rattle.wfc_symmetry.specs.Class.{variant_count}
use Rattle.wfc_tileset.specs.Tiles.{Variant, tile_at}
use Rattle.wfc_tileset.proofs.CallerLemmas.{variant_there}
use Rattle.wfc_tileset.proofs.SpellingLemmas.{eight}
use Rattle.wfc_render.proofs.tile_texts.push_spelling.Goals as goal

pub name-requires : goal.name-requires
name-requires c =
    let tiles = c.args.tiles.now.tiles in
    record { tile_in = subst (λ (p : Variant). p.0 < length tiles) (sym c.tile_of-tile.ensures.value) (variant_there tiles c.args.v c.requires.v_in).tile_in }

pub overflow_add-index : goal.overflow_add-index
overflow_add-index c =
    let tiles = c.args.tiles.now.tiles in
    let there = variant_there tiles c.args.v c.requires.v_in in
    let index : c.tile_of-tile.result.1 < variant_count (tile_at tiles c.tile_of-tile.result.0).class =
    subst (λ (p : Variant). p.1 < variant_count (tile_at tiles p.0).class) (sym c.tile_of-tile.ensures.value) there.index_in in
    omega (arith, eight (tile_at tiles c.tile_of-tile.result.0).class)
