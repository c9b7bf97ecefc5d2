use Rattle.std.proofs.Common.{◌≡◌, position, rules}
use Rattle.wfc_tileset.specs.Document.{has_name}
use Rattle.wfc_tileset.proofs.NameLemmas.{place_inside}
use Rattle.wfc_tileset.proofs.pairs.named_tile.Goals as goal

pub returns-clause-tile_in : goal.returns-clause-tile_in
returns-clause-tile_in c =
    let found : c.copied.result ≡ position (has_name c.args.name.now) c.args._tiles.now = search rules in
    place_inside (has_name c.args.name.now) c.args._tiles.now c.copied.result found
