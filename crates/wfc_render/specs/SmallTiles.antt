-- Small tile sets, for laws: one with a picture, and one with names and weights.
use Rattle.std.specs.Prelude.{[], ◌∷◌, codes, None}
use Rattle.wfc_symmetry.specs.declared.class.Class.TheVariants.{X, L, F}
use Rattle.wfc_tileset.specs.Samples.{four_characters, small_pair_end, tile_of_class}
use Rattle.wfc_tileset.specs.Tiles.{TileSetView}

-- a tile without symmetry, of two by two characters
abbrev pub four_shown_tiles : TileSetView
four_shown_tiles = record { tiles = tile_of_class F ∷ []; pairs = []; pictures = four_characters ∷ [] }

-- grass of weight 30, which may stand to the left of the first variant of a bend of weight 7
abbrev pub grass_and_bend : TileSetView
grass_and_bend = record {
  tiles = record { name = codes "grass"; class = X; weight = 30; picture = None }
      ∷ record { name = codes "bend"; class = L; weight = 7; picture = None } ∷ [];
  pairs = record { left = small_pair_end 0 0; right = small_pair_end 1 0 } ∷ [];
  pictures = [];
}
