-- Small tile sets and pictures for laws.
use Rattle.std.specs.Prelude.{ℕ, List, [], ◌∷◌, codes, None, Some}
use Rattle.wfc_picture.specs.declared.symbol.Kind.TheVariants as kinds
use Rattle.wfc_picture.specs.declared.symbol.Symbol.{Symbol}
use Rattle.wfc_picture.specs.declared.symbol.Symbol.TheVariants.{Char, Rgb}
use Rattle.wfc_symmetry.specs.declared.class.Class.{Class}
use Rattle.wfc_symmetry.specs.declared.class.Class.TheVariants.{X, I, T, F}
use Rattle.wfc_tileset.specs.declared.tile.End.{End}
use Rattle.wfc_tileset.specs.Pictures.{variant_pixel}
use Rattle.wfc_tileset.specs.Tiles.{PictureView, TileView, TileSetView}

-- a tile of a class, without a name
abbrev pub tile_of_class : Class → TileView
tile_of_class class = record { name = []; class = class; weight = 1; picture = None }

-- an end of a pair
abbrev pub small_pair_end : ℕ → ℕ → End
small_pair_end tile turn = record { tile = tile; turn = turn }

-- one straight line, which may go on to the right
abbrev pub straight_lines : TileSetView
straight_lines = record {
  tiles = tile_of_class I ∷ [];
  pairs = record { left = small_pair_end 0 0; right = small_pair_end 0 0 } ∷ [];
  pictures = [];
}

-- a tile without symmetry after action 5, to the left of a junction after a quarter turn
abbrev pub crossing : TileSetView
crossing = record {
  tiles = tile_of_class F ∷ tile_of_class T ∷ [];
  pairs = record { left = small_pair_end 0 5; right = small_pair_end 1 1 } ∷ [];
  pictures = [];
}

-- a picture of two by two characters, all different
abbrev pub four_characters : PictureView
four_characters = record { kind = kinds.Grid; side = 2; pixels = Char 97 ∷ Char 98 ∷ Char 99 ∷ Char 100 ∷ [] }

-- what variant i of a tile with a picture of two by two shows, row by row
abbrev pub four_shown : PictureView → ℕ → List Symbol
four_shown picture i =
    variant_pixel picture i 0 0 ∷ variant_pixel picture i 1 0 ∷ variant_pixel picture i 0 1
    ∷ variant_pixel picture i 1 1 ∷ []

-- what each of the eight variants of a tile with the picture of four characters shows, row by row
abbrev pub four_variants : List (List Symbol)
four_variants =
    (Char 97 ∷ Char 98 ∷ Char 99 ∷ Char 100 ∷ [])
    ∷ (Char 98 ∷ Char 100 ∷ Char 97 ∷ Char 99 ∷ [])
    ∷ (Char 100 ∷ Char 99 ∷ Char 98 ∷ Char 97 ∷ [])
    ∷ (Char 99 ∷ Char 97 ∷ Char 100 ∷ Char 98 ∷ [])
    ∷ (Char 98 ∷ Char 97 ∷ Char 100 ∷ Char 99 ∷ [])
    ∷ (Char 100 ∷ Char 98 ∷ Char 99 ∷ Char 97 ∷ [])
    ∷ (Char 99 ∷ Char 100 ∷ Char 97 ∷ Char 98 ∷ [])
    ∷ (Char 97 ∷ Char 99 ∷ Char 98 ∷ Char 100 ∷ []) ∷ []

-- a picture of one colour
abbrev pub one_colour : ℕ → PictureView
one_colour maxval = record { kind = kinds.Ppm maxval; side = 1; pixels = Rgb (record { r = 1; g = 2; b = 3 }) ∷ [] }

-- a tile of class X with the name of a picture
abbrev pub drawn_tile : List ℕ → TileView
drawn_tile picture = record { name = []; class = X; weight = 1; picture = Some picture }

-- two tiles with pictures of colours, of which the first is taken
abbrev pub one_taken : TileSetView
one_taken = record { tiles = drawn_tile (codes "a.ppm") ∷ drawn_tile (codes "b.PPM") ∷ []; pairs = []; pictures = one_colour 9 ∷ [] }

-- files for the second of them: one that is no picture, one of another maxval, and one of another side
abbrev pub faulty_files : List (List ℕ)
faulty_files =
    codes "P3 1 1 0 1 2 3" ∷ codes "P3 2 2 8 1 2 3 1 2 3 1 2 3 1 2 3"
    ∷ codes "P3 2 2 9 1 2 3 1 2 3 1 2 3 1 2 3" ∷ []
