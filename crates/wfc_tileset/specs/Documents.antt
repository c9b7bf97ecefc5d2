-- Small documents for laws.
use Rattle.std.specs.Prelude.{◌≡◌, ℕ, List, [], ◌∷◌, codes, pos, true, None, Some, Option, Result, Ok, Err}
use Rattle.wfc_symmetry.specs.declared.class.Class.{Class}
use Rattle.wfc_symmetry.specs.declared.class.Class.TheVariants.{X, I, L, T, F, Slash}
use Rattle.wfc_tileset.specs.Document.{some_tiles, tile_with}
use Rattle.wfc_tileset.specs.declared.fault.Place.TheVariants as place
use Rattle.wfc_tileset.specs.declared.fault.Key.TheVariants as key
use Rattle.wfc_tileset.specs.declared.fault.TileFault.{TileFault}
use Rattle.wfc_tileset.specs.declared.fault.TileFault.TheVariants as fault
use Rattle.wfc_tileset.specs.Tiles.{TileView, TileSetView, variant_total}
use Rattle.toml.specs.Data.{Data, string, integer, boolean, array, table, Items, no_items, item, Members, get_member, no_members, member}

-- a tile with a name and a class
abbrev pub tile_data : List ℕ → List ℕ → Data
tile_data name class = table (member (codes "class") (string class) (member (codes "name") (string name) no_members))

-- a tile with a name, the class `T`, the name of a picture and a weight
abbrev pub drawn_data : List ℕ → List ℕ → ℕ → Data
drawn_data name picture weight =
    table (member (codes "class") (string (codes "T")) (member (codes "name") (string name)
    (member (codes "picture") (string picture) (member (codes "weight") (integer (pos weight)) no_members))))

-- a pair
abbrev pub pair_data : List ℕ → List ℕ → Data
pair_data left right = table (member (codes "left") (string left) (member (codes "right") (string right) no_members))

-- the elements of an array
abbrev pub items_of : List Data → Items
items_of [] = no_items
items_of (d ∷ ds) = item d (items_of ds)

-- a document of tiles and pairs
abbrev pub document_of : List Data → List Data → Members
document_of tiles pairs =
    member (codes "pair") (array (items_of pairs))
    (member (codes "tile") (array (items_of tiles)) no_members)

-- two tiles as elements of an array: one without symmetry, and a junction
abbrev pub tiles_f_t : List Data
tiles_f_t = tile_data (codes "f") (codes "F") ∷ tile_data (codes "t") (codes "T") ∷ []

-- a document of those two tiles and a pair with these ends
abbrev pub with_pair : List ℕ → List ℕ → Members
with_pair left right = document_of tiles_f_t (pair_data left right ∷ [])

-- the table of a tile with a weight
abbrev pub table_of_tile : List ℕ → List ℕ → ℕ → Members
table_of_tile name class weight =
    member (codes "class") (string class)
    (member (codes "name") (string name) (member (codes "weight") (integer (pos weight)) no_members))

-- tiles without symmetry and a junction
abbrev pub two_tiles : List TileView
two_tiles = tile_with (codes "f") F 1 None ∷ tile_with (codes "t") T 1 None ∷ []

-- documents of which a pair has a fault
abbrev pub wrong_pairs : List Members
wrong_pairs =
    with_pair (codes "f 8") (codes "g")
    ∷ with_pair (codes "g 8") (codes "f 8")
    ∷ with_pair (codes "f ") (codes "t")
    ∷ with_pair (codes "f 1 ") (codes "t")
    ∷ with_pair (codes "f") (codes "t  1")
    ∷ with_pair (codes "f") (codes "")
    ∷ document_of tiles_f_t (pair_data (codes "f") (codes "t") ∷ boolean true ∷ [])
    ∷ document_of tiles_f_t
    (table (member (codes "right") (string (codes "f")) no_members) ∷ [])
    ∷ document_of tiles_f_t (table (member (codes "left") (integer (pos 7)) no_members) ∷ [])
    ∷ []

-- the first fault of each of these
abbrev pub wrong_pair_faults : List (Result TileSetView TileFault)
wrong_pair_faults =
    Err (fault.BadTurn 0) ∷ Err (fault.UnknownTile 0) ∷ Err (fault.BadTurn 0)
    ∷ Err (fault.BadTurn 0)
    ∷ Err (fault.BadTurn 0) ∷ Err (fault.UnknownTile 0)
    ∷ Err (fault.WrongKind (place.Pair 1) key.Pair)
    ∷ Err (fault.MissingKey (place.Pair 0) key.Left)
    ∷ Err (fault.WrongKind (place.Pair 0) key.Left) ∷ []

-- documents of which a tile, or one of the two arrays, has a fault
abbrev pub wrong_tiles : List Members
wrong_tiles =
    document_of [] (boolean true ∷ [])
    ∷ member (codes "pair") (boolean true) no_members
    ∷ member (codes "pair") (boolean true) (member (codes "tile") (boolean true) no_members)
    ∷ document_of (tile_data (codes "f") (codes "Y") ∷ boolean true ∷ []) []
    ∷ document_of
    (tile_data (codes "f") (codes "F") ∷ tile_data (codes "f") (codes "Y") ∷ []) []
    ∷ document_of
    (tile_data (codes "f") (codes "F") ∷ tile_data (codes "f.") (codes "Y") ∷ []) []
    ∷ document_of (table no_members ∷ []) (boolean true ∷ [])
    ∷ document_of (drawn_data (codes "a") (codes "b") 0 ∷ []) []
    ∷ document_of (drawn_data (codes "a") (codes "b.ppm") 1
    ∷ drawn_data (codes "c") (codes "d.PPM") 1000000
    ∷ tile_data (codes "e") (codes "X") ∷ []) []
    ∷ document_of (drawn_data (codes "a") (codes "b.txt") 1
    ∷ drawn_data (codes "c") (codes "d.PPM") 1 ∷ []) []
    ∷ []

-- the first fault of each of these
abbrev pub wrong_tile_faults : List (Result TileSetView TileFault)
wrong_tile_faults =
    Err fault.NoTiles ∷ Err (fault.WrongKind place.Top key.Pair)
    ∷ Err (fault.WrongKind place.Top key.Tile)
    ∷ Err (fault.BadClass 0) ∷ Err (fault.DoubleName 1) ∷ Err (fault.BadName 1)
    ∷ Err (fault.MissingKey (place.Tile 0) key.Name)
    ∷ Err (fault.BadWeight 0) ∷ Err (fault.MixedKinds 2) ∷ Err (fault.MixedKinds 1) ∷ []

-- the two arrays of a document
abbrev pub HasArrays : Members → Items → Items → Type 0
HasArrays ms tiles pairs =
    (get_member (codes "tile") ms ≡ Some (array tiles)) × (get_member (codes "pair") ms ≡ Some (array pairs))

-- the elements of an array are tiles that have so many variants together
abbrev pub HasVariants : Items → ℕ → Type 0
HasVariants items count = (tiles : List TileView) × (some_tiles items ≡ Ok tiles) × (variant_total tiles ≡ count)

-- the bytes just beside those of a name
abbrev pub bytes_beside : List ℕ
bytes_beside = codes "@[`{/: ."

-- the six words that are classes, and three that are none
abbrev pub class_words : List (List ℕ)
class_words =
    codes "X" ∷ codes "I" ∷ codes "L" ∷ codes "T" ∷ codes "F" ∷ (92 ∷ []) ∷ codes "x" ∷ codes "XX" ∷ [] ∷ []

-- the class of each of them
abbrev pub classes_of_words : List (Option Class)
classes_of_words = Some X ∷ Some I ∷ Some L ∷ Some T ∷ Some F ∷ Some Slash ∷ None ∷ None ∷ None ∷ []
