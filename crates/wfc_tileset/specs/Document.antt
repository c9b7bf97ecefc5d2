-- What a document says of a tile set, or the first thing that is wrong with it. Pictures are named and not read.
use Rattle.std.specs.Prelude.{ℕ, ◌-◌, Bool, true, false, not, ◌&&◌, ◌||◌, ◌==◌, nat_le, nat_eq, if◌then◌else◌, List, []}
use Rattle.std.specs.Prelude.{◌∷◌, ◌++◌, length, take, drop, codes, ℤ, pos, negsuc, Option, Some, None, Result, Ok, Err}
use Rattle.std.specs.Option.{ok_or}
use Rattle.std.specs.List.{list_all, list_any, position, position_or_len, ends_with}
use Rattle.std.specs.Str.{bytes_eq, is_utf8}
use Rattle.toml.specs.Data.{Data, Items, no_items, item, Members, get_member, as_str, as_integer, as_array, as_table}
use Rattle.toml.specs.Parse.{parse_document}
use Rattle.wfc_symmetry.specs.declared.class.Class.{Class}
use Rattle.wfc_symmetry.specs.declared.class.Class.TheVariants.{X, I, L, T, F, Slash}
use Rattle.wfc_tileset.specs.declared.fault.Place.{Place}
use Rattle.wfc_tileset.specs.declared.fault.Place.TheVariants as place
use Rattle.wfc_tileset.specs.declared.fault.Key.{Key}
use Rattle.wfc_tileset.specs.declared.fault.Key.TheVariants as key
use Rattle.wfc_tileset.specs.declared.fault.TileFault.{TileFault}
use Rattle.wfc_tileset.specs.declared.fault.TileFault.TheVariants as fault
use Rattle.wfc_tileset.specs.declared.tile.End.{End}
use Rattle.wfc_tileset.specs.declared.tile.Pair.{Pair}
use Rattle.wfc_tileset.specs.declared.variants.TheConstants.{MAX_VARIANTS}
use Rattle.wfc_tileset.specs.Tiles.{TileView, TileSetView, variant_total}

-- the first step, and the second with what the first gave, up to the first fault
abbrev pub result_then : {A B : Type 0} → Result A TileFault → (A → Result B TileFault) → Result B TileFault
result_then (Ok x) f = f x
result_then (Err e) f = Err e

infixl 10 ◌>>=◌
-- the same, written between the two steps
abbrev ◌>>=◌ : {A B : Type 0} → Result A TileFault → (A → Result B TileFault) → Result B TileFault
r >>= f = result_then r f

-- ---- kinds of values

-- a text that has to be there
abbrev pub required_text : Place → Key → Option Data → Result (List ℕ) TileFault
required_text place key None = Err (fault.MissingKey place key)
required_text place key (Some d) = ok_or (as_str d) (fault.WrongKind place key)

-- the elements of an array, none where it is missing
abbrev pub elements_in : Key → Option Data → Result Items TileFault
elements_in key None = Ok no_items
elements_in key (Some d) = ok_or (as_array d) (fault.WrongKind place.Top key)

-- an element of an array, which has to be a table
abbrev pub table_in : Place → Key → Data → Result Members TileFault
table_in place key d = ok_or (as_table d) (fault.WrongKind place key)

-- ---- a tile, behind those before it

-- a letter, a digit, `_` or `-`
abbrev pub is_name_byte : ℕ → Bool
is_name_byte b =
    (nat_le 48 b && nat_le b 57) ||
    ((nat_le 65 b && nat_le b 90) || ((nat_le 97 b && nat_le b 122) || (b == 95 || b == 45)))

-- 1 to 64 of these
abbrev pub is_name : List ℕ → Bool
is_name name = (nat_le 1 (length name) && nat_le (length name) 64) && list_all is_name_byte name

-- whether a tile has this name
abbrev pub has_name : List ℕ → TileView → Bool
has_name name tile = bytes_eq tile.name name

-- the name of a tile behind those before it: it has to be there, to be a name, and to be none of theirs
abbrev pub name_in : List TileView → Option Data → Result (List ℕ) TileFault
name_in before d =
    required_text (place.Tile (length before)) key.Name d >>= (λ name.
    if not (is_name name) then Err (fault.BadName (length before))
    else if list_any (has_name name) before then Err (fault.DoubleName (length before)) else Ok name)

-- a class by its letter, or by a backslash
abbrev pub symmetry_class : List ℕ → Option Class
symmetry_class text =
    if bytes_eq text (codes "X") then Some X else if bytes_eq text (codes "I") then Some I
    else if bytes_eq text (92 ∷ []) then Some Slash
    else if bytes_eq text (codes "L") then Some L else if bytes_eq text (codes "T") then Some T
    else if bytes_eq text (codes "F") then Some F else None

-- the class of tile t, which has to be there
abbrev pub class_in : ℕ → Option Data → Result Class TileFault
class_in t d = required_text (place.Tile t) key.Class d >>= (λ text. ok_or (symmetry_class text) (fault.BadClass t))

-- a weight of 1 to 1,000,000
abbrev pub tile_weight : ℤ → Option ℕ
tile_weight (pos n) = if nat_le 1 n && nat_le n 1000000 then Some n else None
tile_weight (negsuc n) = None

-- the weight of tile t, which is 1 where none is said
abbrev pub weight_in : ℕ → Option Data → Result ℕ TileFault
weight_in t None = Ok 1
weight_in t (Some d) =
    ok_or (as_integer d) (fault.WrongKind (place.Tile t) key.Weight) >>= (λ z. ok_or (tile_weight z) (fault.BadWeight t))

-- the name of a picture's file, if any
abbrev pub picture_in : ℕ → Option Data → Result (Option (List ℕ)) TileFault
picture_in t None = Ok None
picture_in t (Some d) =
    result_then (ok_or (as_str d) (fault.WrongKind (place.Tile t) key.Picture))
    (λ name. Ok (Some name))

-- a file of this name is read as a PPM
abbrev pub is_ppm_name : List ℕ → Bool
is_ppm_name name = ends_with nat_eq name (codes ".ppm") || ends_with nat_eq name (codes ".PPM")

-- neither tile has a picture, or both have one of one kind
abbrev pub same_kind : Option (List ℕ) → Option (List ℕ) → Bool
same_kind None None = true
same_kind (Some a) (Some b) = if is_ppm_name a then is_ppm_name b else not (is_ppm_name b)
same_kind None (Some b) = false
same_kind (Some a) None = false

-- the picture is of the kind of the first tile's
abbrev pub fits_first : List TileView → Option (List ℕ) → Bool
fits_first [] picture = true
fits_first (first ∷ before) picture = same_kind first.picture picture

-- a tile with these parts
abbrev pub tile_with : List ℕ → Class → ℕ → Option (List ℕ) → TileView
tile_with name class weight picture = record { name = name; class = class; weight = weight; picture = picture }

-- the tile that a table says, behind those before it: its name, class, weight and picture are looked at in this order
abbrev pub tile_from : List TileView → Members → Result TileView TileFault
tile_from before ms =
    name_in before (get_member (codes "name") ms) >>= (λ name.
    class_in (length before) (get_member (codes "class") ms) >>= (λ class.
    weight_in (length before) (get_member (codes "weight") ms) >>= (λ weight.
    picture_in (length before) (get_member (codes "picture") ms) >>= (λ picture.
    if fits_first before picture then Ok (tile_with name class weight picture)
    else Err (fault.MixedKinds (length before))))))

-- the tile that an element says, behind those before it
abbrev pub tile_of_element : List TileView → Data → Result TileView TileFault
tile_of_element before d = result_then (table_in (place.Tile (length before)) key.Tile d) (tile_from before)

-- the tiles behind those before them
abbrev pub tiles_from : List TileView → Items → Result (List TileView) TileFault
tiles_from before no_items = Ok before
tiles_from before (item d ds) =
    result_then (tile_of_element before d) (λ tile. tiles_from (before ++ tile ∷ []) ds)

-- ---- pairs

-- one digit 0 to 7 behind a blank, or nothing
abbrev pub turn_digit : List ℕ → Option ℕ
turn_digit [] = Some 0
turn_digit (blank ∷ []) = None
turn_digit (blank ∷ digit ∷ []) = if nat_le 48 digit && nat_le digit 55 then Some (digit - 48) else None
turn_digit (blank ∷ digit ∷ more ∷ rest) = None

-- how many bytes stand before the first blank
abbrev pub name_length : List ℕ → ℕ
name_length text = position_or_len (λ b. b == 32) text

-- an end of a pair with these parts: the number of a tile, and an action
abbrev pub pair_end_with : ℕ → ℕ → End
pair_end_with tile turn = record { tile = tile; turn = turn }

-- an end of a pair: a tile's name, and behind a blank an action
abbrev pub pair_end_from : List TileView → ℕ → List ℕ → Result End TileFault
pair_end_from tiles pair text =
    ok_or (position (has_name (take (name_length text) text)) tiles) (fault.UnknownTile pair) >>= (λ tile.
    ok_or (turn_digit (drop (name_length text) text)) (fault.BadTurn pair) >>= (λ turn. Ok (pair_end_with tile turn)))

-- an end of a pair under its key, which has to be there
abbrev pub pair_end_in : List TileView → ℕ → Key → Option Data → Result End TileFault
pair_end_in tiles pair key d = required_text (place.Pair pair) key d >>= pair_end_from tiles pair

-- a pair with these two ends
abbrev pub pair_with : End → End → Pair
pair_with left right = record { left = left; right = right }

-- the pair that a table says, the left end looked at first
abbrev pub pair_from : List TileView → ℕ → Members → Result Pair TileFault
pair_from tiles pair ms =
    pair_end_in tiles pair key.Left (get_member (codes "left") ms) >>= (λ left.
    pair_end_in tiles pair key.Right (get_member (codes "right") ms) >>= (λ right. Ok (pair_with left right)))

-- the pairs behind those before them
abbrev pub pairs_from : List TileView → List Pair → Items → Result (List Pair) TileFault
pairs_from tiles before no_items = Ok before
pairs_from tiles before (item d ds) =
    result_then (result_then (table_in (place.Pair (length before)) key.Pair d) (pair_from tiles (length before)))
    (λ pair. pairs_from tiles (before ++ pair ∷ []) ds)

-- ---- the document

-- at least one tile
abbrev pub some_tiles : Items → Result (List TileView) TileFault
some_tiles no_items = Err fault.NoTiles
some_tiles (item d ds) = tiles_from [] (item d ds)

-- and no more variants than a tile set has
abbrev pub few_variants : List TileView → Result (List TileView) TileFault
few_variants tiles =
    if nat_le (variant_total tiles) MAX_VARIANTS then Ok tiles
    else Err (fault.TooManyVariants (variant_total tiles))

-- a tile set of which no picture is taken
abbrev pub set_with : List TileView → List Pair → TileSetView
set_with tiles pairs = record { tiles = tiles; pairs = pairs; pictures = [] }

-- the tile set of a document
abbrev pub set_from : Members → Result TileSetView TileFault
set_from ms =
    elements_in key.Tile (get_member (codes "tile") ms) >>= (λ tile_items.
    elements_in key.Pair (get_member (codes "pair") ms) >>= (λ pair_items.
    some_tiles tile_items >>= few_variants >>= (λ tiles.
    pairs_from tiles [] pair_items >>= (λ pairs. Ok (set_with tiles pairs)))))

-- the document that bytes spell
abbrev pub parsed_document : List ℕ → Result Members TileFault
parsed_document bytes = if is_utf8 bytes then ok_or (parse_document bytes) fault.Toml else Err fault.Toml

-- the tile set of bytes
abbrev pub set_of : List ℕ → Result TileSetView TileFault
set_of bytes = result_then (parsed_document bytes) set_from
