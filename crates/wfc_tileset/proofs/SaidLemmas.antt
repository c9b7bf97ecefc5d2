-- A document that says a tile set is read as that one.
use Rattle.std.proofs.Common.{◌≡◌, ◌⊎◌, ℕ, ◌<◌, ◌≤◌, Bool, true, false, not, ◌&&◌, nat_le, if◌then◌else◌, List, [], ◌∷◌, ◌++◌, append-nil, append_assoc, length, inl, inr, Option, None, Some, Result, Ok, Err, ap, sym, subst, refl, ◌∙◌, arith}
use Rattle.std.specs.Prelude.{pos, codes}
use Rattle.std.specs.List.{All, list_any}
use Rattle.std.specs.Option.{ok_or, option_map}
use Rattle.std.proofs.Math.Seq.{get_or-append_seam}
use Rattle.std.proofs.lemmas.Bool.{le-leb}
use Rattle.toml.specs.Data.{Data, string, integer, array, Items, no_items, item, Members, get_member}
use Rattle.wfc_symmetry.specs.declared.class.Class.{Class}
use Rattle.wfc_tileset.specs.Document.{result_then, class_in, elements_in, few_variants, fits_first, has_name, is_name, name_in, pairs_from, parsed_document, picture_in, set_from, set_of, set_with, some_tiles, symmetry_class, tile_from, tiles_from, weight_in}
use Rattle.wfc_tileset.specs.Says.{AreNamedBehind, AreSaid, SaysSet, SaysTile}
use Rattle.wfc_tileset.specs.Tiles.{TileView, TileSetView, HasWeight, variant_total}
use Rattle.wfc_tileset.specs.TileSets.{AreAlike}
use Rattle.wfc_tileset.specs.declared.fault.Key.{Key}
use Rattle.wfc_tileset.specs.declared.fault.Key.TheVariants as key
use Rattle.wfc_tileset.specs.declared.fault.TileFault.{TileFault}
use Rattle.wfc_tileset.specs.declared.fault.TileFault.TheVariants as fault
use Rattle.wfc_tileset.specs.declared.variants.TheConstants.{MAX_VARIANTS}
use Rattle.wfc_tileset.proofs.DocumentLemmas.{tile_in}
use Rattle.wfc_tileset.proofs.DocumentSetLemmas.{behind_arrays, behind_class, behind_name, behind_picture, behind_tile_items, behind_tiles, behind_weight}
use Rattle.wfc_tileset.proofs.SaidPairLemmas.{HaveNames, pairs_are_read, then_ok}

-- ---- a tile

-- a name that is said, and that no tile before has
name_is_read : (before : List TileView) (d : Option Data) (name : List ℕ) → d ≡ Some (string name) → is_name name ≡ true → list_any (has_name name) before ≡ false → name_in before d ≡ Ok name
name_is_read before d name is named apart =
    ap (name_in before) is
    ∙ ap (λ t. let made : Result (List ℕ) TileFault = if not t then Err (fault.BadName (length before)) else if list_any (has_name name) before then Err (fault.DoubleName (length before)) else Ok name in made) named
    ∙ ap (λ t. let made : Result (List ℕ) TileFault = if t then Err (fault.DoubleName (length before)) else Ok name in made) apart

-- a class that is said by a word of it
class_is_read : (t : ℕ) (d : Option Data) (word : List ℕ) (class : Class) → d ≡ Some (string word) → symmetry_class word ≡ Some class → class_in t d ≡ Ok class
class_is_read t d word class is named = rw (is, named) refl

-- the weight of tile t, by whether it is great and small enough
abbrev weight_of : ℕ → ℕ → Bool → Bool → Result ℕ TileFault
weight_of t weight low high = ok_or (if low && high then Some weight else None) (fault.BadWeight t)

-- a weight that is said, or 1 where none is
weight_is_read : (t : ℕ) (d : Option Data) (tile : TileView) → HasWeight tile → ((d ≡ None) × (tile.weight ≡ 1)) ⊎ (d ≡ Some (integer (pos tile.weight))) → weight_in t d ≡ Ok tile.weight
weight_is_read t d tile fits (inl (none, one)) = rw (none, one) refl
weight_is_read t d tile fits (inr is) =
    ap (weight_in t) is
    ∙ ap (λ b. weight_of t tile.weight b (nat_le tile.weight 1000000)) (le-leb 1 tile.weight fits.some_weight)
    ∙ ap (weight_of t tile.weight true) (le-leb tile.weight 1000000 fits.small_weight)

-- the name of a picture that is said, if any
picture_is_read : (t : ℕ) (d : Option Data) (picture : Option (List ℕ)) → d ≡ option_map string picture → picture_in t d ≡ Ok picture
picture_is_read t d None is = rw is refl
picture_is_read t d (Some name) is = rw is refl

-- a tile that is said, behind others whose names and kind of pictures leave it be
tile_is_read : (before : List TileView) (ms : Members) (tile : TileView) → SaysTile ms tile → list_any (has_name tile.name) before ≡ false → HasWeight tile → fits_first before tile.picture ≡ true → tile_from before ms ≡ Ok tile
tile_is_read before ms tile says apart fits alike =
    then_ok (name_in before (get_member (codes "name") ms)) (behind_name before ms) tile.name (name_is_read before (get_member (codes "name") ms) tile.name says.name says.is_name apart)
    ∙ then_ok (class_in (length before) (get_member (codes "class") ms)) (behind_class before ms tile.name) tile.class (class_is_read (length before) (get_member (codes "class") ms) says.word tile.class says.class says.class_is)
    ∙ then_ok (weight_in (length before) (get_member (codes "weight") ms)) (behind_weight before ms tile.name tile.class) tile.weight (weight_is_read (length before) (get_member (codes "weight") ms) tile fits says.weight)
    ∙ then_ok (picture_in (length before) (get_member (codes "picture") ms)) (behind_picture before tile.name tile.class tile.weight) tile.picture (picture_is_read (length before) (get_member (codes "picture") ms) tile.picture says.picture)
    ∙ ap (λ t. let made : Result TileView TileFault = if t then Ok tile else Err (fault.MixedKinds (length before)) in made) alike

-- ---- all tiles

-- what fits the first of a list fits the first of its front
fits_front : (before : List TileView) (tile : TileView) (more : List TileView) (picture : Option (List ℕ)) → fits_first (before ++ tile ∷ more) picture ≡ true → fits_first before picture ≡ true
fits_front [] tile more picture fits = refl
fits_front (first ∷ before) tile more picture fits = fits

-- a property of all holds of the one behind a front
at_seam : (P : TileView → Type 0) (before : List TileView) (tile : TileView) (more : List TileView) → All P (before ++ tile ∷ more) → P tile
at_seam P before tile more all = subst P (get_or-append_seam before tile more tile) (all (length before) tile (omega (arith, longer before)))
  where
    longer : (before : List TileView) → length before < length (before ++ tile ∷ more)
    longer [] = omega arith
    longer (first ∷ before) = omega (arith, longer before)

-- tiles that are said, behind others
tiles_are_read : (items : Items) (before more : List TileView) → All HasWeight (before ++ more) → AreAlike (before ++ more) → AreSaid SaysTile items more → AreNamedBehind before more → tiles_from before items ≡ Ok (before ++ more)
tiles_are_read no_items before [] weighed alike said apart = ap Ok (sym (append-nil before))
tiles_are_read no_items before (tile ∷ more) weighed alike said apart = absurd said
tiles_are_read (item d ds) before [] weighed alike said apart = absurd said
tiles_are_read (item d ds) before (tile ∷ more) weighed alike said apart =
    let fits = at_seam HasWeight before tile more weighed in
    let as_first = fits_front before tile more tile.picture (at_seam (λ t. fits_first (before ++ tile ∷ more) t.picture ≡ true) before tile more alike) in
    let first : tile_in before d ≡ Ok tile = ap (tile_in before) said.0.is ∙ tile_is_read before said.0.members tile said.0.said apart.0 fits as_first in
    let same : (before ++ tile ∷ []) ++ more ≡ before ++ tile ∷ more = append_assoc before (tile ∷ []) more in
    then_ok (tile_in before d) (λ t. tiles_from (before ++ t ∷ []) ds) tile first
    ∙ tiles_are_read ds (before ++ tile ∷ []) more (subst (All HasWeight) (sym same) weighed) (subst AreAlike (sym same) alike) said.1 apart.1
    ∙ ap Ok same

-- tiles that are said have names
names_said : (items : Items) (tiles : List TileView) → AreSaid SaysTile items tiles → HaveNames tiles
names_said no_items [] said = tt
names_said no_items (tile ∷ tiles) said = absurd said
names_said (item d ds) [] said = absurd said
names_said (item d ds) (tile ∷ tiles) said = (said.0.said.is_name, names_said ds tiles said.1)

-- ---- the document

-- an array that is there, or that is missing
elements_are_read : (which : Key) (d : Option Data) (items : Items) → ((d ≡ None) × (items ≡ no_items)) ⊎ (d ≡ Some (array items)) → elements_in which d ≡ Ok items
elements_are_read which d items (inl (none, empty)) = rw (none, empty) refl
elements_are_read which d items (inr there) = rw there refl

-- some tiles that are said
some_are_read : (items : Items) (tiles : List TileView) → 0 < length tiles → All HasWeight tiles → AreAlike tiles → AreSaid SaysTile items tiles → AreNamedBehind [] tiles → some_tiles items ≡ Ok tiles
some_are_read no_items [] some weighed alike said apart = absurd (omega (arith, some))
some_are_read no_items (tile ∷ tiles) some weighed alike said apart = absurd said
some_are_read (item d ds) tiles some weighed alike said apart = tiles_are_read (item d ds) [] tiles weighed alike said apart

-- no more variants than a tile set has
few_are_read : (tiles : List TileView) → variant_total tiles ≤ MAX_VARIANTS → few_variants tiles ≡ Ok tiles
few_are_read tiles few = ap (λ t. let made : Result (List TileView) TileFault = if t then Ok tiles else Err (fault.TooManyVariants (variant_total tiles)) in made) (le-leb (variant_total tiles) MAX_VARIANTS few)

-- a document that says a tile set
pub set_is_read : (ms : Members) (set : TileSetView) → SaysSet ms set → set_from ms ≡ Ok set
set_is_read ms set says =
    let some = some_are_read says.tile_items set.tiles says.tile_set.some_tile says.tile_set.weighed says.tile_set.alike says.tiles says.apart in
    let kept : result_then (some_tiles says.tile_items) few_variants ≡ Ok set.tiles = then_ok (some_tiles says.tile_items) few_variants set.tiles some ∙ few_are_read set.tiles says.tile_set.limit in
    let paired = pairs_are_read set.tiles (names_said says.tile_items set.tiles says.tiles) says.apart says.pair_items [] set.pairs says.pairs in
    then_ok (elements_in key.Tile (get_member (codes "tile") ms)) (behind_tile_items ms) says.tile_items (elements_are_read key.Tile (get_member (codes "tile") ms) says.tile_items (inr says.tile_array))
    ∙ then_ok (elements_in key.Pair (get_member (codes "pair") ms)) (behind_arrays says.tile_items) says.pair_items (elements_are_read key.Pair (get_member (codes "pair") ms) says.pair_items says.pair_array)
    ∙ then_ok (result_then (some_tiles says.tile_items) few_variants) (behind_tiles says.pair_items) set.tiles kept
    ∙ then_ok (pairs_from set.tiles [] says.pair_items) (λ pairs. let made : Result TileSetView TileFault = Ok (set_with set.tiles pairs) in made) set.pairs paired
    ∙ ap (λ pictures. let made : Result TileSetView TileFault = Ok (record { tiles = set.tiles; pairs = set.pairs; pictures = pictures }) in made) (sym says.none_taken)

-- bytes that spell a document which says a tile set are read as it
pub said_is_read : (bytes : List ℕ) (ms : Members) (set : TileSetView) → parsed_document bytes ≡ Ok ms → SaysSet ms set → set_of bytes ≡ Ok set
said_is_read bytes ms set is says = then_ok (parsed_document bytes) set_from ms is ∙ set_is_read ms set says

-- a document says no two tile sets
pub one_is_said : (ms : Members) (a b : TileSetView) → SaysSet ms a → SaysSet ms b → a ≡ b
one_is_said ms a b says_a says_b =
    let same : Ok a ≡ Ok b = sym (set_is_read ms a says_a) ∙ set_is_read ms b says_b in
    cc (same)
