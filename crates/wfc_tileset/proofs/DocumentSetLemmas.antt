-- The tile set that a document spells is one, and is one still with its pictures.
use Rattle.std.proofs.Common.{◌≡◌, ℕ, ◌-◌, ◌<◌, ◌≤◌, Bool, true, false, ◌&&◌, nat_le, if◌then◌else◌, List, [], ◌∷◌, ◌++◌, length, take, drop, position, Option, None, Some, Result, Ok, Err, ap, sym, subst, refl, arith}
use Rattle.std.specs.Prelude.{ℤ, pos, negsuc, codes}
use Rattle.std.specs.List.{All}
use Rattle.std.specs.Option.{ok_or}
use Rattle.std.proofs.lemmas.Bool.Decides.{nat_tests}
use Rattle.std.proofs.lemmas.List.{length_push}
use Rattle.std.proofs.lemmas.List.Elements.{All-nil, All-push}
use Rattle.toml.specs.Data.{Data, Items, no_items, item, Members, get_member, as_integer}
use Rattle.wfc_symmetry.specs.declared.class.Class.{Class}
use Rattle.wfc_tileset.specs.Allowed.{IsPairEnd, IsPair}
use Rattle.wfc_tileset.specs.Document.{result_then, class_in, elements_in, pair_end_from, pair_end_in, pair_end_with, few_variants, fits_first, has_name, name_in, name_length, pair_from, pair_with, pairs_from, parsed_document, picture_in, set_from, set_of, set_with, some_tiles, table_in, required_text, tile_from, tile_with, tiles_from, turn_digit, weight_in, tile_weight}
use Rattle.wfc_tileset.specs.Pictures.{picture_for, picture_taken, with_picture}
use Rattle.wfc_tileset.specs.Tiles.{TileView, TileSetView, HasWeight, variant_total}
use Rattle.wfc_tileset.specs.TileSets.{AreAlike, IsTileSet}
use Rattle.wfc_tileset.specs.declared.fault.Key.{Key}
use Rattle.wfc_tileset.specs.declared.fault.Key.TheVariants as key
use Rattle.wfc_tileset.specs.declared.fault.Place.TheVariants as place
use Rattle.wfc_tileset.specs.declared.fault.TileFault.{TileFault}
use Rattle.wfc_tileset.specs.declared.fault.TileFault.TheVariants as fault
use Rattle.wfc_tileset.specs.declared.tile.End.{End}
use Rattle.wfc_tileset.specs.declared.tile.Pair.{Pair}
use Rattle.wfc_tileset.specs.declared.variants.TheConstants.{MAX_VARIANTS}
use Rattle.wfc_tileset.proofs.AlikeLemmas.{alike_more}
use Rattle.wfc_tileset.proofs.DocumentLemmas.{pair_in, tile_in}
use Rattle.wfc_tileset.proofs.NameLemmas.{place_inside}

-- what two steps came to
pub then_parts : {A B : Type 0} (first : Result A TileFault) (next : A → Result B TileFault) (b : B) → result_then first next ≡ Ok b → (a : A) × (first ≡ Ok a) × (next a ≡ Ok b)
then_parts (Ok a) next b is = (a, refl, is)
then_parts (Err fault) next b is = absurd (cc)

-- what was there
pub there : {A E : Type 0} (found : Option A) (fault : E) (a : A) → ok_or found fault ≡ Ok a → found ≡ Some a
there (Some x) fault a is = let same : x ≡ a = cc in ap Some same
there None fault a is = absurd (cc)

-- ---- a tile

weight_fits : (z : ℤ) (w : ℕ) → tile_weight z ≡ Some w → (1 ≤ w) × (w ≤ 1000000)
weight_fits (negsuc n) w is = absurd (cc)
weight_fits (pos n) w is = by_tests (nat_le 1 n) (nat_le n 1000000) refl refl is
  where
    by_tests : (low high : Bool) → nat_le 1 n ≡ low → nat_le n 1000000 ≡ high → (if low && high then Some n else None) ≡ Some w → (1 ≤ w) × (w ≤ 1000000)
    by_tests true true low high is =
        let same : n ≡ w = cc in
        let some : 1 ≤ n = grind (arith, nat_tests, low) in
        let small : n ≤ 1000000 = grind (arith, nat_tests, high) in
        (omega (arith, same, some), omega (arith, same, small))
    by_tests true false low high is = absurd (cc)
    by_tests false high low _ is = absurd (cc)

weight_read : (t : ℕ) (d : Option Data) (w : ℕ) → weight_in t d ≡ Ok w → (1 ≤ w) × (w ≤ 1000000)
weight_read t None w is = let one : 1 ≡ w = cc in (omega (arith, one), omega (arith, one))
weight_read t (Some d) w is =
    let number = then_parts (ok_or (as_integer d) (fault.WrongKind (place.Tile t) key.Weight)) (λ z. ok_or (tile_weight z) (fault.BadWeight t)) w is in
    weight_fits number.0 w (there (tile_weight number.0) (fault.BadWeight t) w number.2)

-- a tile that may stand behind others
record IsNext (before : List TileView) (tile : TileView) : Type 0 where
  weighed : HasWeight tile
  alike : fits_first before tile.picture ≡ true

abbrev pub behind_picture : List TileView → List ℕ → Class → ℕ → Option (List ℕ) → Result TileView TileFault
behind_picture before name class weight picture = if fits_first before picture then Ok (tile_with name class weight picture) else Err (fault.MixedKinds (length before))

abbrev pub behind_weight : List TileView → Members → List ℕ → Class → ℕ → Result TileView TileFault
behind_weight before ms name class weight = result_then (picture_in (length before) (get_member (codes "picture") ms)) (behind_picture before name class weight)

abbrev pub behind_class : List TileView → Members → List ℕ → Class → Result TileView TileFault
behind_class before ms name class = result_then (weight_in (length before) (get_member (codes "weight") ms)) (behind_weight before ms name class)

abbrev pub behind_name : List TileView → Members → List ℕ → Result TileView TileFault
behind_name before ms name = result_then (class_in (length before) (get_member (codes "class") ms)) (behind_class before ms name)

fits_next : (before : List TileView) (name : List ℕ) (class : Class) (weight : ℕ) (picture : Option (List ℕ)) (tile : TileView) → (1 ≤ weight) × (weight ≤ 1000000) → behind_picture before name class weight picture ≡ Ok tile → IsNext before tile
fits_next before name class weight picture tile fits is = by_test (fits_first before picture) refl is
  where
    by_test : (b : Bool) → fits_first before picture ≡ b → (if b then Ok (tile_with name class weight picture) else Err (fault.MixedKinds (length before))) ≡ Ok tile → IsNext before tile
    by_test true alike is =
        let same : tile_with name class weight picture ≡ tile = cc in
        subst (IsNext before) same (record { weighed = record { some_weight = fits.0; small_weight = fits.1 }; alike = alike })
    by_test false alike is = absurd (cc)

tile_next : (before : List TileView) (ms : Members) (tile : TileView) → tile_from before ms ≡ Ok tile → IsNext before tile
tile_next before ms tile is =
    let name = then_parts (name_in before (get_member (codes "name") ms)) (behind_name before ms) tile is in
    let class = then_parts (class_in (length before) (get_member (codes "class") ms)) (behind_class before ms name.0) tile name.2 in
    let weight = then_parts (weight_in (length before) (get_member (codes "weight") ms)) (behind_weight before ms name.0 class.0) tile class.2 in
    let picture = then_parts (picture_in (length before) (get_member (codes "picture") ms)) (behind_picture before name.0 class.0 weight.0) tile weight.2 in
    fits_next before name.0 class.0 weight.0 picture.0 tile (weight_read (length before) (get_member (codes "weight") ms) weight.0 weight.1) picture.2

-- ---- all tiles

record AreRead (tiles : List TileView) : Type 0 where
  weighed : All HasWeight tiles
  alike : AreAlike tiles

one_more : (before : List TileView) (tile : TileView) → AreRead before → IsNext before tile → AreRead (before ++ tile ∷ [])
one_more before tile read next =
    record { weighed = All-push HasWeight before tile read.weighed next.weighed; alike = alike_more before tile read.alike next.alike }

first_read : (before : List TileView) (d : Data) (ds : Items) (tiles : List TileView) → tiles_from before (item d ds) ≡ Ok tiles → (tile : TileView) × IsNext before tile × (tiles_from (before ++ tile ∷ []) ds ≡ Ok tiles)
first_read before d ds tiles is =
    let tile = then_parts (tile_in before d) (λ tile. tiles_from (before ++ tile ∷ []) ds) tiles is in
    let table = then_parts (table_in (place.Tile (length before)) key.Tile d) (tile_from before) tile.0 tile.1 in
    (tile.0, tile_next before table.0 tile.0 table.2, tile.2)

tiles_read : (items : Items) (before tiles : List TileView) → AreRead before → tiles_from before items ≡ Ok tiles → AreRead tiles × (length before ≤ length tiles)
tiles_read no_items before tiles read is = let same : before ≡ tiles = cc in (subst AreRead same read, omega (arith, ap length same))
tiles_read (item d ds) before tiles read is =
    let first = first_read before d ds tiles is in
    let rest = tiles_read ds (before ++ first.0 ∷ []) tiles (one_more before first.0 read first.1) first.2 in
    (rest.0, omega (arith, rest.1, length_push before first.0))

none_read : AreRead []
none_read = record { weighed = All-nil HasWeight; alike = λ k d within. absurd (omega arith) }

some_read : (items : Items) (tiles : List TileView) → some_tiles items ≡ Ok tiles → AreRead tiles × (0 < length tiles)
some_read no_items tiles is = absurd (cc)
some_read (item d ds) tiles is =
    let first = first_read [] d ds tiles is in
    let rest = tiles_read ds (first.0 ∷ []) tiles (one_more [] first.0 none_read first.1) first.2 in
    (rest.0, rest.1)

pub few_kept : (tiles kept : List TileView) → few_variants tiles ≡ Ok kept → (tiles ≡ kept) × (variant_total tiles ≤ MAX_VARIANTS)
few_kept tiles kept is = by_test (nat_le (variant_total tiles) MAX_VARIANTS) refl is
  where
    by_test : (b : Bool) → nat_le (variant_total tiles) MAX_VARIANTS ≡ b → (if b then Ok tiles else Err (fault.TooManyVariants (variant_total tiles))) ≡ Ok kept → (tiles ≡ kept) × (variant_total tiles ≤ MAX_VARIANTS)
    by_test true few is = (cc, grind (arith, nat_tests, few))
    by_test false few is = absurd (cc)

-- ---- pairs

pub turn_low : (rest : List ℕ) (turn : ℕ) → turn_digit rest ≡ Some turn → turn < 8
turn_low [] turn is = let none : 0 ≡ turn = cc in omega (arith, none)
turn_low (blank ∷ []) turn is = absurd (cc)
turn_low (blank ∷ digit ∷ []) turn is = by_tests (nat_le 48 digit) (nat_le digit 55) refl refl is
  where
    by_tests : (low high : Bool) → nat_le 48 digit ≡ low → nat_le digit 55 ≡ high → (if low && high then Some (digit - 48) else None) ≡ Some turn → turn < 8
    by_tests true true low high is =
        let same : digit - 48 ≡ turn = cc in
        let small : digit ≤ 55 = grind (arith, nat_tests, high) in
        omega (arith, same, small)
    by_tests true false low high is = absurd (cc)
    by_tests false high low _ is = absurd (cc)
turn_low (blank ∷ digit ∷ more ∷ rest) turn is = absurd (cc)

abbrev pub behind_place : List ℕ → ℕ → ℕ → Result End TileFault
behind_place text pair tile = result_then (ok_or (turn_digit (drop (name_length text) text)) (fault.BadTurn pair)) (λ turn. Ok (pair_end_with tile turn))

end_read : (tiles : List TileView) (pair : ℕ) (text : List ℕ) (end : End) → pair_end_from tiles pair text ≡ Ok end → IsPairEnd tiles end
end_read tiles pair text end is =
    let tile = then_parts (ok_or (position (has_name (take (name_length text) text)) tiles) (fault.UnknownTile pair)) (behind_place text pair) end is in
    let turn = then_parts (ok_or (turn_digit (drop (name_length text) text)) (fault.BadTurn pair)) (λ turn. let made : Result End TileFault = Ok (pair_end_with tile.0 turn) in made) end tile.2 in
    let found = there (position (has_name (take (name_length text) text)) tiles) (fault.UnknownTile pair) tile.0 tile.1 in
    let same : pair_end_with tile.0 turn.0 ≡ end = cc (turn.2) in
    subst (IsPairEnd tiles) same (record {
      tile_in = place_inside (has_name (take (name_length text) text)) tiles (Some tile.0) (sym found);
      turn_in = turn_low (drop (name_length text) text) turn.0 (there (turn_digit (drop (name_length text) text)) (fault.BadTurn pair) turn.0 turn.1);
    })

abbrev pub behind_left : List TileView → ℕ → Members → End → Result Pair TileFault
behind_left tiles pair ms left = result_then (pair_end_in tiles pair key.Right (get_member (codes "right") ms)) (λ right. Ok (pair_with left right))

end_of_read : (tiles : List TileView) (pair : ℕ) (which : Key) (d : Option Data) (end : End) → pair_end_in tiles pair which d ≡ Ok end → IsPairEnd tiles end
end_of_read tiles pair which d end is =
    let text = then_parts (required_text (place.Pair pair) which d) (pair_end_from tiles pair) end is in end_read tiles pair text.0 end text.2

pair_read : (tiles : List TileView) (pair : ℕ) (ms : Members) (made : Pair) → pair_from tiles pair ms ≡ Ok made → IsPair tiles made
pair_read tiles pair ms made is =
    let left = then_parts (pair_end_in tiles pair key.Left (get_member (codes "left") ms)) (behind_left tiles pair ms) made is in
    let right = then_parts (pair_end_in tiles pair key.Right (get_member (codes "right") ms)) (λ right. let made : Result Pair TileFault = Ok (pair_with left.0 right) in made) made left.2 in
    let same : pair_with left.0 right.0 ≡ made = cc (right.2) in
    subst (IsPair tiles) same (record {
      left_in = end_of_read tiles pair key.Left (get_member (codes "left") ms) left.0 left.1;
      right_in = end_of_read tiles pair key.Right (get_member (codes "right") ms) right.0 right.1;
    })

pairs_read : (tiles : List TileView) (items : Items) (before pairs : List Pair) → All (IsPair tiles) before → pairs_from tiles before items ≡ Ok pairs → All (IsPair tiles) pairs
pairs_read tiles no_items before pairs read is = let same : before ≡ pairs = cc in subst (All (IsPair tiles)) same read
pairs_read tiles (item d ds) before pairs read is =
    let first = then_parts (pair_in tiles (length before) d) (λ pair. pairs_from tiles (before ++ pair ∷ []) ds) pairs is in
    let table = then_parts (table_in (place.Pair (length before)) key.Pair d) (pair_from tiles (length before)) first.0 first.1 in
    pairs_read tiles ds (before ++ first.0 ∷ []) pairs (All-push (IsPair tiles) before first.0 read (pair_read tiles (length before) table.0 first.0 table.2)) first.2

-- ---- the document

abbrev pub behind_tiles : Items → List TileView → Result TileSetView TileFault
behind_tiles pairs tiles = result_then (pairs_from tiles [] pairs) (λ pairs. Ok (set_with tiles pairs))

abbrev pub behind_arrays : Items → Items → Result TileSetView TileFault
behind_arrays tiles pairs = result_then (result_then (some_tiles tiles) few_variants) (behind_tiles pairs)

abbrev pub behind_tile_items : Members → Items → Result TileSetView TileFault
behind_tile_items ms tiles = result_then (elements_in key.Pair (get_member (codes "pair") ms)) (behind_arrays tiles)

pub set_read : (ms : Members) (set : TileSetView) → set_from ms ≡ Ok set → IsTileSet set
set_read ms set is =
    let tile_items = then_parts (elements_in key.Tile (get_member (codes "tile") ms)) (behind_tile_items ms) set is in
    let pair_items = then_parts (elements_in key.Pair (get_member (codes "pair") ms)) (behind_arrays tile_items.0) set tile_items.2 in
    let kept = then_parts (result_then (some_tiles tile_items.0) few_variants) (behind_tiles pair_items.0) set pair_items.2 in
    let some = then_parts (some_tiles tile_items.0) few_variants kept.0 kept.1 in
    let pairs = then_parts (pairs_from kept.0 [] pair_items.0) (λ pairs. let made : Result TileSetView TileFault = Ok (set_with kept.0 pairs) in made) set kept.2 in
    let read = some_read tile_items.0 some.0 some.1 in
    let few = few_kept some.0 kept.0 some.2 in
    let same : set_with kept.0 pairs.0 ≡ set = cc (pairs.2) in
    subst IsTileSet same (record {
      some_tile = subst (λ (ts : List TileView). 0 < length ts) few.0 read.1;
      weighed = subst (All HasWeight) few.0 read.0.weighed;
      alike = subst AreAlike few.0 read.0.alike;
      limit = subst (λ (ts : List TileView). variant_total ts ≤ MAX_VARIANTS) few.0 few.1;
      pairs = pairs_read kept.0 pair_items.0 [] pairs.0 (All-nil (IsPair kept.0)) pairs.1;
    })

-- bytes that are read as a tile set spell one
pub document_is_set : (bytes : List ℕ) (set : TileSetView) → set_of bytes ≡ Ok set → IsTileSet set
document_is_set bytes set is = let ms = then_parts (parsed_document bytes) set_from set is in set_read ms.0 set ms.2

-- a picture more changes nothing of it
pub pictured_is_set : (set : TileSetView) (bytes : List ℕ) (after : TileSetView) → IsTileSet set → picture_taken set bytes ≡ Ok after → IsTileSet after
pictured_is_set set bytes after before is =
    let picture = then_parts (picture_for set bytes) (λ picture. let made : Result TileSetView TileFault = Ok (with_picture set picture) in made) after is in
    let same : with_picture set picture.0 ≡ after = cc (picture.2) in
    subst IsTileSet same (record { some_tile = before.some_tile; weighed = before.weighed; alike = before.alike; limit = before.limit; pairs = before.pairs })
