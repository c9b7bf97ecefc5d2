-- Pairs that are read are ones that the document says.
use Rattle.std.proofs.Common.{◌≡◌, ◌⊎◌, ℕ, ◌+◌, ◌-◌, ◌<◌, ◌≤◌, ◌==◌, Bool, true, false, ◌&&◌, nat_le, ltb, cond, if◌then◌else◌, List, [], ◌∷◌, ◌++◌, append-nil, append_assoc, length, take, drop, get_or, position, inl, inr, Option, None, Some, Result, Ok, ap, sym, subst, refl, ◌∙◌, arith}
use Rattle.std.specs.Prelude.{ℤ, codes}
use Rattle.std.specs.List.{position_or_len}
use Rattle.std.specs.Option.{ok_or}
use Rattle.std.specs.Str.{bytes_eq}
use Rattle.std.proofs.lemmas.Bool.{eqb-true, ltb-true}
use Rattle.std.proofs.lemmas.Bool.Decides.{nat_tests}
use Rattle.std.proofs.lemmas.List.{get_or-drop, length-drop, take-append-drop}
use Rattle.std.proofs.lemmas.List.Sums.{passes_at_first}
use Rattle.std.proofs.lemmas.Slice.Eq.{bytes_eq-Decides}
use Rattle.toml.specs.Data.{Data, string, integer, float, boolean, datetime, array, table, Items, no_items, item, Members, get_member, as_integer, as_str, as_table, as_array}
use Rattle.wfc_tileset.specs.Document.{pair_end_from, pair_end_in, pair_end_with, has_name, name_length, pair_from, pair_with, pairs_from, table_in, required_text, turn_digit}
use Rattle.wfc_tileset.specs.Says.{AreSaid, SaysEnd, SaysPair}
use Rattle.wfc_tileset.specs.Tiles.{TileView, tile_at}
use Rattle.wfc_tileset.specs.declared.fault.Key.{Key}
use Rattle.wfc_tileset.specs.declared.fault.Key.TheVariants as key
use Rattle.wfc_tileset.specs.declared.fault.Place.{Place}
use Rattle.wfc_tileset.specs.declared.fault.Place.TheVariants as place
use Rattle.wfc_tileset.specs.declared.fault.TileFault.{TileFault}
use Rattle.wfc_tileset.specs.declared.fault.TileFault.TheVariants as fault
use Rattle.wfc_tileset.specs.declared.tile.End.{End}
use Rattle.wfc_tileset.specs.declared.tile.Pair.{Pair}
use Rattle.wfc_tileset.proofs.DocumentLemmas.{pair_in}
use Rattle.wfc_tileset.proofs.DocumentSetLemmas.{behind_left, behind_place, then_parts, there, turn_low}
use Rattle.wfc_tileset.proofs.NameLemmas.{place_inside}

-- ---- kinds of values

pub str_there : (d : Data) (text : List ℕ) → as_str d ≡ Some text → d ≡ string text
str_there (string s) text is = let same : s ≡ text = cc in ap string same
str_there (integer z) text is = absurd (cc)
str_there (float x) text is = absurd (cc)
str_there (boolean b) text is = absurd (cc)
str_there (datetime t) text is = absurd (cc)
str_there (array ds) text is = absurd (cc)
str_there (table ms) text is = absurd (cc)

pub integer_there : (d : Data) (z : ℤ) → as_integer d ≡ Some z → d ≡ integer z
integer_there (string s) z is = absurd (cc)
integer_there (integer n) z is = let same : n ≡ z = cc in ap integer same
integer_there (float x) z is = absurd (cc)
integer_there (boolean b) z is = absurd (cc)
integer_there (datetime t) z is = absurd (cc)
integer_there (array ds) z is = absurd (cc)
integer_there (table ms) z is = absurd (cc)

pub array_there : (d : Data) (items : Items) → as_array d ≡ Some items → d ≡ array items
array_there (string s) items is = absurd (cc)
array_there (integer n) items is = absurd (cc)
array_there (float x) items is = absurd (cc)
array_there (boolean b) items is = absurd (cc)
array_there (datetime t) items is = absurd (cc)
array_there (array ds) items is = let same : ds ≡ items = cc in ap array same
array_there (table ms) items is = absurd (cc)

pub table_there : (d : Data) (ms : Members) → as_table d ≡ Some ms → d ≡ table ms
table_there (string s) ms is = absurd (cc)
table_there (integer n) ms is = absurd (cc)
table_there (float x) ms is = absurd (cc)
table_there (boolean b) ms is = absurd (cc)
table_there (datetime t) ms is = absurd (cc)
table_there (array ds) ms is = absurd (cc)
table_there (table m) ms is = let same : m ≡ ms = cc in ap table same

pub text_there : (where_is : Place) (which : Key) (d : Option Data) (text : List ℕ) → required_text where_is which d ≡ Ok text → d ≡ Some (string text)
text_there where_is which None text is = absurd (cc)
text_there where_is which (Some d) text is = ap Some (str_there d text (there (as_str d) (fault.WrongKind where_is which) text is))

-- ---- a pair

turn_says : (rest : List ℕ) (turn : ℕ) → turn_digit rest ≡ Some turn → ((rest ≡ []) × (turn ≡ 0)) ⊎ ((blank : ℕ) × (rest ≡ blank ∷ (48 + turn) ∷ []))
turn_says [] turn is = inl (refl, cc)
turn_says (blank ∷ []) turn is = absurd (cc)
turn_says (blank ∷ digit ∷ []) turn is = by_tests (nat_le 48 digit) (nat_le digit 55) refl is
  where
    by_tests : (low high : Bool) → nat_le 48 digit ≡ low → (if low && high then Some (digit - 48) else None) ≡ Some turn → ((blank ∷ digit ∷ [] ≡ []) × (turn ≡ 0)) ⊎ ((b : ℕ) × (blank ∷ digit ∷ [] ≡ b ∷ (48 + turn) ∷ []))
    by_tests true true low is =
        let same : digit - 48 ≡ turn = cc in
        let least : 48 ≤ digit = grind (arith, nat_tests, low) in
        let value : digit ≡ 48 + turn = omega (arith, same, least) in
        inr (blank, ap (λ d. blank ∷ d ∷ []) value)
    by_tests true false low is = absurd (cc)
    by_tests false high low is = absurd (cc)
turn_says (blank ∷ digit ∷ more ∷ rest) turn is = absurd (cc)

-- the tile that is found has the name
found_name : (tiles : List TileView) (name : List ℕ) (t : ℕ) → position (has_name name) tiles ≡ Some t → (tile_at tiles t).name ≡ name
found_name tiles name t found = by (ltb (position_or_len (has_name name) tiles) (length tiles)) refl found
  where
    by : (b : Bool) → ltb (position_or_len (has_name name) tiles) (length tiles) ≡ b → cond b (Some (position_or_len (has_name name) tiles)) None ≡ Some t → (tile_at tiles t).name ≡ name
    by true inside is =
        let same : position_or_len (has_name name) tiles ≡ t = cc in
        let passes = passes_at_first (has_name name) tiles (tile_at [] 0) (ltb-true (position_or_len (has_name name) tiles) (length tiles) inside) in
        (bytes_eq-Decides (tile_at tiles t).name name).0 (subst (λ n. bytes_eq (tile_at tiles n).name name ≡ true) same passes)
    by false inside is = absurd (cc)

-- the byte behind a name is a blank
blank_behind : (text : List ℕ) (blank : ℕ) (rest : List ℕ) → drop (name_length text) text ≡ blank ∷ rest → blank ≡ 32
blank_behind text blank rest is =
    let inside : name_length text < length text = omega (arith, length-drop (name_length text) text, ap length is) in
    let at : get_or text (name_length text) 0 ≡ blank = ap (λ n. get_or text n 0) (omega arith) ∙ sym (get_or-drop (name_length text) text 0 0) ∙ ap (λ l. get_or l 0 0) is in
    sym at ∙ eqb-true (get_or text (name_length text) 0) 32 (passes_at_first (λ b. b == 32) text 0 inside)

end_says : (tiles : List TileView) (pair : ℕ) (text : List ℕ) (end : End) → pair_end_from tiles pair text ≡ Ok end → SaysEnd tiles text end
end_says tiles pair text end is =
    let tile = then_parts (ok_or (position (has_name (take (name_length text) text)) tiles) (fault.UnknownTile pair)) (behind_place text pair) end is in
    let turn = then_parts (ok_or (turn_digit (drop (name_length text) text)) (fault.BadTurn pair)) (λ turn. let made : Result End TileFault = Ok (pair_end_with tile.0 turn) in made) end tile.2 in
    let found = there (position (has_name (take (name_length text) text)) tiles) (fault.UnknownTile pair) tile.0 tile.1 in
    let turned = there (turn_digit (drop (name_length text) text)) (fault.BadTurn pair) turn.0 turn.1 in
    let same : pair_end_with tile.0 turn.0 ≡ end = cc (turn.2) in
    let name = found_name tiles (take (name_length text) text) tile.0 found in
    let parts : text ≡ (tile_at tiles tile.0).name ++ drop (name_length text) text = sym (take-append-drop (name_length text) text) ∙ ap (λ n. n ++ drop (name_length text) text) (sym name) in
    subst (SaysEnd tiles text) same (record {
      tile_in = place_inside (has_name (take (name_length text) text)) tiles (Some tile.0) (sym found);
      turn_in = turn_low (drop (name_length text) text) turn.0 turned;
      text_is = by tile.0 turn.0 parts (turn_says (drop (name_length text) text) turn.0 turned);
    })
  where
    by : (t turn : ℕ) → text ≡ (tile_at tiles t).name ++ drop (name_length text) text
        → ((drop (name_length text) text ≡ []) × (turn ≡ 0)) ⊎ ((blank : ℕ) × (drop (name_length text) text ≡ blank ∷ (48 + turn) ∷ []))
        → ((text ≡ (tile_at tiles t).name) × (turn ≡ 0)) ⊎ (text ≡ (tile_at tiles t).name ++ 32 ∷ (48 + turn) ∷ [])
    by t turn parts (inl (none, zero_turn)) = inl (parts ∙ ap (λ r. (tile_at tiles t).name ++ r) none ∙ append-nil (tile_at tiles t).name, zero_turn)
    by t turn parts (inr (blank, rest)) = inr (parts ∙ ap (λ r. (tile_at tiles t).name ++ r) (rest ∙ ap (λ b. b ∷ (48 + turn) ∷ []) (blank_behind text blank ((48 + turn) ∷ []) rest)))

end_in_says : (tiles : List TileView) (pair : ℕ) (which : Key) (d : Option Data) (end : End) → pair_end_in tiles pair which d ≡ Ok end → (text : List ℕ) × (d ≡ Some (string text)) × SaysEnd tiles text end
end_in_says tiles pair which d end is =
    let text = then_parts (required_text (place.Pair pair) which d) (pair_end_from tiles pair) end is in
    (text.0, text_there (place.Pair pair) which d text.0 text.1, end_says tiles pair text.0 end text.2)

pair_says : (tiles : List TileView) (pair : ℕ) (ms : Members) (made : Pair) → pair_from tiles pair ms ≡ Ok made → SaysPair tiles ms made
pair_says tiles pair ms made is =
    let left = then_parts (pair_end_in tiles pair key.Left (get_member (codes "left") ms)) (behind_left tiles pair ms) made is in
    let right = then_parts (pair_end_in tiles pair key.Right (get_member (codes "right") ms)) (λ right. let made : Result Pair TileFault = Ok (pair_with left.0 right) in made) made left.2 in
    let same : pair_with left.0 right.0 ≡ made = cc (right.2) in
    let one = end_in_says tiles pair key.Left (get_member (codes "left") ms) left.0 left.1 in
    let two = end_in_says tiles pair key.Right (get_member (codes "right") ms) right.0 right.1 in
    subst (SaysPair tiles ms) same (record { left_text = one.0; left = one.1; left_is = one.2; right_text = two.0; right = two.1; right_is = two.2 })

pub record SaysPairs (tiles : List TileView) (before : List Pair) (items : Items) (pairs : List Pair) : Type 0 where
  pub more : List Pair
  pub is : pairs ≡ before ++ more
  pub said : AreSaid (SaysPair tiles) items more

pub pairs_say : (tiles : List TileView) (items : Items) (before pairs : List Pair) → pairs_from tiles before items ≡ Ok pairs → SaysPairs tiles before items pairs
pairs_say tiles no_items before pairs is = let same : before ≡ pairs = cc in record { more = []; is = sym same ∙ sym (append-nil before); said = record {} }
pairs_say tiles (item d ds) before pairs is =
    let first = then_parts (pair_in tiles (length before) d) (λ pair. pairs_from tiles (before ++ pair ∷ []) ds) pairs is in
    let members = then_parts (table_in (place.Pair (length before)) key.Pair d) (pair_from tiles (length before)) first.0 first.1 in
    let later = pairs_say tiles ds (before ++ first.0 ∷ []) pairs first.2 in
    record {
      more = first.0 ∷ later.more;
      is = later.is ∙ append_assoc before (first.0 ∷ []) later.more;
      said = (record { members = members.0; is = table_there d members.0 (there (as_table d) (fault.WrongKind (place.Pair (length before)) key.Pair) members.0 members.1); said = pair_says tiles (length before) members.0 first.0 members.2 }, later.said);
    }
