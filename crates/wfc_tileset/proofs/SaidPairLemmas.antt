-- A table that says a pair is read as that one, where each tile has a name of its own.
use Rattle.std.proofs.Common.{◌≡◌, ◌⊎◌, ℕ, zero, suc, ◌+◌, ◌-◌, ◌<◌, ◌==◌, Bool, true, false, not, ◌&&◌, ◌||◌, nat_le, cond, if◌then◌else◌, List, [], ◌∷◌, ◌++◌, append-nil, append_assoc, length, take, drop, position, inl, inr, Option, None, Some, Result, Ok, ap, sym, refl, ◌∙◌, arith}
use Rattle.std.specs.Prelude.{codes}
use Rattle.std.specs.List.{list_all, list_any}
use Rattle.std.specs.Option.{ok_or}
use Rattle.std.proofs.Math.Seq.{drop-append_seam, take-append_seam}
use Rattle.std.proofs.lemmas.Bool.{cases_Bool, eqb-true, false≢true, le-leb}
use Rattle.std.proofs.lemmas.List.Folds.{list_any-append}
use Rattle.std.proofs.lemmas.Slice.Eq.{bytes_eq-Decides}
use Rattle.toml.specs.Data.{Data, string, Items, no_items, item, Members, get_member}
use Rattle.wfc_lists.proofs.Positions.{position_at}
use Rattle.wfc_tileset.specs.Document.{result_then, has_name, is_name, is_name_byte, name_length, pair_end_from, pair_end_in, pair_end_with, pair_from, pair_with, pairs_from, turn_digit}
use Rattle.wfc_tileset.specs.Says.{AreNamedBehind, AreSaid, SaysEnd, SaysPair}
use Rattle.wfc_tileset.specs.Tiles.{TileView, tile_at}
use Rattle.wfc_tileset.specs.declared.fault.Key.{Key}
use Rattle.wfc_tileset.specs.declared.fault.Key.TheVariants as key
use Rattle.wfc_tileset.specs.declared.fault.TileFault.{TileFault}
use Rattle.wfc_tileset.specs.declared.fault.TileFault.TheVariants as fault
use Rattle.wfc_tileset.specs.declared.tile.End.{End}
use Rattle.wfc_tileset.specs.declared.tile.Pair.{Pair}
use Rattle.wfc_tileset.proofs.DocumentLemmas.{pair_in}
use Rattle.wfc_tileset.proofs.DocumentSetLemmas.{behind_left}

-- two steps of which the first came to something
pub then_ok : {A B : Type 0} (first : Result A TileFault) (next : A → Result B TileFault) (a : A) → first ≡ Ok a → result_then first next ≡ next a
then_ok first next a is = ap (λ r. result_then r next) is

-- two tests that both pass
both_pass : (a b : Bool) → (a && b) ≡ true → (a ≡ true) × (b ≡ true)
both_pass true b is = (refl, is)
both_pass false b is = absurd (false≢true is)

-- two tests of which neither passes
neither_passes : (a b : Bool) → (a || b) ≡ false → (a ≡ false) × (b ≡ false)
neither_passes false b is = (refl, is)
neither_passes true b is = absurd (false≢true (sym is))

-- ---- names

-- each tile has a name
abbrev pub HaveNames : List TileView → Type 0
HaveNames [] = Unit {0}
HaveNames (tile ∷ tiles) = (is_name tile.name ≡ true) × HaveNames tiles

name_there : (tiles : List TileView) → HaveNames tiles → (t : ℕ) → t < length tiles → is_name (tile_at tiles t).name ≡ true
name_there [] names t within = absurd (omega (arith, within))
name_there (tile ∷ tiles) names zero within = names.0
name_there (tile ∷ tiles) names (suc t) within = name_there tiles names.1 t (omega (arith, within))

-- no tile before has the name of one of these
apart_before : (before tiles : List TileView) → AreNamedBehind before tiles → (t : ℕ) → t < length tiles → list_any (has_name (tile_at tiles t).name) before ≡ false
apart_before before [] apart t within = absurd (omega (arith, within))
apart_before before (tile ∷ tiles) apart zero within = apart.0
apart_before before (tile ∷ tiles) apart (suc t) within =
    let later = apart_before (before ++ tile ∷ []) tiles apart.1 t (omega (arith, within)) in
    (neither_passes (list_any (has_name (tile_at tiles t).name) before) (list_any (has_name (tile_at tiles t).name) (tile ∷ [])) (sym (list_any-append (has_name (tile_at tiles t).name) before (tile ∷ [])) ∙ later)).0

-- nor has one of these that stands before it
apart_within : (before tiles : List TileView) → AreNamedBehind before tiles → (k t : ℕ) → k < t → t < length tiles → has_name (tile_at tiles t).name (tile_at tiles k) ≡ false
apart_within before [] apart k t below within = absurd (omega (arith, within))
apart_within before (tile ∷ tiles) apart k zero below within = absurd (omega (arith, below))
apart_within before (tile ∷ tiles) apart zero (suc t) below within =
    let later = apart_before (before ++ tile ∷ []) tiles apart.1 t (omega (arith, within)) in
    let own = neither_passes (list_any (has_name (tile_at tiles t).name) before) (list_any (has_name (tile_at tiles t).name) (tile ∷ [])) (sym (list_any-append (has_name (tile_at tiles t).name) before (tile ∷ [])) ∙ later) in
    (neither_passes (has_name (tile_at tiles t).name tile) false own.1).0
apart_within before (tile ∷ tiles) apart (suc k) (suc t) below within = apart_within (before ++ tile ∷ []) tiles apart.1 k t (omega (arith, below)) (omega (arith, within))

-- so a tile is found by its name
place_of_name : (tiles : List TileView) → AreNamedBehind [] tiles → (t : ℕ) → t < length tiles → position (has_name (tile_at tiles t).name) tiles ≡ Some t
place_of_name tiles apart t within =
    position_at (has_name (tile_at tiles t).name) tiles t (tile_at [] 0) within
    ((bytes_eq-Decides (tile_at tiles t).name (tile_at tiles t).name).1 refl)
    (λ k below. apart_within [] tiles apart k t below within)

-- ---- where a name ends

not_blank : (b : ℕ) → is_name_byte b ≡ true → (b == 32) ≡ false
not_blank b is = elim (cases_Bool (b == 32)) [
  | inl same ↦ absurd (false≢true (ap is_name_byte (sym (eqb-true b 32 same)) ∙ is))
  | inr other ↦ other
]

length_of_name : (name rest : List ℕ) → list_all is_name_byte name ≡ true → name_length rest ≡ 0 → name_length (name ++ rest) ≡ length name
length_of_name [] rest all ends = ends
length_of_name (b ∷ name) rest all ends =
    let both = both_pass (is_name_byte b) (list_all is_name_byte name) all in
    ap (λ t. cond (not t) (1 + name_length (name ++ rest)) 0) (not_blank b both.0) ∙ omega (arith, length_of_name name rest both.1 ends)

-- ---- an end of a pair

-- the end that a place and an action make
abbrev end_of : ℕ → Option ℕ → Option ℕ → Result End TileFault
end_of pair found turned = result_then (ok_or found (fault.UnknownTile pair)) (λ tile. result_then (ok_or turned (fault.BadTurn pair)) (λ turn. Ok (pair_end_with tile turn)))

-- a text of a name and of what says an action
parts_are_read : (tiles : List TileView) → HaveNames tiles → AreNamedBehind [] tiles → (pair : ℕ) (text rest : List ℕ) (tile turn : ℕ) → tile < length tiles
    → text ≡ (tile_at tiles tile).name ++ rest → name_length rest ≡ 0 → turn_digit rest ≡ Some turn → pair_end_from tiles pair text ≡ Ok (pair_end_with tile turn)
parts_are_read tiles names apart pair text rest tile turn within is ends turned =
    let name = (tile_at tiles tile).name in
    let bytes = (both_pass (nat_le 1 (length name) && nat_le (length name) 64) (list_all is_name_byte name) (name_there tiles names tile within)).1 in
    let long : name_length (name ++ rest) ≡ length name = length_of_name name rest bytes ends in
    let front : take (name_length (name ++ rest)) (name ++ rest) ≡ name = ap (λ n. take n (name ++ rest)) long ∙ take-append_seam name rest in
    let back : drop (name_length (name ++ rest)) (name ++ rest) ≡ rest = ap (λ n. drop n (name ++ rest)) long ∙ drop-append_seam name rest in
    let found : position (has_name (take (name_length (name ++ rest)) (name ++ rest))) tiles ≡ Some tile = ap (λ n. position (has_name n) tiles) front ∙ place_of_name tiles apart tile within in
    let digit : turn_digit (drop (name_length (name ++ rest)) (name ++ rest)) ≡ Some turn = ap turn_digit back ∙ turned in
    ap (pair_end_from tiles pair) is
    ∙ ap (λ f. end_of pair f (turn_digit (drop (name_length (name ++ rest)) (name ++ rest)))) found
    ∙ ap (end_of pair (Some tile)) digit

-- the digit of an action, by whether it is great and small enough
abbrev digit_of : ℕ → Bool → Bool → Option ℕ
digit_of digit low high = if low && high then Some (digit - 48) else None

-- the digit of an action
digit_is_read : (turn : ℕ) → turn < 8 → turn_digit (32 ∷ (48 + turn) ∷ []) ≡ Some turn
digit_is_read turn low =
    ap (λ t. digit_of (48 + turn) t (nat_le (48 + turn) 55)) (le-leb 48 (48 + turn) (omega arith))
    ∙ ap (digit_of (48 + turn) true) (le-leb (48 + turn) 55 (omega (arith, low)))
    ∙ ap Some (let same : 48 + turn - 48 ≡ turn = omega arith in same)

end_is_read : (tiles : List TileView) → HaveNames tiles → AreNamedBehind [] tiles → (pair : ℕ) (text : List ℕ) (end : End) → SaysEnd tiles text end → pair_end_from tiles pair text ≡ Ok end
end_is_read tiles names apart pair text end says = by says.text_is
  where
    by : ((text ≡ (tile_at tiles end.tile).name) × (end.turn ≡ 0)) ⊎ (text ≡ (tile_at tiles end.tile).name ++ 32 ∷ (48 + end.turn) ∷ []) → pair_end_from tiles pair text ≡ Ok end
    by (inl (alone, none)) = parts_are_read tiles names apart pair text [] end.tile end.turn says.tile_in (alone ∙ sym (append-nil (tile_at tiles end.tile).name)) refl (ap Some (sym none))
    by (inr is) = parts_are_read tiles names apart pair text (32 ∷ (48 + end.turn) ∷ []) end.tile end.turn says.tile_in is refl (digit_is_read end.turn says.turn_in)

-- the same under a key
end_in_is_read : (tiles : List TileView) → HaveNames tiles → AreNamedBehind [] tiles → (pair : ℕ) (which : Key) (d : Option Data) (text : List ℕ) (end : End)
    → d ≡ Some (string text) → SaysEnd tiles text end → pair_end_in tiles pair which d ≡ Ok end
end_in_is_read tiles names apart pair which d text end is says = ap (pair_end_in tiles pair which) is ∙ end_is_read tiles names apart pair text end says

-- ---- pairs

pair_is_read : (tiles : List TileView) → HaveNames tiles → AreNamedBehind [] tiles → (n : ℕ) (ms : Members) (pair : Pair) → SaysPair tiles ms pair → pair_from tiles n ms ≡ Ok pair
pair_is_read tiles names apart n ms pair says =
    then_ok (pair_end_in tiles n key.Left (get_member (codes "left") ms)) (behind_left tiles n ms) pair.left (end_in_is_read tiles names apart n key.Left (get_member (codes "left") ms) says.left_text pair.left says.left says.left_is)
    ∙ then_ok (pair_end_in tiles n key.Right (get_member (codes "right") ms)) (λ right. let made : Result Pair TileFault = Ok (pair_with pair.left right) in made) pair.right (end_in_is_read tiles names apart n key.Right (get_member (codes "right") ms) says.right_text pair.right says.right says.right_is)

-- pairs that are said, behind others
pub pairs_are_read : (tiles : List TileView) → HaveNames tiles → AreNamedBehind [] tiles → (items : Items) (before more : List Pair) → AreSaid (SaysPair tiles) items more → pairs_from tiles before items ≡ Ok (before ++ more)
pairs_are_read tiles names apart no_items before [] said = ap Ok (sym (append-nil before))
pairs_are_read tiles names apart no_items before (pair ∷ more) said = absurd said
pairs_are_read tiles names apart (item d ds) before [] said = absurd said
pairs_are_read tiles names apart (item d ds) before (pair ∷ more) said =
    let first : pair_in tiles (length before) d ≡ Ok pair = ap (pair_in tiles (length before)) said.0.is ∙ pair_is_read tiles names apart (length before) said.0.members pair said.0.said in
    then_ok (pair_in tiles (length before) d) (λ p. pairs_from tiles (before ++ p ∷ []) ds) pair first
    ∙ pairs_are_read tiles names apart ds (before ++ pair ∷ []) more said.1
    ∙ ap Ok (append_assoc before (pair ∷ []) more)
