-- One tile or one pair of a document after another.
use Rattle.std.proofs.Common.{◌≡◌, ℕ, List, [], ◌∷◌, ◌++◌, length, Result, Ok, Err, ◌∙◌, inl, inr, Some, None, sym, Bool, position, arith}
use Rattle.std.specs.Prelude.{IsUtf8}
use Rattle.std.specs.Option.{ok_or}
use Rattle.std.specs.Str.{is_utf8}
use Rattle.std.specs.List.{position_or_len}
use Rattle.std.proofs.lemmas.Bool.{cases_Bool, cases_lt, cond-true, cond-false, lt-ltb, le-ltb}
use Rattle.std.proofs.lemmas.List.Sums.{position_or_len_is}
use Rattle.std.proofs.lemmas.Str.{IsUtf8-from_is_utf8, is_utf8-from_IsUtf8}
use Rattle.wfc_lists.proofs.Positions.{position_fails}
use Rattle.toml.specs.Data.{Data, Items, item}
use Rattle.toml.specs.Parse.{parse_document}
use Rattle.wfc_tileset.specs.declared.fault.TileFault.{TileFault}
use Rattle.wfc_tileset.specs.declared.fault.Place.TheVariants as place
use Rattle.wfc_tileset.specs.declared.fault.Key.TheVariants as key
use Rattle.wfc_tileset.specs.declared.fault.TileFault.TheVariants as fault
use Rattle.wfc_tileset.specs.declared.tile.Pair.{Pair}
use Rattle.wfc_tileset.specs.Tiles.{TileView}
use Rattle.wfc_tileset.specs.Document.{result_then, parsed_document, table_in, tile_from, tiles_from, pair_from, pairs_from}

-- the tile of an element, behind those before it
abbrev pub tile_in : List TileView → Data → Result TileView TileFault
tile_in before d = result_then (table_in (place.Tile (length before)) key.Tile d) (tile_from before)

-- the tiles behind a first one
pub tiles_next : (before : List TileView) (d : Data) (ds : Items) (tile : TileView) → Ok tile ≡ tile_in before d → tiles_from before (item d ds) ≡ tiles_from (before ++ tile ∷ []) ds
tiles_next before d ds tile is = rw (← is)

-- or its fault
pub tiles_fault : (before : List TileView) (d : Data) (ds : Items) (fault : TileFault) → Err fault ≡ tile_in before d → tiles_from before (item d ds) ≡ Err fault
tiles_fault before d ds fault is = rw (← is)

-- the pair of an element
abbrev pub pair_in : List TileView → ℕ → Data → Result Pair TileFault
pair_in tiles pair d = result_then (table_in (place.Pair pair) key.Pair d) (pair_from tiles pair)

-- the pairs behind a first one
pub pairs_next : (tiles : List TileView) (before : List Pair) (d : Data) (ds : Items) (pair : Pair) → Ok pair ≡ pair_in tiles (length before) d → pairs_from tiles before (item d ds) ≡ pairs_from tiles (before ++ pair ∷ []) ds
pairs_next tiles before d ds pair is = rw (← is)

-- or its fault
pub pairs_fault : (tiles : List TileView) (before : List Pair) (d : Data) (ds : Items) (fault : TileFault) → Err fault ≡ pair_in tiles (length before) d → pairs_from tiles before (item d ds) ≡ Err fault
pairs_fault tiles before d ds fault is = rw (← is)

-- bytes that are no text are no document
pub parsed_no_text : (bytes : List ℕ) → (IsUtf8 bytes → ⊥) → parsed_document bytes ≡ Err fault.Toml
parsed_no_text bytes other = elim (cases_Bool (is_utf8 bytes)) [
  | inl spelled ↦ absurd (other (IsUtf8-from_is_utf8 bytes spelled))
  | inr unspelled ↦ rw unspelled
]

-- a text is the document that toml reads
pub parsed_text : (bytes text : List ℕ) → text ≡ bytes → IsUtf8 bytes → parsed_document bytes ≡ ok_or (parse_document text) fault.Toml
parsed_text bytes text same is = rw (is_utf8-from_IsUtf8 bytes is, same)

-- ---- the first place that passes a test

-- where it is known
pub first_place : {X : Type 0} (p : X → Bool) (xs : List X) (i : ℕ) → position p xs ≡ Some i → position_or_len p xs ≡ i
first_place p xs i at = elim (cases_lt (position_or_len p xs) (length xs)) [
  | inl within ↦ let same = sym (cond-true _ (Some (position_or_len p xs)) None (lt-ltb _ _ within)) ∙ at in cc
  | inr past ↦ let clash = sym (cond-false _ (Some (position_or_len p xs)) None (le-ltb _ _ past)) ∙ at in cc
]

-- where there is none
pub no_place : {X : Type 0} (p : X → Bool) (xs : List X) (d : X) → position p xs ≡ None → position_or_len p xs ≡ length xs
no_place p xs d none = position_or_len_is p xs (length xs) d (omega arith) (λ k within. position_fails p xs none k d within) (λ past. absurd (omega arith))
