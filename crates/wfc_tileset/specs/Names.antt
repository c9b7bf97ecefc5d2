-- Names of tiles, each with the number of the first tile that has it.
use Rattle.std.specs.Prelude.{◌≡◌, ℕ, List, None, Some, String, if◌then◌else◌}
use Rattle.std.specs.BTreeMap.{BTreeMap, get_by_text}
use Rattle.std.specs.List.{position}
use Rattle.std.specs.Option.{option_or}
use Rattle.std.specs.Str.{bytes_eq}
use Rattle.wfc_tileset.specs.Document.{has_name}
use Rattle.wfc_tileset.specs.Tiles.{TileView}

module _ {Y : Type 0} where
  -- each name has the number of the first tile that has it
  abbrev pub AreNames : BTreeMap (String Y) ℕ → List TileView → Type 0
  AreNames names tiles = (name : List ℕ) → get_by_text names name ≡ position (has_name name) tiles

  -- a name was noted with a number, where it had none
  abbrev pub IsNoted : BTreeMap (String Y) ℕ → BTreeMap (String Y) ℕ → List ℕ → ℕ → Type 0
  IsNoted old new noted number =
      (name : List ℕ) → get_by_text new name
      ≡ option_or (get_by_text old name) (if bytes_eq noted name then Some number else None)
