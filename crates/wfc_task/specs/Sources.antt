-- What a map is made of.
use Rattle.std.specs.Prelude.{Bool, false, true, ℕ}
use Rattle.wfc_words.specs.declared.kinds.SourceModel.{SourceModel}
use Rattle.wfc_words.specs.declared.kinds.SourceModel.TheVariants.{Overlap, Tiles}

-- whether the map is made of windows
abbrev pub is_of_windows : SourceModel → Bool
is_of_windows (Overlap n) = true
is_of_windows Tiles = false

-- the side of a window, and 0 where the map is of tiles
abbrev pub window_side_of : SourceModel → ℕ
window_side_of (Overlap n) = n
window_side_of Tiles = 0
