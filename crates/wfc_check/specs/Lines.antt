-- Lines without their ends.
use Rattle.std.specs.Prelude.{◌≡◌, ℕ, false, List, All}
use Rattle.wfc_text.specs.Line.{is_line_feed}

-- no line feed is among the bytes
abbrev pub HasNoLineFeed : List ℕ → Type 0
HasNoLineFeed line = All (λ b. is_line_feed b ≡ false) line
