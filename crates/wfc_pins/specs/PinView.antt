-- A line of a pins file as contracts see it.
use Rattle.std.specs.Prelude.{ℕ, Bool, List}

-- at a pixel or a tile of the output a symbol is kept, or banned from it; the symbol is as the file writes it
pub record PinView : Type 0 where
  pub line : ℕ
  pub keep : Bool
  pub x : ℕ
  pub y : ℕ
  pub symbol : List ℕ
