-- Which pins are read back from the lines that are written of them, and with which numbers.
use Rattle.std.specs.Prelude.{List, [], ℕ, ◌+◌, ◌<◌, ◌^◌, ◌∷◌}
use Rattle.wfc_picture.specs.Symbol.{Spells}
use Rattle.wfc_picture.specs.declared.symbol.Symbol.{Symbol}
use Rattle.wfc_pins.specs.PinView.{PinView}

-- the column and the row of a pin fit 32 bits, and its symbol is the text of one that can stand in a sample
pub record IsWrittenPin (line : PinView) : Type 0 where
  pub x_in : line.x < 2 ^ 32
  pub y_in : line.y < 2 ^ 32
  pub symbol : (symbol : Symbol) × Spells line.symbol symbol

-- the same pins on the lines n, n + 1 and so on
abbrev pub numbered_from : ℕ → List PinView → List PinView
numbered_from n [] = []
numbered_from n (line ∷ lines) = record line { line = n } ∷ numbered_from (n + 1) lines
