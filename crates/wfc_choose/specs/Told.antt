-- What contracts see of a chooser.
use Rattle.std.specs.Prelude.{ℕ, List}
use Rattle.wfc_choose.specs.Pick.{Rule}

-- its rule, and the sizes of all cells that it was told
pub record Told : Type 0 where
  pub rule : Rule
  pub sizes : List ℕ
