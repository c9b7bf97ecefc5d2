-- The levels of literals, as contracts see them.
use Rattle.std.specs.Prelude.{ℕ, List}
use Rattle.wfc_problem.specs.declared.Literal.{Literal}

-- the literals that stand, how many removals there were when each was put on, and for how many more there is room
pub record Heights : Type 0 where
  pub standing : List Literal
  pub marks : List ℕ
  pub spare : ℕ
