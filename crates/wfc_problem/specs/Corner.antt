-- A small problem without symmetry, on which laws try the definitions.
use Rattle.std.specs.Prelude.{ℕ, true, false, List, [], ◌∷◌, slice_set}
use Rattle.wfc_problem.specs.declared.TheConstants.{NO_CELL}
use Rattle.wfc_problem.specs.declared.strides.FourSides.{FourSides}
use Rattle.wfc_problem.specs.Network.{Network}

-- cells 0, 1 and 3 in a row and 2 below 0, with three values
abbrev pub corner : Network
corner = record {
  cells = 4;
  dirs = 4;
  neighbours =
      NO_CELL ∷ 2 ∷ 1 ∷ NO_CELL
      ∷ 0 ∷ NO_CELL ∷ 3 ∷ NO_CELL
      ∷ NO_CELL ∷ NO_CELL ∷ NO_CELL ∷ 0
      ∷ 1 ∷ NO_CELL ∷ NO_CELL ∷ NO_CELL ∷ [];
  weights = 5 ∷ 1 ∷ 3 ∷ [];
  supports =
      (2 ∷ []) ∷ (0 ∷ []) ∷ (1 ∷ 2 ∷ []) ∷ (0 ∷ 1 ∷ [])
      ∷ (0 ∷ []) ∷ (0 ∷ 2 ∷ []) ∷ (2 ∷ []) ∷ (2 ∷ [])
      ∷ (0 ∷ 1 ∷ []) ∷ (1 ∷ []) ∷ (0 ∷ []) ∷ (1 ∷ []) ∷ [];
  base =
      true ∷ true ∷ false
      ∷ false ∷ true ∷ true
      ∷ true ∷ true ∷ true
      ∷ true ∷ false ∷ true ∷ [];
}

-- the same problem with another neighbour at a place of its table
abbrev pub corner_with_neighbour : ℕ → ℕ → Network
corner_with_neighbour place cell = record corner { neighbours = slice_set corner.neighbours place cell }

-- the same problem with other values in a row of the table of what may stand beside what
abbrev pub corner_with_supports : ℕ → List ℕ → Network
corner_with_supports row supports = record corner { supports = slice_set corner.supports row supports }

-- cells where 2 alone has four neighbours: 0, 3, 4 and 1 in the order of the directions
abbrev pub crossroads : Network
crossroads = record corner {
  cells = 5;
  neighbours =
      NO_CELL ∷ NO_CELL ∷ 2 ∷ NO_CELL
      ∷ NO_CELL ∷ 2 ∷ NO_CELL ∷ NO_CELL
      ∷ 0 ∷ 3 ∷ 4 ∷ 1
      ∷ NO_CELL ∷ NO_CELL ∷ NO_CELL ∷ 2
      ∷ 2 ∷ NO_CELL ∷ NO_CELL ∷ NO_CELL ∷ [];
}

-- its sides, in a table with rows of three entries
abbrev pub crossroads_sides : FourSides
crossroads_sides = record {
  hops = 4294967294 ∷ 1 ∷ 2 ∷ 4294967295 ∷ [];
  strides = 4294967290 ∷ 3 ∷ 6 ∷ 4294967293 ∷ [];
}
