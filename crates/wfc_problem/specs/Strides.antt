-- The hops from cells with four neighbours, and how far they lead in a table with a row for each cell.
use Rattle.std.specs.Prelude.{◌≡◌, ◌≢◌, ℕ, ◌*◌, ◌%◌, ◌^◌, ◌<◌, List, length, map, slice_index, slice_index_or, Option, Some, None}
use Rattle.wfc_problem.specs.declared.TheConstants.{NO_HOP}
use Rattle.wfc_problem.specs.declared.strides.FourSides.{FourSides}
use Rattle.wfc_problem.specs.Network.{Network, neighbour, entry_cell}
use Rattle.wfc_problem.specs.Hops.{Beside, hop_cell, hop_end, table_row, hops_row}

-- the sides that are kept of each cell, where these are the kinds of the cells and the sides of each kind
abbrev pub sides_by_kind : List ℕ → List (Option FourSides) → List (Option FourSides)
sides_by_kind kinds sides = map (λ k. slice_index_or sides k None) kinds

-- the sides that are kept of cell c, if any
abbrev pub sides_at : List (Option FourSides) → ℕ → Option FourSides
sides_at sides c = slice_index_or sides c None

-- hop h leads from cell c to its neighbour in direction d, and s from where the row of c begins to where the neighbour's
-- does, in a table with rows of n entries
pub record IsSide (P : Network) (n c d h s : ℕ) : Type 0 where
  pub beside : neighbour P c d ≡ Some (hop_end c h)
  pub begins : hop_end (c * n) s ≡ hop_end c h * n

-- there are four directions, and these are the sides of cell c in them
pub record AreSides (P : Network) (n c : ℕ) (x : FourSides) : Type 0 where
  pub four : P.dirs ≡ 4
  pub each : (d : ℕ) → d < 4 → IsSide P n c d (slice_index x.hops d) (slice_index x.strides d)

-- the sides that are kept of a cell, if any, are those that it has
abbrev pub AreStrides : Network → ℕ → List (Option FourSides) → Type 0
AreStrides P n sides = (c : ℕ) (x : FourSides) → c < P.cells → sides_at sides c ≡ Some x → AreSides P n c x

-- ---- how they are made

-- each of four hops leads to a cell, and these are they, and their products with the length of a row
pub record AreSidesOf (n : ℕ) (hops : List ℕ) (x : FourSides) : Type 0 where
  pub four : length hops ≡ 4
  pub some : (d : ℕ) → d < 4 → slice_index hops d ≢ NO_HOP
  pub same : (d : ℕ) → d < 4 → slice_index x.hops d ≡ slice_index hops d
  pub strides : (d : ℕ) → d < 4 → slice_index x.strides d ≡ (slice_index hops d * n) % 2 ^ 32

-- the sides that are kept of a cell, if any, are those of its row of hops
abbrev pub AreSidesByKind : ℕ → List ℕ → List ℕ → ℕ → List (Option FourSides) → Type 0
AreSidesByKind dirs kinds rows n sides = (c : ℕ) (x : FourSides) → sides_at sides c ≡ Some x → AreSidesOf n (hops_row dirs kinds rows c) x

-- the sides are those of hops that say what is beside cell c
pub record HasItsHops (B : Beside) (n c : ℕ) (x : FourSides) : Type 0 where
  pub hops : List ℕ
  pub named : map (hop_cell c) hops ≡ map entry_cell (table_row B.dirs B.entries c)
  pub sides : AreSidesOf n hops x

-- so are those that are kept of any cell
abbrev pub HaveTheirHops : Beside → ℕ → List (Option FourSides) → Type 0
HaveTheirHops B n sides = (c : ℕ) (x : FourSides) → c < B.cells → sides_at sides c ≡ Some x → HasItsHops B n c x
