-- How a text spells a grid.
use Rattle.std.specs.Prelude.{◌≡◌, ℕ, ◌⊎◌, List, [], ◌∷◌, ◌++◌}
use Rattle.wfc_grid.specs.Grid.{GridView, IsGrid, raster_of_grid}

-- a line feed, or a carriage return and a line feed
abbrev pub IsLineEnd : List ℕ → Type 0
IsLineEnd end = (end ≡ 10 ∷ []) ⊎ (end ≡ 13 ∷ 10 ∷ [])

-- the text is these rows, one a line; each has its end, but the last may lack it
abbrev pub SpellsRows : List ℕ → List (List ℕ) → Type 0
SpellsRows text [] = ⊥
SpellsRows text (row ∷ []) = (end : List ℕ) × ((end ≡ []) ⊎ IsLineEnd end) × (text ≡ row ++ end)
SpellsRows text (row ∷ next ∷ rows) =
    (end : List ℕ) × (rest : List ℕ) × IsLineEnd end × (text ≡ row ++ (end ++ rest))
    × SpellsRows rest (next ∷ rows)

-- the text is the rows of this grid
pub record SpellsGrid (text : List ℕ) (g : GridView) : Type 0 where
  pub grid : IsGrid g
  pub rows : SpellsRows text (raster_of_grid g).rows

-- the text that is written for rows: each with a line feed behind it
abbrev pub grid_text : List (List ℕ) → List ℕ
grid_text [] = []
grid_text (row ∷ rows) = row ++ 10 ∷ grid_text rows
