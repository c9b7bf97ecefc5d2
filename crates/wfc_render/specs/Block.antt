-- The text of domains after a step.
use Rattle.std.specs.Prelude.{◌≡◌, ℕ, ◌+◌, List, [], ◌∷◌, ◌++◌, Option, None, Some, codes, decimal, filter, flat_map}
use Rattle.std.specs.List.{range_with_len}
use Rattle.wfc_log.specs.Domains.{Flags, has}
use Rattle.wfc_problem.specs.Domains.{Test}
use Rattle.wfc_render.specs.Numbers.{blank_numbers, head_line}

-- a cell: its number, and the values that stand there in rising order
abbrev pub cell_line : Test → ℕ → ℕ → List ℕ
cell_line D values c = decimal c ++ 0x3A ∷ (blank_numbers (filter (D c) (range_with_len 0 values)) ++ 10 ∷ [])

-- all cells of domains, if some are shown, else that they are dead
abbrev pub shown_text : Option Test → ℕ → ℕ → List ℕ
shown_text None values cells = codes "dead\n"
shown_text (Some D) values cells = flat_map (cell_line D values) (range_with_len 0 cells)

-- the step, and the domains after it
abbrev pub block_text : ℕ → Option Test → ℕ → ℕ → List ℕ
block_text step shown values cells = head_line (codes "step") step ++ shown_text shown values cells

-- the blocks of domains after one step and another, of which the first has this number
abbrev pub blocks_from : ℕ → List (Option Test) → ℕ → ℕ → List ℕ
blocks_from step [] values cells = []
blocks_from step (shown ∷ others) values cells =
    block_text step shown values cells ++ blocks_from (step + 1) others values cells

-- the blocks of domains before any step and after each
abbrev pub domain_text : List (Option Test) → ℕ → ℕ → List ℕ
domain_text shown values cells = blocks_from 0 shown values cells

-- the domains that are shown, as a test
abbrev pub test_of : Option Flags → Option Test
test_of None = None
test_of (Some D) = Some (has D)

-- the domains, if some are shown, are of so many values and cells
abbrev pub IsSizedFor : Option Flags → ℕ → ℕ → Type 0
IsSizedFor None values cells = Unit {0}
IsSizedFor (Some D) values cells = (D.values ≡ values) × (D.cells ≡ cells)
