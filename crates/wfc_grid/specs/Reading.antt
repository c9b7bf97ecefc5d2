-- What reading a text as a grid answers.
use Rattle.std.specs.Prelude.{ℕ, List, length, Option, None, Some, Result, Ok, Err}
use Rattle.std.specs.List.{concat}
use Rattle.wfc_text.specs.Line.{lines_of}
use Rattle.wfc_grid.specs.Grid.{GridView}
use Rattle.wfc_grid.specs.Fault.{grid_fault_of, rows_of, width_of}
use Rattle.wfc_grid.specs.declared.reading.GridFault.{GridFault}

-- the grid that rows make
abbrev pub rows_grid : ℕ → List (List ℕ) → GridView
rows_grid width rows = record { width = width; height = length rows; bytes = concat rows }

-- the grid, or the fault if there is one
abbrev pub unless_fault : Option GridFault → GridView → Result GridView GridFault
unless_fault None grid = Ok grid
unless_fault (Some fault) grid = Err fault

-- the grid of the text's lines, or its first fault
abbrev pub grid_of : List ℕ → Result GridView GridFault
grid_of text =
    unless_fault (grid_fault_of (lines_of text))
    (rows_grid (width_of (lines_of text)) (rows_of (lines_of text)))
