-- The first fault of a text that is read as a grid.
use Rattle.std.specs.Prelude.{ℕ, ◌+◌, ◌==◌, Bool, not, nat_lt, List, [], ◌∷◌, length, map, position, Option, None, Some, if◌then◌else◌}
use Rattle.std.specs.List.{concat}
use Rattle.std.specs.Option.{option_or}
use Rattle.wfc_text.specs.Line.{LineView}
use Rattle.wfc_grid.specs.Grid.{is_grid_byte}
use Rattle.wfc_grid.specs.declared.reading.TheConstants.{MAX_GRID_BYTES}
use Rattle.wfc_grid.specs.declared.reading.GridFault.{GridFault}
use Rattle.wfc_grid.specs.declared.reading.GridFault.TheVariants.{Empty, Ragged, BadByte, TooLarge}

-- whether a byte may not stand in a grid
abbrev pub is_no_grid_byte : ℕ → Bool
is_no_grid_byte byte = not (is_grid_byte byte)

-- the fault at the first byte that may not stand in a grid, if there is one; columns count from 1
abbrev pub byte_fault : ℕ → Option ℕ → Option GridFault
byte_fault line None = None
byte_fault line (Some at) = Some (BadByte line (at + 1))

-- the fault of a line in a grid of this width; a bad byte comes before a wrong length
abbrev pub line_fault : ℕ → LineView → Option GridFault
line_fault width line =
    option_or (byte_fault line.number (position is_no_grid_byte line.bytes))
    (if length line.bytes == width then None else Some (Ragged line.number))

-- the fault of the first line that has one
abbrev pub first_fault : ℕ → List LineView → Option GridFault
first_fault width [] = None
first_fault width (line ∷ lines) = option_or (line_fault width line) (first_fault width lines)

-- how long the first line is, and 0 where there is none
abbrev pub width_of : List LineView → ℕ
width_of [] = 0
width_of (line ∷ lines) = length line.bytes

-- what the lines have, one after another
abbrev pub rows_of : List LineView → List (List ℕ)
rows_of lines = map (λ (line : LineView). line.bytes) lines

-- the bytes of all lines
abbrev pub grid_bytes : List LineView → List ℕ
grid_bytes lines = concat (rows_of lines)

-- too many bytes, where there are
abbrev pub size_fault : ℕ → Option GridFault
size_fault cells = if nat_lt MAX_GRID_BYTES cells then Some TooLarge else None

-- the first fault of lines that are read as a grid
abbrev pub grid_fault_of : List LineView → Option GridFault
grid_fault_of lines =
    if width_of lines == 0 then Some Empty
    else option_or (first_fault (width_of lines) lines) (size_fault (length (grid_bytes lines)))
