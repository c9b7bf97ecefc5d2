-- The texts of a file that is no mask: of a text that is no grid, and of a grid that is no mask.
use Rattle.std.specs.Prelude.{ℕ, List, codes}
use Rattle.wfc_grid.specs.declared.reading.GridFault.{GridFault}
use Rattle.wfc_grid.specs.declared.reading.GridFault.TheVariants as grids
use Rattle.wfc_tiled.specs.declared.reading.MaskFault.{MaskFault}
use Rattle.wfc_tiled.specs.declared.reading.MaskFault.TheVariants as faults
use Rattle.wfc_lines.specs.Line.{about, numbered_text, twice_numbered_text}
use Rattle.wfc_lines.specs.Outcome.{no_memory_text}

-- why the text of a mask is no grid of characters, with the line and the column that are at fault
abbrev pub text_of_mask_grid : GridFault → List ℕ → List ℕ
text_of_mask_grid grids.Empty file = about (codes "mask Empty") file
text_of_mask_grid (grids.Ragged line) file = numbered_text (codes "mask Ragged line=") line file
text_of_mask_grid (grids.BadByte line column) file =
    twice_numbered_text (codes "mask BadByte line=") line (codes " column=") column file
text_of_mask_grid grids.TooLarge file = about (codes "mask TooLarge") file
text_of_mask_grid grids.NoMemory file = no_memory_text

-- why a grid is no mask: its sides are not those of the map, it has a wrong symbol, or it leaves no place
abbrev pub text_of_mask : MaskFault → List ℕ → List ℕ
text_of_mask (faults.SizeDiffers width height) file =
    twice_numbered_text (codes "mask SizeDiffers width=") width (codes " height=") height file
text_of_mask (faults.BadSymbol line column) file =
    twice_numbered_text (codes "mask BadSymbol line=") line (codes " column=") column file
text_of_mask faults.AllHoles file = about (codes "mask AllHoles") file
text_of_mask faults.NoMemory file = no_memory_text
