-- Lines without a fault: rows of one length, of bytes that may stand in a grid.
use Rattle.std.proofs.Common.{◌≡◌, ℕ, List, [], ◌∷◌, length, ◌==◌, Bool, true, false, None, Some, Option, refl, if◌then◌else◌, eqb-true, eq-eqb}
use Rattle.std.specs.List.{AllPass, AllByRecursion, position}
use Rattle.std.specs.Option.{option_or}
use Rattle.wfc_text.specs.Line.{LineView}
use Rattle.wfc_text.proofs.CallerLemmas.{all_pass, none_found}
use Rattle.wfc_lists.proofs.Options.{both_none}
use Rattle.wfc_grid.specs.Grid.{is_grid_byte}
use Rattle.wfc_grid.specs.Fault.{is_no_grid_byte, byte_fault, line_fault, first_fault, rows_of}
use Rattle.wfc_grid.specs.declared.reading.GridFault.TheVariants.{Ragged}

-- a row is so long, and each byte may stand in a grid
pub record Fits (width : ℕ) (row : List ℕ) : Type 0 where
  pub long : length row ≡ width
  pub printable : AllPass is_grid_byte row

-- a line has no fault where no byte is bad and the length is right
no_fault : (number : ℕ) (found : Option ℕ) (same : Bool) → option_or (byte_fault number found) (if same then None else Some (Ragged number)) ≡ None → (found ≡ None) × (same ≡ true)
no_fault number None true is = (refl, refl)
no_fault number None false is = absurd (cc)
no_fault number (Some at) same is = absurd (cc)

-- a line without a fault fits
pub line-fits : (width : ℕ) (line : LineView) → line_fault width line ≡ None → Fits width line.bytes
line-fits width line none =
    let parts = no_fault line.number (position is_no_grid_byte line.bytes) (length line.bytes == width) none in
    record { long = eqb-true _ width parts.1; printable = all_pass is_grid_byte line.bytes parts.0 }

-- a line that fits has no fault
pub line_fault-fits : (width : ℕ) (line : LineView) → Fits width line.bytes → line_fault width line ≡ None
line_fault-fits width line fits = rw (none_found is_grid_byte line.bytes fits.printable, eq-eqb _ width fits.long) refl

-- where no line has a fault, each is right
pub rows-fit : (width : ℕ) (lines : List LineView) → first_fault width lines ≡ None → AllByRecursion (Fits width) (rows_of lines)
rows-fit width [] none = tt
rows-fit width (line ∷ lines) none =
    let parts = both_none (line_fault width line) (first_fault width lines) none in
    (line-fits width line parts.0, rows-fit width lines parts.1)

-- where each line is right, none has a fault
pub first_fault-fit : (width : ℕ) (lines : List LineView) → AllByRecursion (Fits width) (rows_of lines) → first_fault width lines ≡ None
first_fault-fit width [] fit = refl
first_fault-fit width (line ∷ lines) fit = rw (line_fault-fits width line fit.0) (first_fault-fit width lines fit.1)
