-- The first lines of a text, and which line a fault is at.
use Rattle.std.specs.Prelude.{◌≡◌, ◌⊎◌, ℕ, zero, suc, ◌≤◌, List, [], ◌∷◌, length, Option, None, Some, Ok, Err, if◌then◌else◌}
use Rattle.wfc_text.specs.Line.{is_line_feed}
use Rattle.wfc_problem.specs.Network.{Network}
use Rattle.wfc_proof.specs.declared.heads.Shape.{Shape}
use Rattle.wfc_check.specs.Text.{checked}
use Rattle.wfc_check.specs.declared.fault.CheckFault.{CheckFault}
use Rattle.wfc_check.specs.declared.fault.CheckFault.TheVariants.{Rejected, BadLine, HeaderDiffers, NotEnded, Missing}
use Rattle.wfc_check.specs.declared.fault.CheckFault.TheVariants.{Failed, TooLong, NoMemory, OptionsDiffer}
use Rattle.wfc_check.specs.declared.reading.TheConstants.{MAX_REFUTATION_BYTES}

-- the first n lines of a text with their ends, all of it where it has no more
abbrev pub first_lines : ℕ → List ℕ → List ℕ
first_lines n [] = []
first_lines zero (byte ∷ text) = []
first_lines (suc n) (byte ∷ text) = byte ∷ (if is_line_feed byte then first_lines n text else first_lines (suc n) text)

-- the line that a fault is at, if it is at one: numbers stand in the second, the shape in the third
abbrev pub line_at_fault : CheckFault → Option ℕ
line_at_fault (Rejected line reject) = Some line
line_at_fault (BadLine line) = Some line
line_at_fault (HeaderDiffers cells values) = Some 2
line_at_fault NotEnded = None
line_at_fault Missing = None
line_at_fault Failed = None
line_at_fault TooLong = None
line_at_fault NoMemory = None
line_at_fault (OptionsDiffer found) = Some 3

-- a text that isn't too long is answered this fault, which is at line k
pub record IsAtFault (P : Network) (shape : Shape) (text : List ℕ) (fault : CheckFault) (k : ℕ) : Type 0 where
  pub within : length text ≤ MAX_REFUTATION_BYTES
  pub is : checked P shape text ≡ Err fault
  pub line : line_at_fault fault ≡ Some k

-- the text is accepted, or answered that its proof isn't ended
abbrev pub IsRightSoFar : Network → Shape → List ℕ → Type 0
IsRightSoFar P shape text = (checked P shape text ≡ Ok tt) ⊎ (checked P shape text ≡ Err NotEnded)
