-- What the check of a named file says of the folder.
use Rattle.std.specs.Prelude.{◌≡◌, ℕ, List, Option, Result, Ok, Err, ⊤}
use Rattle.wfc_outside.specs.Folder.{File, FolderView, IsToldAs, IsMissing, IsFaultOf}
use Rattle.wfc_problem.specs.Network.{Network}
use Rattle.wfc_proof.specs.declared.heads.Shape.{Shape}
use Rattle.wfc_check.specs.declared.fault.CheckFault.{CheckFault}
use Rattle.wfc_check.specs.declared.fault.CheckFault.TheVariants.{Rejected, BadLine, HeaderDiffers, NotEnded, Missing}
use Rattle.wfc_check.specs.declared.fault.CheckFault.TheVariants.{Failed, TooLong, NoMemory, OptionsDiffer}
use Rattle.wfc_check.specs.Text.{checked, IsRefutation}

-- a fault that stands in the text, or its length
abbrev pub IsOfText : CheckFault → Type 0
IsOfText (Rejected line reject) = ⊤
IsOfText (BadLine line) = ⊤
IsOfText (HeaderDiffers cells values) = ⊤
IsOfText NotEnded = ⊤
IsOfText Missing = ⊥
IsOfText Failed = ⊥
IsOfText TooLong = ⊤
IsOfText NoMemory = ⊥
IsOfText (OptionsDiffer found) = ⊤

-- the answer is that to the named file's bytes, or to some bytes where the files aren't told; no
-- count of the folder rose
pub record IsOfFile (P : Network) (shape : Shape) (name : List ℕ) (old new : FolderView)
    (answer : Result (Unit {0}) CheckFault) : Type 0 where
  pub same : new ≡ old
  pub bytes : List ℕ
  pub told : IsToldAs old.contents name bytes
  pub is : checked P shape bytes ≡ answer

-- what the check of a file answers: a device's fault only where it has its cause, and else what its
-- bytes are answered, unless memory ran out
abbrev pub Answers : Network → Shape → List ℕ → FolderView → FolderView → Result (Unit {0}) CheckFault → Type 0
Answers P shape name old new (Ok done) = IsOfFile P shape name old new (Ok done)
Answers P shape name old new (Err (Rejected line reject)) = IsOfFile P shape name old new (Err (Rejected line reject))
Answers P shape name old new (Err (BadLine line)) = IsOfFile P shape name old new (Err (BadLine line))
Answers P shape name old new (Err (HeaderDiffers cells values)) =
    IsOfFile P shape name old new (Err (HeaderDiffers cells values))
Answers P shape name old new (Err NotEnded) = IsOfFile P shape name old new (Err NotEnded)
Answers P shape name old new (Err Missing) = IsMissing old new name
Answers P shape name old new (Err Failed) = IsFaultOf old new name
Answers P shape name old new (Err TooLong) = IsOfFile P shape name old new (Err TooLong)
Answers P shape name old new (Err NoMemory) = new ≡ old
Answers P shape name old new (Err (OptionsDiffer found)) = IsOfFile P shape name old new (Err (OptionsDiffer found))

-- the named file's bytes are a refutation; where the files aren't told some bytes are
abbrev pub IsToldRefutation : Network → Shape → Option (List File) → List ℕ → Type 0
IsToldRefutation P shape contents name = (bytes : List ℕ) × IsToldAs contents name bytes × IsRefutation P shape bytes
