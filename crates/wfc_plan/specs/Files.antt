-- Files that are read whole.
use Rattle.std.specs.Prelude.{List, Result, Some, length, ℕ, ◌≡◌, ◌≤◌}
use Rattle.wfc_outside.specs.Folder.{File, file_of}
use Rattle.wfc_plan.specs.Plan.{Plan, done, most_bytes, outcome, read}
use Rattle.wfc_plan.specs.declared.fault.Fault.{Fault}
use Rattle.wfc_plan.specs.declared.fault.Source.{Source}

-- the file of that name has these bytes, which are no more than a file may have
pub record IsFile (files : List File) (name bytes : List ℕ) : Type 0 where
  pub there : file_of files name ≡ Some bytes
  pub short : length bytes ≤ 16777216

-- the whole of a file
abbrev pub file_plan : Source → List ℕ → Plan (List ℕ)
file_plan source name = read source name most_bytes (λ bytes. done bytes)

-- any file of so many bytes, whatever it is read for, comes to this answer
abbrev pub AreReadAs : ℕ → (Source → List ℕ → Result (List ℕ) Fault) → Type 0
AreReadAs count answer =
    (files : List File) (source : Source) (name bytes : List ℕ) → file_of files name ≡ Some bytes
    → length bytes ≡ count → outcome (file_plan source name) files ≡ answer source bytes
