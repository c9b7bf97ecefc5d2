-- What is said of a whole file that is read, and of a whole piece that is written.
use Rattle.std.specs.Prelude.{ℕ, ◌<◌, List, Option, length}
use Rattle.wfc_outside.specs.Folder.{File, IsToldAs}

-- where the files are told, the named one has more bytes than the limit
abbrev pub IsLongerThan : Option (List File) → List ℕ → ℕ → Type 0
IsLongerThan contents name limit = (bytes : List ℕ) × (limit < length bytes) × IsToldAs contents name bytes
