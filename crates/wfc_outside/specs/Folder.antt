-- What a folder is seen as, and what its answers say of it.
use Rattle.std.specs.Prelude.{◌≡◌, ℕ, ◌-◌, ◌<◌, ◌≤◌, List, [], ◌∷◌, length, take, drop, Option, None, Some, MatchOption, if◌then◌else◌}
use Rattle.std.specs.Str.{bytes_eq}
use Rattle.wfc_outside.specs.Count.{HasRisen}

-- a file as a folder tells it
pub record File : Type 0 where
  pub name : List ℕ
  pub bytes : List ℕ

-- a folder: its files, where they are told, and the count of faults of each name
pub record FolderView : Type 0 where
  pub contents : Option (List File)
  pub faults : List ℕ → ℕ

-- the bytes of the first file of that name, if there is one
abbrev pub file_of : List File → List ℕ → Option (List ℕ)
file_of [] name = None
file_of (file ∷ files) name = if bytes_eq file.name name then Some file.bytes else file_of files name

-- where the files are told, the named one has these bytes
abbrev pub IsToldAs : Option (List File) → List ℕ → List ℕ → Type 0
IsToldAs None name bytes = Unit {0}
IsToldAs (Some files) name bytes = file_of files name ≡ Some bytes

-- no count of a fault is lower than before
abbrev pub NoCountFell : FolderView → FolderView → Type 0
NoCountFell old new = (name : List ℕ) → old.faults name ≤ new.faults name

-- a fault of the named file was counted; what is told stands, and no count fell
pub record IsFaultOf (old new : FolderView) (name : List ℕ) : Type 0 where
  pub contents : new.contents ≡ old.contents
  pub counts : NoCountFell old new
  pub counted : HasRisen (old.faults name) (new.faults name)

-- the named file is missing: the told files lack it, or, where they aren't told, a fault of it was
-- counted; what is told stands, and no count fell
pub record IsMissing (old new : FolderView) (name : List ℕ) : Type 0 where
  pub contents : new.contents ≡ old.contents
  pub counts : NoCountFell old new
  pub lacking : MatchOption old.contents (HasRisen (old.faults name) (new.faults name))
      (λ files. file_of files name ≡ None)

-- the first n bytes of the buffer are those that stand at a place of the file, and there are none only at its end
pub record IsPieceOf (file : List ℕ) (at : ℕ) (buffer : List ℕ) (n : ℕ) : Type 0 where
  pub same : take n buffer ≡ take n (drop at file)
  pub inside : n ≤ length file - at
  pub at_end : n ≡ 0 → 0 < length buffer → length file ≤ at

-- where the files are told, the first n bytes of the buffer are given from the named one
abbrev pub GivesFrom : Option (List File) → List ℕ → ℕ → List ℕ → ℕ → Type 0
GivesFrom None name at buffer n = Unit {0}
GivesFrom (Some files) name at buffer n =
    (file : List ℕ) × (file_of files name ≡ Some file) × IsPieceOf file at buffer n
