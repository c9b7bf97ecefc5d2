-- Plans: which files are read, in which order, and what is refused on the way. A plan says the
-- first fault, or what all comes to.
use Rattle.std.specs.Prelude.{Bool, Err, List, None, Ok, Option, Result, Some, false, if◌then◌else◌, length, nat_lt, ℕ, ◌≡◌, ◌⊎◌}
use Rattle.wfc_outside.specs.Folder.{File, FolderView, IsFaultOf, IsMissing, IsToldAs, file_of}
use Rattle.wfc_outside.specs.Whole.{IsLongerThan}
use Rattle.wfc_outside.specs.declared.whole.ReadFault.{ReadFault}
use Rattle.wfc_outside.specs.declared.whole.ReadFault.TheVariants as reading
use Rattle.wfc_plan.specs.Fault.{status_of}
use Rattle.wfc_plan.specs.declared.fault.Fault.{Fault}
use Rattle.wfc_plan.specs.declared.fault.Fault.TheVariants.{Refused, Unread}
use Rattle.wfc_plan.specs.declared.fault.Refusal.{Refusal}
use Rattle.wfc_plan.specs.declared.fault.Source.{Source}

-- it comes to something, it is refused, or it reads a file, which may have a limit of its bytes, and goes on with them
pub data Plan (T : Type 0) : Type 0 where
  done : T → Plan T
  refuse : Refusal → Plan T
  read : Source → List ℕ → Option ℕ → (List ℕ → Plan T) → Plan T

-- how many bytes a file may have that is read whole
abbrev pub most_bytes : Option ℕ
most_bytes = Some 16777216

-- whether so many bytes are past the limit, if there is one
abbrev pub is_over : Option ℕ → ℕ → Bool
is_over None count = false
is_over (Some most) count = nat_lt most count

-- the named file is longer than the limit
abbrev pub IsTooLong : Option (List File) → List ℕ → Option ℕ → Type 0
IsTooLong contents name None = ⊥
IsTooLong contents name (Some most) = IsLongerThan contents name most

-- a step that reads nothing
abbrev pub step : {T : Type 0} → Result T Refusal → Plan T
step (Ok value) = done value
step (Err refusal) = refuse refusal

-- one plan, and then the next with what it came to
abbrev pub and_then : {A B : Type 0} → Plan A → (A → Plan B) → Plan B
and_then (done value) next = next value
and_then (refuse refusal) next = refuse refusal
and_then (read source name limit more) next = read source name limit (λ bytes. and_then (more bytes) next)

-- why a file isn't read
abbrev pub CausesUnread : List ℕ → Option ℕ → FolderView → FolderView → ReadFault → Type 0
CausesUnread name limit before after reading.Missing = IsMissing before after name
CausesUnread name limit before after reading.Failed = IsFaultOf before after name
CausesUnread name limit before after reading.TooLong = IsTooLong before.contents name limit × (after ≡ before)
CausesUnread name limit before after reading.NoMemory = after ≡ before

-- the file has these bytes, where its folder tells, and not too many
pub record IsRead (before : FolderView) (name : List ℕ) (limit : Option ℕ) (bytes : List ℕ) : Type 0 where
  pub told : IsToldAs before.contents name bytes
  pub within : is_over limit (length bytes) ≡ false

-- the file isn't read, and the result says why
abbrev pub IsUnread : {T : Type 0} → Source → List ℕ → Option ℕ → FolderView → FolderView → Result T Fault → Type 0
IsUnread source name limit before after result =
    (fault : ReadFault) × CausesUnread name limit before after fault
    × (result ≡ Err (Unread source fault))

-- this is the result of the plan in this folder, for some bytes of the files where they aren't told
abbrev pub Follows : {T : Type 0} → Plan T → FolderView → FolderView → Result T Fault → Type 0
Follows (done value) before after result = (after ≡ before) × (result ≡ Ok value)
Follows (refuse refusal) before after result = (after ≡ before) × (result ≡ Err (Refused refusal))
Follows (read source name limit next) before after result =
    ((bytes : List ℕ) × IsRead before name limit bytes × Follows (next bytes) before after result)
    ⊎ IsUnread source name limit before after result

-- memory ran out
abbrev pub IsShort : {T : Type 0} → Result T Fault → Type 0
IsShort result = (fault : Fault) × (status_of fault ≡ 6) × (result ≡ Err fault)

-- a call that goes by the plan may have this result; memory may run out at any point
abbrev pub Goes : {T : Type 0} → Plan T → FolderView → FolderView → Result T Fault → Type 0
Goes plan before after result = Follows plan before after result ⊎ ((after ≡ before) × IsShort result)

-- the reading of a file that is told
abbrev pub reading_of : Option ℕ → Option (List ℕ) → Result (List ℕ) ReadFault
reading_of limit None = Err reading.Missing
reading_of limit (Some bytes) = if is_over limit (length bytes) then Err reading.TooLong else Ok bytes

-- what follows a reading
abbrev pub after_reading : {T : Type 0} → Source → (List ℕ → Result T Fault)
    → Result (List ℕ) ReadFault → Result T Fault
after_reading source next (Ok bytes) = next bytes
after_reading source next (Err fault) = Err (Unread source fault)

-- what the plan comes to over these files, or its first fault
abbrev pub outcome : {T : Type 0} → Plan T → List File → Result T Fault
outcome (done value) files = Ok value
outcome (refuse refusal) files = Err (Refused refusal)
outcome (read source name limit next) files =
    after_reading source (λ bytes. outcome (next bytes) files)
    (reading_of limit (file_of files name))

-- the plan may read a file of this name
abbrev pub Asks : {T : Type 0} → Plan T → List ℕ → Type 0
Asks (done value) asked = ⊥
Asks (refuse refusal) asked = ⊥
Asks (read source name limit next) asked = (asked ≡ name) ⊎ ((bytes : List ℕ) × Asks (next bytes) asked)

-- a reading failed, and a fault of its file was counted
pub record IsHindered {T U : Type 0} (plan : Plan T) (before after : FolderView)
    (result : Result U Fault) : Type 0 where
  pub source : Source
  pub name : List ℕ
  pub asked : Asks plan name
  pub counted : IsFaultOf before after name
  pub is : result ≡ Err (Unread source reading.Failed)

-- how a plan ends where the files are told: as its outcome, for want of memory, or with a counted fault
abbrev pub ToldEnd : {T : Type 0} → Plan T → FolderView → FolderView → List File → Result T Fault → Type 0
ToldEnd plan before after files result =
    (result ≡ outcome plan files) ⊎ (IsShort result ⊎ IsHindered plan before after result)

-- a result whose fault has become a refusal
abbrev pub or_refuse : {T E : Type 0} → (E → Refusal) → Result T E → Result T Refusal
or_refuse refusal (Ok value) = Ok value
or_refuse refusal (Err fault) = Err (refusal fault)
