-- Classes of refusals, and the status that follows from a class alone.
use Rattle.std.specs.Prelude.{ℕ, ◌≡◌, ◌≢◌, ◌⊎◌}
use Rattle.wfc_outside.specs.declared.whole.ReadFault.{ReadFault}
use Rattle.wfc_outside.specs.declared.whole.ReadFault.TheVariants as reading
use Rattle.wfc_plan.specs.declared.fault.FaultClass.{FaultClass}
use Rattle.wfc_plan.specs.declared.fault.FaultClass.TheVariants.{Input, Memory, NoChooser}
use Rattle.wfc_plan.specs.declared.fault.Fault.{Fault}
use Rattle.wfc_plan.specs.declared.fault.Fault.TheVariants.{Refused, Unread}
use Rattle.wfc_plan.specs.declared.fault.Refusal.{Refusal}
use Rattle.wfc_plan.specs.declared.fault.Refusal.TheVariants.{Chooser, NoMemory}

-- the fault of a step becomes this refusal: want of memory the one refusal of all steps, and any other fault its own
abbrev pub IsRefusedAs : {E : Type 0} → (E → Refusal) → E → E → Refusal → Type 0
IsRefusedAs own no_memory fault refusal =
    ((fault ≡ no_memory) × (refusal ≡ NoMemory)) ⊎ ((fault ≢ no_memory) × (refusal ≡ own fault))

-- the class of a refusal: a chooser is missing, memory ran out, and all else is the fault of a file, of a size or of a limit
abbrev pub class_of : Refusal → FaultClass
class_of (Chooser rule) = NoChooser
class_of NoMemory = Memory
class_of _ = Input

-- the exit status of a class
abbrev pub class_status : FaultClass → ℕ
class_status Input = 4
class_status Memory = 6
class_status NoChooser = 7

-- the exit status of a fault of a reading: a device's, one of the length, or want of memory
abbrev pub reading_status : ReadFault → ℕ
reading_status reading.Missing = 5
reading_status reading.Failed = 5
reading_status reading.TooLong = 4
reading_status reading.NoMemory = 6

-- the exit status of a fault
abbrev pub status_of : Fault → ℕ
status_of (Unread source fault) = reading_status fault
status_of (Refused refusal) = class_status (class_of refusal)
