-- Which statuses faults have.
use Rattle.std.proofs.Common.{arith, ◌≡◌, ◌≤◌}
use Rattle.wfc_outside.specs.declared.whole.ReadFault.{ReadFault}
use Rattle.wfc_outside.specs.declared.whole.ReadFault.TheVariants as reading
use Rattle.wfc_plan.specs.Fault.{class_of, class_status, reading_status, status_of}
use Rattle.wfc_plan.specs.declared.fault.FaultClass.{FaultClass}
use Rattle.wfc_plan.specs.declared.fault.FaultClass.TheVariants.{Input, Memory, NoChooser}
use Rattle.wfc_plan.specs.declared.fault.Fault.{Fault}
use Rattle.wfc_plan.specs.declared.fault.Fault.TheVariants.{Refused, Unread}

-- the status of a fault is from 4 to 7
pub fault_between : (fault : Fault) → (4 ≤ status_of fault) × (status_of fault ≤ 7)
fault_between (Unread source fault) = by_reading fault
  where
    by_reading : (fault : ReadFault) → (4 ≤ reading_status fault) × (reading_status fault ≤ 7)
    by_reading reading.Missing = (omega arith, omega arith)
    by_reading reading.Failed = (omega arith, omega arith)
    by_reading reading.TooLong = (omega arith, omega arith)
    by_reading reading.NoMemory = (omega arith, omega arith)
fault_between (Refused refusal) = by_class (class_of refusal)
  where
    by_class : (class : FaultClass) → (4 ≤ class_status class) × (class_status class ≤ 7)
    by_class Input = (omega arith, omega arith)
    by_class Memory = (omega arith, omega arith)
    by_class NoChooser = (omega arith, omega arith)

-- so none has that of words that are no request
pub never_3 : (fault : Fault) → status_of fault ≡ 3 → ⊥
never_3 fault is = omega (arith, (fault_between fault).0, is)
