-- What a fault of a reading is to the check of a file.
use Rattle.wfc_outside.specs.declared.whole.ReadFault.{ReadFault}
use Rattle.wfc_outside.specs.declared.whole.ReadFault.TheVariants as read
use Rattle.wfc_check.specs.declared.fault.CheckFault.{CheckFault}
use Rattle.wfc_check.specs.declared.fault.CheckFault.TheVariants as check

-- the fault of the same name
abbrev pub check_fault : ReadFault → CheckFault
check_fault read.Missing = check.Missing
check_fault read.Failed = check.Failed
check_fault read.TooLong = check.TooLong
check_fault read.NoMemory = check.NoMemory
