-- What a fault of one reading is to the reading of a whole file.
use Rattle.wfc_outside.specs.declared.FolderFault.{FolderFault}
use Rattle.wfc_outside.specs.declared.FolderFault.TheVariants.{Missing, Failed}
use Rattle.wfc_outside.specs.declared.whole.ReadFault.{ReadFault}
use Rattle.wfc_outside.specs.declared.whole.ReadFault.TheVariants as read

-- the fault of the same name
abbrev pub read_fault : FolderFault → ReadFault
read_fault Missing = read.Missing
read_fault Failed = read.Failed
