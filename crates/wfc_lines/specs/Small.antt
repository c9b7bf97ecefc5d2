-- A small fault of a check, for laws.
use Rattle.wfc_check.specs.Cases.{small_shape}
use Rattle.wfc_check.specs.declared.fault.CheckFault.{CheckFault}
use Rattle.wfc_check.specs.declared.fault.CheckFault.TheVariants.{OptionsDiffer}

-- the head of a refutation has this shape, which isn't the one asked for
abbrev pub shape_differs : CheckFault
shape_differs = OptionsDiffer small_shape
