-- The texts of a request without a problem; the file is that of the pins.
use Rattle.std.specs.Prelude.{ℕ, List, ◌++◌, codes, decimal}
use Rattle.wfc_pins.specs.declared.fault.BuildFault.{BuildFault}
use Rattle.wfc_pins.specs.declared.fault.BuildFault.TheVariants as faults
use Rattle.wfc_lines.specs.Line.{numbered_text}
use Rattle.wfc_lines.specs.Outcome.{no_memory_text}

-- why a request has no problem that can be run, with the line of the pin or the number that is at fault
abbrev pub text_of_build : BuildFault → List ℕ → List ℕ
text_of_build faults.SizeBelowN file = codes "build SizeBelowN"
text_of_build (faults.PinOutside line) file = numbered_text (codes "build PinOutside line=") line file
text_of_build (faults.UnknownSymbol line) file = numbered_text (codes "build UnknownSymbol line=") line file
text_of_build (faults.TooLarge product) file = codes "build TooLarge product=" ++ decimal product
text_of_build faults.NoMemory file = no_memory_text
text_of_build (faults.PinInHole line) file = numbered_text (codes "build PinInHole line=") line file
