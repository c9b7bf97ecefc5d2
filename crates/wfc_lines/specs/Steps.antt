-- The texts of a steps file.
use Rattle.std.specs.Prelude.{ℕ, List, codes}
use Rattle.wfc_pins.specs.declared.steps.RangeFault.{RangeFault}
use Rattle.wfc_pins.specs.declared.steps.RangeFault.TheVariants.{OutOfRange}
use Rattle.wfc_pins.specs.declared.steps.StepFault.{StepFault}
use Rattle.wfc_pins.specs.declared.steps.StepFault.TheVariants as faults
use Rattle.wfc_lines.specs.Line.{numbered_text}
use Rattle.wfc_lines.specs.Outcome.{no_memory_text}

-- why a text is no steps file: a line is no step, or undoes a step where none is left, or memory ran out
abbrev pub text_of_steps : StepFault → List ℕ → List ℕ
text_of_steps (faults.BadLine line) file = numbered_text (codes "steps BadLine line=") line file
text_of_steps (faults.NothingToUndo line) file = numbered_text (codes "steps NothingToUndo line=") line file
text_of_steps faults.NoMemory file = no_memory_text

-- a step speaks of a cell or a value that the problem does not have
abbrev pub text_of_range : RangeFault → List ℕ → List ℕ
text_of_range (OutOfRange line) file = numbered_text (codes "steps OutOfRange line=") line file
