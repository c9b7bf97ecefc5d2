-- The texts of a document whose stacks are at fault.
use Rattle.std.specs.Prelude.{ℕ, List, ◌++◌, codes, decimal}
use Rattle.wfc_box.specs.declared.fault.StackFault.{StackFault}
use Rattle.wfc_box.specs.declared.fault.StackFault.TheVariants as faults
use Rattle.wfc_box.specs.declared.fault.StackKey.{StackKey}
use Rattle.wfc_box.specs.declared.fault.StackKey.TheVariants as ends
use Rattle.wfc_lines.specs.Line.{about, numbered_text}
use Rattle.wfc_lines.specs.Outcome.{no_memory_text}
use Rattle.wfc_lines.specs.Tiles.{keyed_text}

-- an end of a stack is named as the document spells it
abbrev pub name_of_end : StackKey → List ℕ
name_of_end ends.Lower = codes "lower"
name_of_end ends.Upper = codes "upper"

-- a text, and an end of a stack by its number
abbrev pub end_text : List ℕ → ℕ → StackKey → List ℕ → List ℕ
end_text text stack key file = keyed_text text (codes " stack=" ++ decimal stack) (name_of_end key) file

-- what is wrong with the stacks of a document, with the number of the stack that is at fault
abbrev pub text_of_stacks : StackFault → List ℕ → List ℕ
text_of_stacks faults.NotArray file = about (codes "stack NotArray") file
text_of_stacks (faults.NotTable stack) file = numbered_text (codes "stack NotTable stack=") stack file
text_of_stacks (faults.MissingKey stack key) file = end_text (codes "stack MissingKey") stack key file
text_of_stacks (faults.NotText stack key) file = end_text (codes "stack NotText") stack key file
text_of_stacks (faults.UnknownTile stack) file = numbered_text (codes "stack UnknownTile stack=") stack file
text_of_stacks (faults.BadTurn stack) file = numbered_text (codes "stack BadTurn stack=") stack file
text_of_stacks faults.NoMemory file = no_memory_text
