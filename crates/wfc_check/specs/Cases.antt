-- Texts on a small problem, for the laws: two cells of which neither value of the first has support.
use Rattle.std.specs.Prelude.{ℕ, true, false, List, codes, Result}
use Rattle.wfc_proof.specs.Small.{dead}
use Rattle.wfc_proof.specs.declared.heads.Shape.{Shape}
use Rattle.wfc_check.specs.Text.{at_start, answer_from}
use Rattle.wfc_check.specs.declared.fault.CheckFault.{CheckFault}

-- windows of side 2 of a wrapped sample, with all images, in a map of 3 by 4
abbrev pub small_shape : Shape
small_shape = record { n = 2; width = 3; height = 4; depth = 1; symmetry = 8; wrap_in = true; wrap_out = false }

-- the same in a map of 4 by 3
abbrev pub turned_shape : Shape
turned_shape = record { n = 2; width = 4; height = 3; depth = 1; symmetry = 8; wrap_in = true; wrap_out = false }

-- the answer to a text of which so many bytes may be read
abbrev pub answer_within : ℕ → List ℕ → Result (Unit {0}) CheckFault
answer_within most text = answer_from dead small_shape most 1 (at_start dead) text

-- the answer to a short text
abbrev pub short_answer : List ℕ → Result (Unit {0}) CheckFault
short_answer text = answer_within 200 text

-- the head of a text in format 1
abbrev pub head : List ℕ
head = codes "wfc-refutation 1\ncells 2 values 3\n"

-- the head of a text in format 2
abbrev pub head_2 : List ℕ
head_2 = codes "wfc-refutation 2\ncells 2 values 3\nfor 2 3 4 1 8 1 0\n"
