-- Two small problems, on which laws try the definitions, with a proof of the second, and small journals.
use Rattle.std.specs.Prelude.{ℕ, Bool, true, false, List, [], ◌∷◌, Option, None, Some, Result, codes}
use Rattle.wfc_problem.specs.Domains.{with_literal}
use Rattle.wfc_problem.specs.Network.{Network, in_base}
use Rattle.wfc_problem.specs.declared.Literal.{Literal}
use Rattle.wfc_problem.specs.declared.TheConstants.{NO_CELL}
use Rattle.wfc_proof.specs.Checker.{Point, line_steps, node_fault}
use Rattle.wfc_proof.specs.Checker.Point.{going}
use Rattle.wfc_proof.specs.Proof.{Node}
use Rattle.wfc_proof.specs.Journal.{JournalView, Target}
use Rattle.wfc_proof.specs.Telling.{Reading}
use Rattle.wfc_proof.specs.declared.Line.{Line}
use Rattle.wfc_proof.specs.declared.Line.TheVariants.{Try}
use Rattle.wfc_proof.specs.declared.Reject.{Reject}
use Rattle.wfc_proof.specs.declared.heads.Shape.{Shape}

-- cell 1 to the right of cell 0; to the right of 0 stands 1, of 1 nothing, of 2 stand 1 and 2
abbrev pub wide : Network
wide = record {
  cells = 2;
  dirs = 4;
  neighbours = NO_CELL ∷ NO_CELL ∷ 1 ∷ NO_CELL ∷ 0 ∷ NO_CELL ∷ NO_CELL ∷ NO_CELL ∷ [];
  weights = 1 ∷ 1 ∷ 1 ∷ [];
  supports = [] ∷ [] ∷ (1 ∷ []) ∷ [] ∷ (0 ∷ 2 ∷ []) ∷ [] ∷ [] ∷ [] ∷ (2 ∷ []) ∷ [] ∷ (1 ∷ 2 ∷ []) ∷ [] ∷ [];
  base = true ∷ true ∷ true ∷ true ∷ true ∷ true ∷ [];
}

-- the first problem with another base: cell 0 has the values 0 and 1, and cell 1 has 0
abbrev pub dead : Network
dead = record {
  cells = 2;
  dirs = 4;
  neighbours = NO_CELL ∷ NO_CELL ∷ 1 ∷ NO_CELL ∷ 0 ∷ NO_CELL ∷ NO_CELL ∷ NO_CELL ∷ [];
  weights = 1 ∷ 1 ∷ 1 ∷ [];
  supports = [] ∷ [] ∷ (1 ∷ []) ∷ [] ∷ (0 ∷ 2 ∷ []) ∷ [] ∷ [] ∷ [] ∷ (2 ∷ []) ∷ [] ∷ (1 ∷ 2 ∷ []) ∷ [] ∷ [];
  base = true ∷ true ∷ false ∷ true ∷ false ∷ false ∷ [];
}

-- why a node is refused at the base of the first problem, if it is
abbrev pub wide_fault : Node → Option Reject
wide_fault node = node_fault wide (in_base wide) node

-- the same, where a value was removed from the base of a cell, or all its other values were
abbrev pub wide_fault_after : Literal → Node → Option Reject
wide_fault_after literal node = node_fault wide (with_literal (in_base wide) literal) node

-- where these lines lead a checker that begins at the base of the second problem
abbrev pub from_base : List Line → Result Point Reject
from_base lines = line_steps dead (going (in_base dead) []) lines

-- windows of side 2 of a sample that wraps, with all images, in a map of 3 by 4 that doesn't wrap
abbrev pub wrapped_shape : Shape
wrapped_shape = record { n = 2; width = 3; height = 4; depth = 1; symmetry = 8; wrap_in = true; wrap_out = false }

-- a shape with the greatest numbers that a head may have, in a map that wraps
abbrev pub greatest_shape : Shape
greatest_shape = record {
  n = 6;
  width = 4294967295;
  height = 4294967295;
  depth = 4294967295;
  symmetry = 255;
  wrap_in = false;
  wrap_out = true;
}

-- a text in format 1 that proves that the second problem, `dead`, has no legal assignment
abbrev pub dead_text : List ℕ
dead_text = codes "wfc-refutation 1\ncells 2 values 3\nr 0 0 2\nr 0 1 2\nx 0\nq\n"

-- the same proof in format 2, where each removal is a span of its own
abbrev pub dead_text_apart : List ℕ
dead_text_apart = codes "wfc-refutation 2\ncells 2 values 3\nfor 2 3 4 1 8 1 0\nr 0 0 0 2\nr 0 1 1 2\nx 0\nq\n"

-- the same proof in format 2, where the two removals are one span
abbrev pub dead_text_joined : List ℕ
dead_text_joined = codes "wfc-refutation 2\ncells 2 values 3\nfor 2 3 4 1 8 1 0\nr 0 0 1 2\nx 0\nq\n"

-- what was read of a text: these bytes before the lines, the lines, and this part of a line
abbrev pub reading_with : List ℕ → List Line → List ℕ → Reading
reading_with before lines part = record { before = before; lines = lines; part = part }

-- a journal without a sink: its lines, where they are told, whether it refused one, and the count of its faults
abbrev pub journal_with : Option (List Line) → Bool → ℕ → JournalView
journal_with lines failed faults = record { lines = lines; failed = failed; faults = faults; target = None }

-- a journal over a sink that tells nothing: whether it refused a line, and the count of its faults
abbrev pub journal_over : Target → Bool → ℕ → JournalView
journal_over there failed faults = record { lines = None; failed = failed; faults = faults; target = Some there }

-- a journal that was told a trial, after three faults
abbrev pub after_a_trial : JournalView
after_a_trial = journal_with (Some (Try 1 2 ∷ [])) false 3

-- the same, once it was handed these lines too and refused the last, with a fourth fault
abbrev pub refused_after_a_trial : List Line → JournalView
refused_after_a_trial lines = journal_with (Some (Try 1 2 ∷ lines)) true 4
