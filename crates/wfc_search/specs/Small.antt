-- Two small problems, on which laws try the definitions.
use Rattle.std.specs.Prelude.{ℕ, true, List, [], ◌∷◌, Option, Some, None}
use Rattle.rand_core.specs.Stream.{Stream}
use Rattle.wfc_choose.specs.Pick.{Rule}
use Rattle.wfc_choose.specs.declared.RuleKind.TheVariants.{Scanline}
use Rattle.wfc_domains.specs.Store.{StoreView}
use Rattle.wfc_log.specs.declared.Cause.{Cause}
use Rattle.wfc_log.specs.declared.Cause.TheVariants.{Arc}
use Rattle.wfc_log.specs.declared.Removal.{Removal}
use Rattle.wfc_log.specs.declared.Verdict.{Verdict}
use Rattle.wfc_problem.specs.declared.TheConstants.{NO_CELL}
use Rattle.wfc_problem.specs.declared.Literal.{Literal}
use Rattle.wfc_problem.specs.Network.{Network}
use Rattle.wfc_search.specs.Run.{Choice, State}
use Rattle.wfc_search.specs.declared.Outcome.{Outcome}
use Rattle.wfc_search.specs.declared.last.LastChoice.{LastChoice}

-- two cells side by side, whose values 0 and 1 of weights 1 and 3 must differ
unfoldable pub pair : Network
pair = record {
  cells = 2;
  dirs = 4;
  neighbours = NO_CELL ∷ NO_CELL ∷ 1 ∷ NO_CELL ∷ 0 ∷ NO_CELL ∷ NO_CELL ∷ NO_CELL ∷ [];
  weights = 1 ∷ 3 ∷ [];
  supports = (1 ∷ []) ∷ [] ∷ (1 ∷ []) ∷ [] ∷ (0 ∷ []) ∷ [] ∷ (0 ∷ []) ∷ [] ∷ [];
  base = true ∷ true ∷ true ∷ true ∷ [];
}

-- three cells in a ring, of which neighbours must differ
unfoldable pub ring : Network
ring = record {
  cells = 3;
  dirs = 4;
  neighbours = 2 ∷ NO_CELL ∷ 1 ∷ NO_CELL ∷ 0 ∷ NO_CELL ∷ 2 ∷ NO_CELL ∷ 1 ∷ NO_CELL ∷ 0 ∷ NO_CELL ∷ [];
  weights = 1 ∷ 3 ∷ [];
  supports = (1 ∷ []) ∷ [] ∷ (1 ∷ []) ∷ [] ∷ (0 ∷ []) ∷ [] ∷ (0 ∷ []) ∷ [] ∷ [];
  base = true ∷ true ∷ true ∷ true ∷ true ∷ true ∷ [];
}

-- the value 1 was removed at cell 5 for want of support in direction 3
abbrev pub one_removal : Removal
one_removal = record { cell = 5; value = 1; before = 2; cause = Arc 3 }

-- the value was removed at the cell, where so many values stood before, for this cause
abbrev pub removal_by : Cause → ℕ → ℕ → ℕ → Removal
removal_by cause cell value before = record { cell = cell; value = value; before = before; cause = cause }

-- at this place of a list the value was chosen at the cell
abbrev pub choice_at : ℕ → ℕ → ℕ → LastChoice
choice_at place cell value = record { at = place; cell = cell; value = value }

-- behind these literals the value was chosen at the cell
abbrev pub choice_behind : List Literal → ℕ → ℕ → Choice
choice_behind before cell value = record { before = before; cell = cell; value = value }

-- a store of the ring with these literals, room, marks, verdict and removals
abbrev pub ring_store : List Literal → ℕ → List ℕ → Verdict → List Removal → StoreView
ring_store standing spare marks verdict removals = record {
  problem = ring;
  standing = standing;
  spare = spare;
  removals = removals;
  marks = marks;
  verdict = verdict;
}

-- each word is 2
unfoldable pub twos : Stream
twos = record { u32_after = λ cs. 2; u64_after = λ cs. 2; bytes_after = λ cs n. [] }

-- the rule that takes the least cell
abbrev pub scanline : Rule
scanline = record { kind = Scanline; ranks = [] }

-- an outcome with the literals, retractions and draws of its state
abbrev pub summary : Option (Outcome × State) → Option (Outcome × List Literal × ℕ × ℕ)
summary None = None
summary (Some (outcome, s)) = Some (outcome, s.standing, s.retractions, s.draws)
