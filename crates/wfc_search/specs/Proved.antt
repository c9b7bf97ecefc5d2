-- What the lines of a whole run are: a proof that closes the base domains, or one of which a branch is left open.
use Rattle.std.specs.Prelude.{◌≡◌, ℕ, ◌+◌, true, List, [], ◌∷◌, ◌++◌}
pub use Rattle.wfc_lists.specs.Counts.{one_if}
use Rattle.wfc_choose.specs.Pick.{Rule}
use Rattle.wfc_problem.specs.Network.{Network, in_base}
use Rattle.wfc_problem.specs.Rounds.{greatest}
use Rattle.wfc_problem.specs.Sizes.{is_dead}
use Rattle.wfc_proof.specs.Lines.{SpellsNodes}
use Rattle.wfc_proof.specs.Proof.{Proof, Closes, FollowsFrom, StopsThere, is_left_off, nodes}
use Rattle.wfc_proof.specs.declared.Line.{Line}
use Rattle.wfc_proof.specs.declared.Line.TheVariants.{Remove, Span, Try, Empty, End, Found, Out}
use Rattle.wfc_search.specs.Run.{State, IsRunFrom, turn_of}
use Rattle.wfc_search.specs.declared.Outcome.{Outcome}
use Rattle.wfc_search.specs.declared.Outcome.TheVariants.{Map, NoMap, Spent}
use Rattle.wfc_search.specs.declared.Turn.{Turn}
use Rattle.wfc_search.specs.declared.Turn.TheVariants.{Chose, Retracted, Ended}

-- the lines spell a proof that closes the base domains, and then its end
pub record IsClosedBy (P : Network) (lines : List Line) : Type 0 where
  pub told : List Line
  pub proof : Proof
  pub closes : Closes P (in_base P) proof
  pub spells : SpellsNodes told (nodes proof)
  pub whole : lines ≡ told ++ End ∷ []

-- the lines spell a proof that follows from the base domains, of which a branch is left open, and then this line
pub record IsLeftOpen (P : Network) (lines : List Line) (last : Line) : Type 0 where
  pub told : List Line
  pub proof : Proof
  pub follows : FollowsFrom P (in_base P) proof
  pub stops : StopsThere proof
  pub left_off : is_left_off proof ≡ true
  pub spells : SpellsNodes told (nodes proof)
  pub whole : lines ≡ told ++ last ∷ []

-- what the lines of a run with this outcome are
abbrev pub AreProof : Network → Outcome → List Line → Type 0
AreProof P Map lines = IsLeftOpen P lines Found
AreProof P NoMap lines = IsClosedBy P lines
AreProof P Spent lines = IsLeftOpen P lines Out

-- the cells and values that lines try, in order
abbrev pub tries_in : List Line → List (ℕ × ℕ)
tries_in [] = []
tries_in (Remove c v d ∷ lines) = tries_in lines
tries_in (Span c first last d ∷ lines) = tries_in lines
tries_in (Try c v ∷ lines) = (c, v) ∷ tries_in lines
tries_in (Empty c ∷ lines) = tries_in lines
tries_in (End ∷ lines) = tries_in lines
tries_in (Found ∷ lines) = tries_in lines
tries_in (Out ∷ lines) = tries_in lines

-- how many lines say that a cell is empty
abbrev pub empties_in : List Line → ℕ
empties_in [] = 0
empties_in (Remove c v d ∷ lines) = empties_in lines
empties_in (Span c first last d ∷ lines) = empties_in lines
empties_in (Try c v ∷ lines) = empties_in lines
empties_in (Empty c ∷ lines) = 1 + empties_in lines
empties_in (End ∷ lines) = empties_in lines
empties_in (Found ∷ lines) = empties_in lines
empties_in (Out ∷ lines) = empties_in lines

-- what a turn chose, if it did
abbrev pub choice_by : Turn → List (ℕ × ℕ)
choice_by (Chose cell value) = (cell, value) ∷ []
choice_by (Retracted cell value) = []
choice_by (Ended outcome) = []

-- the choices of a run from a state on, in order
abbrev pub choices_of : Network → Rule → ℕ → State → List State → List (ℕ × ℕ)
choices_of P rule budget s [] = []
choices_of P rule budget s (t ∷ later) = choice_by (turn_of P rule budget s).0 ++ choices_of P rule budget t later

-- at how many of these states some cell is empty
abbrev pub deaths_of : Network → List State → ℕ
deaths_of P [] = 0
deaths_of P (s ∷ later) = one_if (is_dead P (greatest P s.standing)) + deaths_of P later

-- the run from this state has these lines' choices, and as many dead states as they have empty cells
pub record CountsChoices (P : Network) (rule : Rule) (budget : ℕ) (s : State) (outcome : Outcome)
    (lines : List Line) : Type 0 where
  pub later : List State
  pub run : IsRunFrom P rule budget s later outcome
  pub tries : tries_in lines ≡ choices_of P rule budget s later
  pub empties : empties_in lines ≡ deaths_of P (s ∷ later)
