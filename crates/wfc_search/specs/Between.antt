-- What holds between the turns of a run.
use Rattle.std.specs.Prelude.{◌≡◌, ℕ, ◌+◌, ◌-◌, ◌*◌, ◌<◌, ◌≤◌, List, [], ◌∷◌, ◌++◌, IsTrue, length}
use Rattle.wfc_problem.specs.Assignment.{IsLegalAssignment, LiesIn}
use Rattle.wfc_problem.specs.Domains.{Test, base_with}
use Rattle.wfc_problem.specs.Network.{Network}
use Rattle.wfc_problem.specs.Rounds.{greatest, depth_of}
use Rattle.wfc_problem.specs.declared.Literal.{Literal}
use Rattle.wfc_problem.specs.declared.Literal.TheVariants.{Is, Not}
use Rattle.wfc_problem.specs.Sizes.{size_at}
use Rattle.wfc_search.specs.Run.{State}
use Rattle.wfc_search.specs.Volume.{ways, volume_of, at_least_one}

-- a literal takes something away: what is ruled out stands, and so does what is chosen, beside another value
abbrev pub Cuts : Network → Test → Literal → Type 0
Cuts P D (Is value cell) = (cell < P.cells) × IsTrue (D cell value) × (2 ≤ size_at P D cell)
Cuts P D (Not value cell) = (cell < P.cells) × IsTrue (D cell value)

-- each literal cuts the greatest domains of those before it
abbrev pub IsGrown : Network → List Literal → Type 0
IsGrown P literals =
    (before after : List Literal) (l : Literal) → literals ≡ before ++ l ∷ after
    → Cuts P (greatest P before) l

-- no legal assignment lies within the base cut by these literals
abbrev pub HasNoneWithin : Network → List Literal → Type 0
HasNoneWithin P literals = (a : List ℕ) → IsLegalAssignment P a → LiesIn a (base_with P literals) → ⊥

-- each value that is ruled out has no legal assignment with the literals before it
abbrev pub IsReasoned : Network → List Literal → Type 0
IsReasoned P literals = (before after : List Literal) (cell value : ℕ) → literals ≡ before ++ Not value cell ∷ after
    → HasNoneWithin P (before ++ Is value cell ∷ [])

-- how many ways these literals leave, and 1 for none
abbrev pub ways_with : Network → List Literal → ℕ
ways_with P literals = at_least_one (ways P (greatest P literals))

-- of a choice, what is counted where its value is ruled out instead
abbrev pub other_side : (List Literal → ℕ) → Literal → ℕ
other_side count (Is value cell) = count (Not value cell ∷ [])
other_side count (Not value cell) = 0

-- the sum of this over all choices, each counted with the literals before it
abbrev pub other_sides : (List Literal → ℕ) → List Literal → ℕ
other_sides count [] = 0
other_sides count (l ∷ ls) = other_side count l + other_sides (λ later. count (l ∷ later)) ls

-- the ways that are left to try: those of the literals, and those of the other side of each choice
abbrev pub ways_left : Network → List Literal → ℕ
ways_left P literals = ways_with P literals + other_sides (ways_with P) literals

-- what holds of the standing literals and the retractions at each state of a run with this budget
pub record IsBetween (P : Network) (budget : ℕ) (standing : List Literal) (retractions : ℕ) : Type 0 where
  pub grown : IsGrown P standing
  pub reasoned : IsReasoned P standing
  pub within : retractions ≤ budget
  pub counted : retractions + ways_left P standing ≤ at_least_one (volume_of P)

-- what holds between the turns of a run with this budget holds of this state
abbrev pub IsRunState : Network → ℕ → State → Type 0
IsRunState P budget s = IsBetween P budget s.standing s.retractions

-- at most so many turns come after the next one
abbrev pub work_left : Network → ℕ → List Literal → ℕ → ℕ
work_left P budget standing retractions = (budget - retractions) * (depth_of P + 1) + (depth_of P - length standing)

-- at most so many turns come after the next one from a state
abbrev pub turns_to_come : Network → ℕ → State → ℕ
turns_to_come P budget s = work_left P budget s.standing s.retractions
