-- What holds of each run, state, end or telling, as laws say it.
use Rattle.std.specs.Prelude.{◌≡◌, ℕ, List, [], Some}
use Rattle.rand_core.specs.Stream.{Stream}
use Rattle.wfc_choose.specs.Pick.{Rule}
use Rattle.wfc_domains.specs.Store.{StoreView}
use Rattle.wfc_problem.specs.Network.{Network, IsProblem}
use Rattle.wfc_proof.specs.declared.Line.{Line}
use Rattle.wfc_search.specs.Between.{IsRunState}
use Rattle.wfc_search.specs.Run.{State, turn_of, IsRun, outcome_of}
use Rattle.wfc_search.specs.Telling.{IsStoreAt, TellsRun}
use Rattle.wfc_search.specs.declared.Outcome.{Outcome}
use Rattle.wfc_search.specs.declared.Turn.TheVariants.{Ended}

-- it holds at each state of a run over each problem
abbrev pub HoldsAtStates : (Network → Rule → ℕ → State → Type 0) → Type 0
HoldsAtStates what =
    (P : Network) → IsProblem P → (rule : Rule) (budget : ℕ) (s : State) → IsRunState P budget s → what P rule budget s

-- it holds at each state of a run whose turn ends with this outcome
abbrev pub HoldsAtLastTurns : Outcome → (Network → ℕ → State → Type 0) → Type 0
HoldsAtLastTurns outcome what =
    (P : Network) → IsProblem P → (rule : Rule) (budget : ℕ) (s u : State) → IsRunState P budget s
    → turn_of P rule budget s ≡ (Ended outcome, u) → what P budget s

-- it holds of each run over each problem, with its later states and its outcome
abbrev pub HoldsOfRuns : (Network → Rule → ℕ → Stream → List State → Outcome → Type 0) → Type 0
HoldsOfRuns what =
    (P : Network) → IsProblem P → (rule : Rule) (budget : ℕ) (words : Stream) (later : List State) (outcome : Outcome)
    → IsRun P rule budget words later outcome → what P rule budget words later outcome

-- all runs with these words are one
abbrev pub HasOneRunAtMost : Network → Rule → ℕ → Stream → Type 0
HasOneRunAtMost P rule budget words =
    (later other : List State) (x y : Outcome) → IsRun P rule budget words later x → IsRun P rule budget words other y
    → (later ≡ other) × (x ≡ y)

-- it holds at the last state of each run that ends with this outcome
abbrev pub HoldsAtEnds : Outcome → (Network → ℕ → State → Type 0) → Type 0
HoldsAtEnds outcome what =
    (P : Network) → IsProblem P → (rule : Rule) (budget : ℕ) (words : Stream) (s : State)
    → outcome_of P rule budget words ≡ Some (outcome, s) → what P budget s

-- at this state of a run its turn ends with this outcome
abbrev pub IsLastOfRun : Network → Rule → ℕ → Outcome → State → Type 0
IsLastOfRun P rule budget outcome s = IsRunState P budget s × (turn_of P rule budget s ≡ (Ended outcome, s))

-- it holds of the lines that each run tells from its first store on, with its outcome
abbrev pub HoldsOfTellings : (Network → Rule → ℕ → State → Outcome → List Line → Type 0) → Type 0
HoldsOfTellings what =
    (P : Network) (rule : Rule) (budget : ℕ) (s : State) (first : StoreView) (outcome : Outcome) (lines : List Line)
    → s.standing ≡ [] → IsStoreAt P s first → TellsRun P rule budget s first outcome lines
    → what P rule budget s outcome lines
