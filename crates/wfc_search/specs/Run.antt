-- The run: what one turn does, and how a run ends.
use Rattle.std.specs.Prelude.{◌≡◌, ℕ, zero, suc, List, [], ◌∷◌, ◌++◌, ◌+◌, ◌*◌, ◌==◌, Option, Some, None, if◌then◌else◌}
use Rattle.rand_core.specs.Stream.{Stream, next_u64}
use Rattle.wfc_problem.specs.Domains.{Test}
use Rattle.wfc_problem.specs.Network.{Network}
use Rattle.wfc_problem.specs.Rounds.{greatest, depth_of}
use Rattle.wfc_problem.specs.declared.Literal.{Literal}
use Rattle.wfc_problem.specs.declared.Literal.TheVariants.{Is, Not}
use Rattle.wfc_problem.specs.Sizes.{values_at, sizes_of, is_dead}
use Rattle.wfc_choose.specs.Pick.{Rule, picked_cell}
use Rattle.wfc_choose.specs.Draw.{drawn_value}
use Rattle.wfc_search.specs.declared.Turn.{Turn}
use Rattle.wfc_search.specs.declared.Turn.TheVariants.{Chose, Retracted, Ended}
use Rattle.wfc_search.specs.declared.Outcome.{Outcome}
use Rattle.wfc_search.specs.declared.Outcome.TheVariants.{Map, NoMap, Spent}

-- the standing literals, how many retractions and draws there were, and the words to come
pub record State : Type 0 where
  pub standing : List Literal
  pub retractions : ℕ
  pub draws : ℕ
  pub words : Stream

-- no literal stands, and nothing was done
abbrev pub start : Stream → State
start words = record { standing = []; retractions = 0; draws = 0; words = words }

-- a cell that was given a value, and the literals before
pub record Choice : Type 0 where
  pub before : List Literal
  pub cell : ℕ
  pub value : ℕ

-- the literal as a choice, if it is an `Is`
abbrev pub choice_of : Literal → Option Choice
choice_of (Is value cell) = Some (record { before = []; cell = cell; value = value })
choice_of (Not value cell) = None

-- a choice found behind a literal, or else the literal itself
abbrev pub behind : Literal → Option Choice → Option Choice
behind l None = choice_of l
behind l (Some found) = Some (record { before = l ∷ found.before; cell = found.cell; value = found.value })

-- the last `Is` of a list, if there is one
abbrev pub last_choice : List Literal → Option Choice
last_choice [] = None
last_choice (l ∷ ls) = behind l (last_choice ls)

-- the state after a choice is taken back: what it chose is ruled out in its stead
abbrev pub after_retraction : State → Choice → State
after_retraction s last = record {
  standing = last.before ++ Not last.value last.cell ∷ [];
  retractions = s.retractions + 1;
  draws = s.draws;
  words = s.words;
}

-- the state after a cell is given a value, with these words left
abbrev pub after_choice : State → ℕ → ℕ → Stream → State
after_choice s cell value words = record {
  standing = s.standing ++ Is value cell ∷ [];
  retractions = s.retractions;
  draws = s.draws + 1;
  words = words;
}

-- a turn where a cell is empty: the end, or the last choice is taken back
abbrev pub dead_turn : ℕ → State → Option Choice → Turn × State
dead_turn budget s None = (Ended NoMap, s)
dead_turn budget s (Some last) =
    if s.retractions == budget then (Ended Spent, s) else (Retracted last.cell last.value, after_retraction s last)

-- a cell is given the value that the next word draws
abbrev pub draw_at : Network → State → Test → ℕ → ℕ × Stream → Turn × State
draw_at P s D cell next =
    (Chose cell (drawn_value P (values_at P D cell) next.0), after_choice s cell (drawn_value P (values_at P D cell) next.0) next.1)

-- a turn where no cell is empty: a map, or the picked cell draws one of its values
abbrev pub alive_turn : Network → State → Test → Option ℕ → Turn × State
alive_turn P s D None = (Ended Map, s)
alive_turn P s D (Some cell) = draw_at P s D cell (next_u64 s.words)

-- the turn from a state whose domains are these
abbrev pub turn_on : Network → Rule → ℕ → State → Test → Turn × State
turn_on P rule budget s D =
    if is_dead P D then dead_turn budget s (last_choice s.standing) else alive_turn P s D (picked_cell rule (sizes_of P D))

-- the turn from a state, and the state after it
unfoldable pub turn_of : Network → Rule → ℕ → State → Turn × State
turn_of P rule budget s = turn_on P rule budget s (greatest P s.standing)

-- a turn is no end, and leads to a state
abbrev pub LeadsTo : Turn × State → State → Type 0
LeadsTo (Chose cell value, next) t = next ≡ t
LeadsTo (Retracted cell value, next) t = next ≡ t
LeadsTo (Ended outcome, next) t = ⊥

-- from a state the run goes through these states, each made from the one before by a turn, and the
-- turn from the last is this end
abbrev pub IsRunFrom : Network → Rule → ℕ → State → List State → Outcome → Type 0
IsRunFrom P rule budget s [] outcome = turn_of P rule budget s ≡ (Ended outcome, s)
IsRunFrom P rule budget s (t ∷ later) outcome =
    LeadsTo (turn_of P rule budget s) t × IsRunFrom P rule budget t later outcome

-- the run of a problem with these words: the states after the first, and the end
abbrev pub IsRun : Network → Rule → ℕ → Stream → List State → Outcome → Type 0
IsRun P rule budget words later outcome = IsRunFrom P rule budget (start words) later outcome

-- the last state
abbrev pub last_of : State → List State → State
last_of s [] = s
last_of s (t ∷ later) = last_of t later

-- what a turn gives: its end, or how the run goes on
abbrev pub end_after : Turn × State → (State → Option (Outcome × State)) → Option (Outcome × State)
end_after (Chose cell value, next) go_on = go_on next
end_after (Retracted cell value, next) go_on = go_on next
end_after (Ended outcome, next) go_on = Some (outcome, next)

-- how the run from a state ends, and where, if it ends within so many turns
unfoldable pub end_within : ℕ → Network → Rule → ℕ → State → Option (Outcome × State)
end_within zero P rule budget s = None
end_within (suc turns) P rule budget s =
    end_after (turn_of P rule budget s) (λ next. end_within turns P rule budget next)

-- no run has more turns
abbrev pub most_turns : Network → ℕ → ℕ
most_turns P budget = (budget + 1) * (depth_of P + 1)

-- the end of the run from a state, with its last state
unfoldable pub end_from : Network → Rule → ℕ → State → Option (Outcome × State)
end_from P rule budget s = end_within (most_turns P budget) P rule budget s

-- the end of the run with these words, with its last state
abbrev pub outcome_of : Network → Rule → ℕ → Stream → Option (Outcome × State)
outcome_of P rule budget words = end_from P rule budget (start words)
