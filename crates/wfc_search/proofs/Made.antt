-- What a turn does, told from the domains, the last choice and the pick.
use Rattle.std.proofs.Common.{◌≡◌, ◌≢◌, ℕ, Bool, true, false, cond, ◌∙◌, ap, Some, None}
use Rattle.std.proofs.lemmas.Bool.{eq-eqb, ne_eqb}
use Rattle.rand_core.specs.Stream.{next_u64}
use Rattle.wfc_choose.specs.Pick.{Rule, picked_cell}
use Rattle.wfc_problem.specs.Domains.{Test}
use Rattle.wfc_problem.specs.Network.{Network}
use Rattle.wfc_problem.specs.Rounds.{greatest}
use Rattle.wfc_problem.specs.Sizes.{sizes_of, is_dead}
use Rattle.wfc_search.specs.Run.{State, Choice, last_choice, after_retraction, dead_turn, alive_turn, draw_at, turn_of}
use Rattle.wfc_search.specs.declared.Outcome.TheVariants.{Map, NoMap, Spent}
use Rattle.wfc_search.specs.declared.Turn.{Turn}
use Rattle.wfc_search.specs.declared.Turn.TheVariants.{Retracted, Ended}

-- where a cell is empty
from_dead : (P : Network) (rule : Rule) (budget : ℕ) (s : State) → is_dead P (greatest P s.standing) ≡ true → turn_of P rule budget s ≡ dead_turn budget s (last_choice s.standing)
unfolding turn_of
from_dead P rule budget s dead =
    let D : Test = greatest P s.standing in
    ap (λ (b : Bool). cond b (dead_turn budget s (last_choice s.standing)) (alive_turn P s D (picked_cell rule (sizes_of P D)))) dead

-- where none is
from_alive : (P : Network) (rule : Rule) (budget : ℕ) (s : State) → is_dead P (greatest P s.standing) ≡ false
    → turn_of P rule budget s ≡ alive_turn P s (greatest P s.standing) (picked_cell rule (sizes_of P (greatest P s.standing)))
unfolding turn_of
from_alive P rule budget s alive =
    let D : Test = greatest P s.standing in
    ap (λ (b : Bool). cond b (dead_turn budget s (last_choice s.standing)) (alive_turn P s D (picked_cell rule (sizes_of P D)))) alive

-- no choice stands
pub made_no_map : (P : Network) (rule : Rule) (budget : ℕ) (s : State) → is_dead P (greatest P s.standing) ≡ true → last_choice s.standing ≡ None → turn_of P rule budget s ≡ (Ended NoMap, s)
made_no_map P rule budget s dead none = from_dead P rule budget s dead ∙ ap (dead_turn budget s) none

-- a choice stands, and no retraction is left
pub made_spent : (P : Network) (rule : Rule) (budget : ℕ) (s : State) (last : Choice) → is_dead P (greatest P s.standing) ≡ true → last_choice s.standing ≡ Some last → s.retractions ≡ budget
    → turn_of P rule budget s ≡ (Ended Spent, s)
made_spent P rule budget s last dead found full =
    from_dead P rule budget s dead ∙ ap (dead_turn budget s) found
    ∙ ap (λ (b : Bool). cond {A = Turn × State} b (Ended Spent, s) (Retracted last.cell last.value, after_retraction s last)) (eq-eqb s.retractions budget full)

-- a choice stands, and a retraction is left
pub made_retraction : (P : Network) (rule : Rule) (budget : ℕ) (s : State) (last : Choice) → is_dead P (greatest P s.standing) ≡ true → last_choice s.standing ≡ Some last → s.retractions ≢ budget
    → turn_of P rule budget s ≡ (Retracted last.cell last.value, after_retraction s last)
made_retraction P rule budget s last dead found left =
    from_dead P rule budget s dead ∙ ap (dead_turn budget s) found
    ∙ ap (λ (b : Bool). cond {A = Turn × State} b (Ended Spent, s) (Retracted last.cell last.value, after_retraction s last)) (ne_eqb s.retractions budget left)

-- no cell is picked
pub made_map : (P : Network) (rule : Rule) (budget : ℕ) (s : State) → is_dead P (greatest P s.standing) ≡ false → picked_cell rule (sizes_of P (greatest P s.standing)) ≡ None
    → turn_of P rule budget s ≡ (Ended Map, s)
made_map P rule budget s alive none = from_alive P rule budget s alive ∙ ap (alive_turn P s (greatest P s.standing)) none

-- a cell is picked
pub made_choice : (P : Network) (rule : Rule) (budget : ℕ) (s : State) (cell : ℕ) → is_dead P (greatest P s.standing) ≡ false → picked_cell rule (sizes_of P (greatest P s.standing)) ≡ Some cell
    → turn_of P rule budget s ≡ draw_at P s (greatest P s.standing) cell (next_u64 s.words)
made_choice P rule budget s cell alive picks = from_alive P rule budget s alive ∙ ap (alive_turn P s (greatest P s.standing)) picks
