-- Runs: what holds between turns, that they end, and what their ends mean.
use Rattle.std.proofs.Common.{◌≡◌, ℕ, zero, suc, ◌+◌, ◌-◌, ◌*◌, ◌<◌, ◌≤◌, List, [], ◌∷◌, ◌++◌, length, refl, sym, ◌∙◌, ap, subst, arith, inl, inr, Option, Some, length-append}
use Rattle.std.proofs.Math.Nat.{mul-le-mul_left}
use Rattle.rand_core.specs.Stream.{Stream}
use Rattle.wfc_problem.specs.Assignment.{IsLegalAssignment}
use Rattle.wfc_problem.specs.Domains.{Test, HasOnly}
use Rattle.wfc_problem.specs.Network.{Network, IsProblem}
use Rattle.wfc_problem.specs.Rounds.{greatest, depth_of}
use Rattle.wfc_problem.specs.declared.Literal.{Literal}
use Rattle.wfc_problem.specs.declared.Literal.TheVariants.{Is, Not}
use Rattle.wfc_problem.proofs.CallerLemmas.{only_legal, greatest_is, length-sizes_of, sizes_of_at, only_first}
use Rattle.wfc_search.specs.Between.{IsBetween, IsGrown, work_left}
use Rattle.wfc_choose.specs.Pick.{Rule}
use Rattle.wfc_search.specs.Run.{State, start, turn_of, LeadsTo, IsRunFrom, IsRun, last_of, end_after, end_within, end_from, most_turns, outcome_of}
use Rattle.wfc_problem.specs.Sizes.{sizes_of, first_values}
use Rattle.wfc_search.specs.Volume.{volume_of}
use Rattle.wfc_search.specs.declared.Outcome.{Outcome}
use Rattle.wfc_search.specs.declared.Outcome.TheVariants.{Map, NoMap, Spent}
use Rattle.wfc_search.specs.declared.Turn.{Turn}
use Rattle.wfc_search.specs.declared.Turn.TheVariants.{Chose, Retracted, Ended}
use Rattle.wfc_problem.proofs.CallerLemmas.{greatest_base}
use Rattle.wfc_search.proofs.Cuts.{grown_few, grown_none, grown_push, grown_retract}
use Rattle.wfc_search.proofs.Literals.{last_is}
use Rattle.wfc_choose.proofs.CallerLemmas.{picked_none}
use Rattle.wfc_search.proofs.Reasons.{reasoned_none, reasoned_choice, reasoned_retract, reasoned_end}
use Rattle.wfc_search.proofs.Turns.{IsChoice, IsRetraction, leads_cases, ends_cases, either_turn, choice_cuts, ended_leads, ended_same}
use Rattle.wfc_search.proofs.Ways.{left_choice, left_retract, left_two}

-- ---- between turns

abbrev pub Between : Network → ℕ → State → Type 0
Between P budget s = IsBetween P budget s.standing s.retractions

abbrev pub work : Network → ℕ → State → ℕ
work P budget s = work_left P budget s.standing s.retractions

-- it holds at the start
pub between_none : (P : Network) (budget : ℕ) → IsBetween P budget [] 0
between_none P budget = record { grown = grown_none P; reasoned = reasoned_none P; within = omega arith; counted = omega arith }

-- of the state at the start
pub between_start : (P : Network) (budget : ℕ) (words : Stream) → Between P budget (start words)
between_start P budget words = between_none P budget

-- a literal more leaves less work
fall_choice : (deep x stand : ℕ) → stand + 1 ≤ deep → x + (deep - (stand + 1)) < x + (deep - stand)
fall_choice deep x stand h = omega arith

-- and so does a retraction more
fall_retract : (deep k x y : ℕ) → y ≤ deep → k * (deep + 1) + y < (k + 1) * (deep + 1) + x
fall_retract deep k x y h = omega arith

-- after a choice
next_choice : (P : Network) → IsProblem P → (rule : Rule) (budget : ℕ) (s t : State) → Between P budget s → IsChoice P rule s t (greatest P s.standing)
    → Between P budget t × (work P budget t < work P budget s)
next_choice P p rule budget s t b h =
    let cuts = choice_cuts P p rule s t s.standing h in
    let grown : IsGrown P (s.standing ++ Is h.value h.cell ∷ []) = grown_push P s.standing (Is h.value h.cell) b.grown cuts in
    let longer = length-append s.standing (Is h.value h.cell ∷ []) in
    let few = grown_few P p (s.standing ++ Is h.value h.cell ∷ []) grown in
    let less = left_choice P p s.standing h.cell h.value h.alive cuts in
    let one : length (s.standing ++ Is h.value h.cell ∷ []) ≡ length s.standing + 1 = omega (arith, longer) in
    subst (λ (u : State). Between P budget u × (work P budget u < work P budget s)) h.next (
      record {
        grown = grown;
        reasoned = reasoned_choice P s.standing h.cell h.value b.reasoned;
        within = b.within;
        counted = omega (arith, b.counted, less);
      },
      rw one (fall_choice (depth_of P) ((budget - s.retractions) * (depth_of P + 1)) (length s.standing) (omega arith)),
    )

-- after a retraction
next_retract : (P : Network) → IsProblem P → (budget : ℕ) (s t : State) → Between P budget s → IsRetraction P budget s t (greatest P s.standing)
    → Between P budget t × (work P budget t < work P budget s)
next_retract P p budget s t b h =
    let l = last_is s.standing h.last h.found in
    let less = left_retract P s.standing h.last.before l.after h.last.cell h.last.value l.whole in
    let within : s.retractions + 1 ≤ budget = omega (arith, b.within, h.left) in
    let k : ℕ = budget - (s.retractions + 1) in
    let one : budget - s.retractions ≡ k + 1 = omega arith in
    subst (λ (u : State). Between P budget u × (work P budget u < work P budget s)) h.next (
      record {
        grown = grown_retract P s.standing h.last.before l.after h.last.cell h.last.value b.grown l.whole;
        reasoned = reasoned_retract P p s.standing h.last.before l.after h.last.cell h.last.value b.reasoned h.dead l.whole l.none;
        within = within;
        counted = omega (arith, b.counted, less);
      },
      rw one (fall_retract (depth_of P) k (depth_of P - length s.standing) (depth_of P - length (h.last.before ++ Not h.last.value h.last.cell ∷ [])) (omega arith)),
    )

-- after either
next_both : (P : Network) → IsProblem P → (rule : Rule) (budget : ℕ) (s t : State) → Between P budget s → LeadsTo (turn_of P rule budget s) t
    → Between P budget t × (work P budget t < work P budget s)
next_both P p rule budget s t b leads = elim (leads_cases P rule budget s t leads) [
  | inl h ↦ next_choice P p rule budget s t b h
  | inr h ↦ next_retract P p budget s t b h
]

-- a turn keeps what holds between turns
pub between_next : (P : Network) → IsProblem P → (rule : Rule) (budget : ℕ) (s t : State) → Between P budget s → LeadsTo (turn_of P rule budget s) t → Between P budget t
between_next P p rule budget s t b leads = (next_both P p rule budget s t b leads).0

-- and leaves less work
pub work_falls : (P : Network) → IsProblem P → (rule : Rule) (budget : ℕ) (s t : State) → Between P budget s → LeadsTo (turn_of P rule budget s) t → work P budget t < work P budget s
work_falls P p rule budget s t b leads = (next_both P p rule budget s t b leads).1

-- ---- what ends mean

-- a map is a legal assignment
pub map_legal : (P : Network) → IsProblem P → (rule : Rule) (budget : ℕ) (s u : State) → turn_of P rule budget s ≡ (Ended Map, u)
    → HasOnly P (greatest P s.standing) (first_values P (greatest P s.standing)) × IsLegalAssignment P (first_values P (greatest P s.standing))
map_legal P p rule budget s u is =
    let D : Test = greatest P s.standing in
    let legal : HasOnly P D (first_values P D) → HasOnly P D (first_values P D) × IsLegalAssignment P (first_values P D) =
    λ only. (only, only_legal P p s.standing D (greatest_is P p s.standing) (first_values P D) only) in
    elim (ends_cases P rule budget s u Map is) [
      | inl m ↦ legal (only_first P p D (greatest_base P p s.standing) m.alive
          (λ c l. omega (arith, sizes_of_at P D c 0 l, picked_none rule (sizes_of P D) c m.none (omega (arith, length-sizes_of P D)))))
      | inr r ↦ elim r [ inl n ↦ (let e = n.is in cc) | inr n ↦ (let e = n.is in cc) ]
    ]

-- at no map there is no legal assignment
pub no_map_none : (P : Network) → IsProblem P → (rule : Rule) (budget : ℕ) (s u : State) → Between P budget s → turn_of P rule budget s ≡ (Ended NoMap, u)
    → (a : List ℕ) → IsLegalAssignment P a → ⊥
no_map_none P p rule budget s u b is = elim (ends_cases P rule budget s u NoMap is) [
  | inl m ↦ (let e = m.is in cc)
  | inr r ↦ elim r [ inl n ↦ reasoned_end P p s.standing b.reasoned n.dead n.none | inr n ↦ (let e = n.is in cc) ]
]

-- where the budget is spent the volume is greater, and as many retractions were made
pub spent_volume : (P : Network) → IsProblem P → (rule : Rule) (budget : ℕ) (s u : State) → Between P budget s → turn_of P rule budget s ≡ (Ended Spent, u)
    → (s.retractions ≡ budget) × (budget < volume_of P)
spent_volume P p rule budget s u b is = elim (ends_cases P rule budget s u Spent is) [
  | inl m ↦ (let e = m.is in cc)
  | inr r ↦ elim r [
    | inl n ↦ (let e = n.is in cc)
    | inr n ↦
        let l = last_is s.standing n.last n.found in
        let two = left_two P s.standing n.last.before l.after n.last.cell n.last.value l.whole in
        (n.full, omega (arith, b.counted, two, n.full))
  ]
]

-- ---- the run

-- it holds at the last state of a run
pub run_between : (P : Network) → IsProblem P → (rule : Rule) (budget : ℕ) (s : State) (later : List State) (outcome : Outcome) → Between P budget s → IsRunFrom P rule budget s later outcome
    → Between P budget (last_of s later) × (turn_of P rule budget (last_of s later) ≡ (Ended outcome, last_of s later))
run_between P p rule budget s [] outcome b run = (b, run)
run_between P p rule budget s (t ∷ later) outcome b run = run_between P p rule budget t later outcome (between_next P p rule budget s t b run.0) run.1

pub record Runs (P : Network) (rule : Rule) (budget : ℕ) (s : State) (n : ℕ) : Type 0 where
  pub later : List State
  pub outcome : Outcome
  pub run : IsRunFrom P rule budget s later outcome
  pub few : length later ≤ n

-- a run with one turn more in front
run_more : (P : Network) (rule : Rule) (budget : ℕ) (s t : State) (n : ℕ) → LeadsTo (turn_of P rule budget s) t → Runs P rule budget t n → Runs P rule budget s (suc n)
run_more P rule budget s t n leads r =
    record { later = t ∷ r.later; outcome = r.outcome; run = (leads, r.run); few = omega (arith, r.few) }

-- where so much work is left a run exists
pub run_exists : (P : Network) → IsProblem P → (rule : Rule) (budget n : ℕ) (s : State) → Between P budget s → work P budget s ≤ n → Runs P rule budget s n
run_exists P p rule budget zero s b few = elim (either_turn P rule budget s) [
  | inl e ↦ record { later = []; outcome = e.0; run = e.1; few = omega arith }
  | inr h ↦ absurd (omega (arith, work_falls P p rule budget s h.0 b h.1))
]
run_exists P p rule budget (suc n) s b few = elim (either_turn P rule budget s) [
  | inl e ↦ record { later = []; outcome = e.0; run = e.1; few = omega arith }
  | inr h ↦
      run_more P rule budget s h.0 n h.1
      (run_exists P p rule budget n h.0 (between_next P p rule budget s h.0 b h.1) (omega (arith, work_falls P p rule budget s h.0 b h.1)))
]

-- a turn leads to one state
leads_same : (x : Turn × State) (t u : State) → LeadsTo x t → LeadsTo x u → t ≡ u
leads_same (Chose c v, next) t u a b = sym a ∙ b
leads_same (Retracted c v, next) t u a b = sym a ∙ b
leads_same (Ended outcome, next) t u a b = absurd a

-- there is one run
pub run_same : (P : Network) (rule : Rule) (budget : ℕ) (s : State) (later other : List State) (x y : Outcome) → IsRunFrom P rule budget s later x → IsRunFrom P rule budget s other y
    → (later ≡ other) × (x ≡ y)
run_same P rule budget s [] [] x y a b = (refl, (let e = ap (λ (z : Turn × State). z.0) (sym a ∙ b) in cc))
run_same P rule budget s [] (u ∷ other) x y a b = absurd (ended_leads (turn_of P rule budget s) x s u a b.0)
run_same P rule budget s (t ∷ later) [] x y a b = absurd (ended_leads (turn_of P rule budget s) y s t b a.0)
run_same P rule budget s (t ∷ later) (u ∷ other) x y a b =
    let e : t ≡ u = leads_same (turn_of P rule budget s) t u a.0 b.0 in
    let rest = run_same P rule budget t later other x y a.1 (subst (λ (v : State). IsRunFrom P rule budget v other y) (sym e) b.1) in
    ((let f = rest.0 in cc), rest.1)

-- the end behind a turn that leads on
end_lead : (x : Turn × State) (t : State) (go_on : State → Option (Outcome × State)) → LeadsTo x t → end_after x go_on ≡ go_on t
end_lead (Chose c v, next) t go_on leads = ap go_on leads
end_lead (Retracted c v, next) t go_on leads = ap go_on leads
end_lead (Ended outcome, next) t go_on leads = absurd leads

-- enough turns compute the end of a run
pub run_computed : (P : Network) (rule : Rule) (budget : ℕ) (s : State) (later : List State) (outcome : Outcome) (n : ℕ) → IsRunFrom P rule budget s later outcome → length later < n
    → end_within n P rule budget s ≡ Some (outcome, last_of s later)
unfolding end_within
run_computed P rule budget s later outcome zero run few = absurd (omega arith)
run_computed P rule budget s [] outcome (suc n) run few =
    ap (λ (x : Turn × State). end_after x (λ next. end_within n P rule budget next)) run
run_computed P rule budget s (t ∷ later) outcome (suc n) run few =
    end_lead (turn_of P rule budget s) t (λ next. end_within n P rule budget next) run.0
    ∙ run_computed P rule budget t later outcome n run.1 (omega arith)

-- ---- from a state between turns

-- the work at any state is less than the most turns
most : (deep budget retractions stand : ℕ) → (budget - retractions) * (deep + 1) + (deep - stand) + 1 ≤ (budget + 1) * (deep + 1)
most deep budget retractions stand =
    let less : budget - retractions ≤ budget = omega arith in
    omega (arith, mul-le-mul_left (deep + 1) less)

-- so of the work left
pub work_most : (P : Network) (budget retractions : ℕ) (standing : List Literal) → work_left P budget standing retractions < most_turns P budget
work_most P budget retractions standing = omega (arith, most (depth_of P) budget retractions (length standing))

-- a run exists
pub from_exists : (P : Network) → IsProblem P → (rule : Rule) (budget : ℕ) (s : State) → Between P budget s → Runs P rule budget s (work P budget s)
from_exists P p rule budget s b = run_exists P p rule budget (work P budget s) s b (omega arith)

-- a run has as few turns as the one that exists
few_turns : (P : Network) (rule : Rule) (budget n m : ℕ) (s : State) (later : List State) (outcome : Outcome) → Runs P rule budget s n → IsRunFrom P rule budget s later outcome → n < m → length later + 1 ≤ m
few_turns P rule budget n m s later outcome r run less =
    let same = run_same P rule budget s later r.later outcome r.outcome run r.run in
    omega (arith, ap (λ (ls : List State). length ls) same.0, r.few)

-- the run has no more turns
pub from_few : (P : Network) → IsProblem P → (rule : Rule) (budget : ℕ) (s : State) (later : List State) (outcome : Outcome) → Between P budget s → IsRunFrom P rule budget s later outcome
    → length later + 1 ≤ most_turns P budget
from_few P p rule budget s later outcome b run =
    few_turns P rule budget (work P budget s) (most_turns P budget) s later outcome (from_exists P p rule budget s b) run (work_most P budget s.retractions s.standing)

-- and its end is computed
pub from_computed : (P : Network) → IsProblem P → (rule : Rule) (budget : ℕ) (s : State) (later : List State) (outcome : Outcome) → Between P budget s → IsRunFrom P rule budget s later outcome
    → end_from P rule budget s ≡ Some (outcome, last_of s later)
unfolding end_from
from_computed P p rule budget s later outcome b run =
    run_computed P rule budget s later outcome (most_turns P budget) run (omega (arith, from_few P p rule budget s later outcome b run))

-- a turn that ends is the end
pub from_ended : (P : Network) → IsProblem P → (rule : Rule) (budget : ℕ) (s u : State) (outcome : Outcome) → Between P budget s → turn_of P rule budget s ≡ (Ended outcome, u)
    → end_from P rule budget s ≡ Some (outcome, u)
from_ended P p rule budget s u outcome b is =
    let ended = ended_same P rule budget s u outcome is in
    let same : s ≡ u = (let f = ap (λ (x : Turn × State). x.1) (sym ended ∙ is) in f) in
    subst (λ (v : State). end_from P rule budget s ≡ Some (outcome, v)) same (from_computed P p rule budget s [] outcome b ended)

-- the end from a state is that from the next
pub from_next : (P : Network) → IsProblem P → (rule : Rule) (budget : ℕ) (s t : State) → Between P budget s → LeadsTo (turn_of P rule budget s) t
    → end_from P rule budget s ≡ end_from P rule budget t
from_next P p rule budget s t b leads =
    let next = between_next P p rule budget s t b leads in
    let r = from_exists P p rule budget t next in
    from_computed P p rule budget s (t ∷ r.later) r.outcome b (leads, r.run) ∙ sym (from_computed P p rule budget t r.later r.outcome next r.run)

-- no more literals stand than there are pairs
pub between_few : (P : Network) → IsProblem P → (budget retractions : ℕ) (standing : List Literal) → IsBetween P budget standing retractions → length standing ≤ depth_of P
between_few P p budget retractions standing b = grown_few P p standing b.grown

pub record Ends (P : Network) (rule : Rule) (budget : ℕ) (outcome : Outcome) (s : State) : Type 0 where
  pub between : Between P budget s
  pub turn : turn_of P rule budget s ≡ (Ended outcome, s)

-- the end of a run is that of its last state
pub from_ends : (P : Network) → IsProblem P → (rule : Rule) (budget : ℕ) (s t : State) (outcome : Outcome) → Between P budget s → end_from P rule budget s ≡ Some (outcome, t)
    → Ends P rule budget outcome t
from_ends P p rule budget s t outcome b is =
    let r = from_exists P p rule budget s b in
    let c = from_computed P p rule budget s r.later r.outcome b r.run in
    let e : ◌≡◌ {A = Outcome × State} (r.outcome, last_of s r.later) (outcome, t) = (let f = sym c ∙ is in cc) in
    let ends = run_between P p rule budget s r.later r.outcome b r.run in
    subst (λ (x : Outcome × State). Ends P rule budget x.0 x.1) e (record { between = ends.0; turn = ends.1 })

-- so as a pair
pub from_reached : (P : Network) → IsProblem P → (rule : Rule) (budget : ℕ) (s t : State) (outcome : Outcome) → Between P budget s → end_from P rule budget s ≡ Some (outcome, t)
    → Between P budget t × (turn_of P rule budget t ≡ (Ended outcome, t))
from_reached P p rule budget s t outcome b is = let e = from_ends P p rule budget s t outcome b is in (e.between, e.turn)

-- ---- from the start

-- a run from the start exists
pub start_run : (P : Network) → IsProblem P → (rule : Rule) (budget : ℕ) (words : Stream) → (later : List State) × (outcome : Outcome) × IsRun P rule budget words later outcome
start_run P p rule budget words = let r = from_exists P p rule budget (start words) (between_start P budget words) in (r.later, r.outcome, r.run)

-- the outcome is the end of its state
outcome_ends : (P : Network) → IsProblem P → (rule : Rule) (budget : ℕ) (words : Stream) (outcome : Outcome) (s : State) → outcome_of P rule budget words ≡ Some (outcome, s)
    → Ends P rule budget outcome s
outcome_ends P p rule budget words outcome s is = from_ends P p rule budget (start words) s outcome (between_start P budget words) is

-- a map gives a legal assignment
pub outcome_map : (P : Network) → IsProblem P → (rule : Rule) (budget : ℕ) (words : Stream) (s : State) → outcome_of P rule budget words ≡ Some (Map, s)
    → HasOnly P (greatest P s.standing) (first_values P (greatest P s.standing)) × IsLegalAssignment P (first_values P (greatest P s.standing))
outcome_map P p rule budget words s is = map_legal P p rule budget s s (outcome_ends P p rule budget words Map s is).turn

-- at no map there is none
pub outcome_none : (P : Network) → IsProblem P → (rule : Rule) (budget : ℕ) (words : Stream) (s : State) → outcome_of P rule budget words ≡ Some (NoMap, s)
    → (a : List ℕ) → IsLegalAssignment P a → ⊥
outcome_none P p rule budget words s is =
    let e = outcome_ends P p rule budget words NoMap s is in
    no_map_none P p rule budget s s e.between e.turn

-- a spent run has made all retractions, fewer than the volume
pub outcome_spent : (P : Network) → IsProblem P → (rule : Rule) (budget : ℕ) (words : Stream) (s : State) → outcome_of P rule budget words ≡ Some (Spent, s)
    → (s.retractions ≡ budget) × (budget < volume_of P)
outcome_spent P p rule budget words s is =
    let e = outcome_ends P p rule budget words Spent s is in
    spent_volume P p rule budget s s e.between e.turn

-- a budget of the volume is enough
pub volume_enough : (P : Network) → IsProblem P → (rule : Rule) (budget : ℕ) (words : Stream) (s : State) → volume_of P ≤ budget → outcome_of P rule budget words ≡ Some (Spent, s) → ⊥
volume_enough P p rule budget words s enough is = let h = (outcome_spent P p rule budget words s is).1 in omega arith

-- two outcomes don't contradict each other
pub outcomes_agree : (P : Network) → IsProblem P → (rule other : Rule) (budget most : ℕ) (words more : Stream) (s t : State)
    → outcome_of P rule budget words ≡ Some (Map, s) → outcome_of P other most more ≡ Some (NoMap, t) → ⊥
outcomes_agree P p rule other budget most words more s t map none =
    outcome_none P p other most more t none _ (outcome_map P p rule budget words s map).1
