-- What a turn does, case by case.
use Rattle.std.proofs.Common.{◌∙◌, ◌≡◌, ℕ, ◌<◌, ◌≤◌, Bool, true, false, cond, List, length, refl, sym, ap, subst, arith, inl, inr, ◌⊎◌, Option, Some, None}
use Rattle.std.specs.Prelude.{Contains, ◌==◌}
use Rattle.std.proofs.lemmas.Bool.{eqb-true, eqb-false}
use Rattle.rand_core.specs.Stream.{Stream, next_u64}
use Rattle.wfc_problem.specs.Domains.{Test}
use Rattle.wfc_problem.specs.Network.{Network, IsProblem}
use Rattle.wfc_problem.specs.Rounds.{greatest}
use Rattle.wfc_problem.specs.declared.Literal.{Literal}
use Rattle.wfc_problem.specs.declared.Literal.TheVariants.{Is}
use Rattle.wfc_search.specs.Between.{Cuts}
use Rattle.wfc_choose.specs.Draw.{drawn_value}
use Rattle.wfc_choose.specs.Pick.{Rule, picked_cell}
use Rattle.wfc_search.specs.Run.{State, Choice, last_choice, after_choice, after_retraction, dead_turn, alive_turn, turn_of, LeadsTo}
use Rattle.wfc_problem.specs.Sizes.{values_at, sizes_of, is_dead}
use Rattle.wfc_search.specs.declared.Outcome.{Outcome}
use Rattle.wfc_search.specs.declared.Outcome.TheVariants.{Map, NoMap, Spent}
use Rattle.wfc_search.specs.declared.Turn.{Turn}
use Rattle.wfc_search.specs.declared.Turn.TheVariants.{Chose, Retracted, Ended}
use Rattle.wfc_choose.proofs.CallerLemmas.{picked_open, drawn_one}
use Rattle.wfc_problem.proofs.CallerLemmas.{length-sizes_of, sizes_of_at, values_at_stand}

-- ---- turns that lead on

pub record IsChoice (P : Network) (rule : Rule) (s t : State) (D : Test) : Type 0 where
  pub alive : is_dead P D ≡ false
  pub cell : ℕ
  pub value : ℕ
  pub words : Stream
  pub picks : picked_cell rule (sizes_of P D) ≡ Some cell
  pub draws : value ≡ drawn_value P (values_at P D cell) (next_u64 s.words).0
  pub next : after_choice s cell value words ≡ t

pub record IsRetraction (P : Network) (budget : ℕ) (s t : State) (D : Test) : Type 0 where
  pub dead : is_dead P D ≡ true
  pub last : Choice
  pub found : last_choice s.standing ≡ Some last
  pub left : s.retractions ≡ budget → ⊥
  pub next : after_retraction s last ≡ t

-- a retraction, where the budget isn't spent
back_cases : (P : Network) (budget : ℕ) (s t : State) (D : Test) (last : Choice) (b : Bool) → is_dead P D ≡ true → last_choice s.standing ≡ Some last → (s.retractions == budget) ≡ b
    → LeadsTo (cond b (Ended Spent, s) (Retracted last.cell last.value, after_retraction s last)) t → IsRetraction P budget s t D
back_cases P budget s t D last true dead found full leads = absurd leads
back_cases P budget s t D last false dead found full leads =
    record { dead = dead; last = last; found = found; left = eqb-false s.retractions budget full; next = leads }

-- what a turn does that leads on
lead_cases : (P : Network) (rule : Rule) (budget : ℕ) (s t : State) (D : Test) (b : Bool) (m : Option Choice) (o : Option ℕ)
    → is_dead P D ≡ b → last_choice s.standing ≡ m → picked_cell rule (sizes_of P D) ≡ o
    → LeadsTo (cond b (dead_turn budget s m) (alive_turn P s D o)) t → IsChoice P rule s t D ⊎ IsRetraction P budget s t D
lead_cases P rule budget s t D true None o dead found picks leads = absurd leads
lead_cases P rule budget s t D true (Some last) o dead found picks leads =
    inr (back_cases P budget s t D last (s.retractions == budget) dead found refl leads)
lead_cases P rule budget s t D false m None dead found picks leads = absurd leads
lead_cases P rule budget s t D false m (Some cell) dead found picks leads =
    inl (record {
      alive = dead;
      cell = cell;
      value = drawn_value P (values_at P D cell) (next_u64 s.words).0;
      words = (next_u64 s.words).1;
      picks = picks;
      draws = refl;
      next = leads;
    })

-- a turn that leads on chooses or retracts
pub leads_cases : (P : Network) (rule : Rule) (budget : ℕ) (s t : State) → LeadsTo (turn_of P rule budget s) t
    → IsChoice P rule s t (greatest P s.standing) ⊎ IsRetraction P budget s t (greatest P s.standing)
unfolding turn_of
leads_cases P rule budget s t leads =
    let D : Test = greatest P s.standing in
    lead_cases P rule budget s t D (is_dead P D) (last_choice s.standing) (picked_cell rule (sizes_of P D)) refl refl refl leads

-- ---- turns that end

pub record IsMapEnd (P : Network) (rule : Rule) (outcome : Outcome) (D : Test) : Type 0 where
  pub is : outcome ≡ Map
  pub alive : is_dead P D ≡ false
  pub none : picked_cell rule (sizes_of P D) ≡ None

pub record IsNoMapEnd (P : Network) (s : State) (outcome : Outcome) (D : Test) : Type 0 where
  pub is : outcome ≡ NoMap
  pub dead : is_dead P D ≡ true
  pub none : last_choice s.standing ≡ None

pub record IsSpentEnd (P : Network) (budget : ℕ) (s : State) (outcome : Outcome) (D : Test) : Type 0 where
  pub is : outcome ≡ Spent
  pub last : Choice
  pub found : last_choice s.standing ≡ Some last
  pub full : s.retractions ≡ budget

abbrev pub EndCases : Network → Rule → ℕ → State → Outcome → Test → Type 0
EndCases P rule budget s outcome D = IsMapEnd P rule outcome D ⊎ (IsNoMapEnd P s outcome D ⊎ IsSpentEnd P budget s outcome D)

-- an end, where the budget is spent
back_ends : (P : Network) (rule : Rule) (budget : ℕ) (s u : State) (D : Test) (outcome : Outcome) (last : Choice) (b : Bool) → last_choice s.standing ≡ Some last → (s.retractions == budget) ≡ b
    → ◌≡◌ {A = Turn × State} (cond b (Ended Spent, s) (Retracted last.cell last.value, after_retraction s last)) (Ended outcome, u) → EndCases P rule budget s outcome D
back_ends P rule budget s u D outcome last true found full is =
    inr (inr (record { is = (let e = ap (λ (x : Turn × State). x.0) is in cc); last = last; found = found; full = eqb-true s.retractions budget full }))
back_ends P rule budget s u D outcome last false found full is = let e = ap (λ (x : Turn × State). x.0) is in cc

-- what a turn says that ends
end_cases : (P : Network) (rule : Rule) (budget : ℕ) (s u : State) (D : Test) (outcome : Outcome) (b : Bool) (m : Option Choice) (o : Option ℕ)
    → is_dead P D ≡ b → last_choice s.standing ≡ m → picked_cell rule (sizes_of P D) ≡ o
    → cond b (dead_turn budget s m) (alive_turn P s D o) ≡ (Ended outcome, u) → EndCases P rule budget s outcome D
end_cases P rule budget s u D outcome true None o dead found picks is =
    inr (inl (record { is = (let e = ap (λ (x : Turn × State). x.0) is in cc); dead = dead; none = found }))
end_cases P rule budget s u D outcome true (Some last) o dead found picks is =
    back_ends P rule budget s u D outcome last (s.retractions == budget) found refl is
end_cases P rule budget s u D outcome false m None dead found picks is =
    inl (record { is = (let e = ap (λ (x : Turn × State). x.0) is in cc); alive = dead; none = picks })
end_cases P rule budget s u D outcome false m (Some cell) dead found picks is = let e = ap (λ (x : Turn × State). x.0) is in cc

-- a turn that ends has one of three causes
pub ends_cases : (P : Network) (rule : Rule) (budget : ℕ) (s u : State) (outcome : Outcome) → turn_of P rule budget s ≡ (Ended outcome, u)
    → EndCases P rule budget s outcome (greatest P s.standing)
unfolding turn_of
ends_cases P rule budget s u outcome is =
    let D : Test = greatest P s.standing in
    end_cases P rule budget s u D outcome (is_dead P D) (last_choice s.standing) (picked_cell rule (sizes_of P D)) refl refl refl is

-- ---- each turn ends or leads on

abbrev EndsOrLeads : State → Turn × State → Type 0
EndsOrLeads s x = ((outcome : Outcome) × (x ≡ (Ended outcome, s))) ⊎ ((t : State) × LeadsTo x t)

-- of a test
either_if : (s : State) (b : Bool) (x y : Turn × State) → EndsOrLeads s x → EndsOrLeads s y → EndsOrLeads s (cond b x y)
either_if s true x y p q = p
either_if s false x y p q = q

-- where the domains are dead
either_dead : (budget : ℕ) (s : State) (m : Option Choice) → EndsOrLeads s (dead_turn budget s m)
either_dead budget s None = inl (NoMap, refl)
either_dead budget s (Some last) =
    either_if s (s.retractions == budget) (Ended Spent, s) (Retracted last.cell last.value, after_retraction s last) (inl (Spent, refl)) (inr (after_retraction s last, refl))

-- where they aren't
either_alive : (P : Network) (s : State) (D : Test) (o : Option ℕ) → EndsOrLeads s (alive_turn P s D o)
either_alive P s D None = inl (Map, refl)
either_alive P s D (Some cell) = inr (_, refl)

-- and so each turn
pub either_turn : (P : Network) (rule : Rule) (budget : ℕ) (s : State) → EndsOrLeads s (turn_of P rule budget s)
unfolding turn_of
either_turn P rule budget s =
    let D : Test = greatest P s.standing in
    either_if s (is_dead P D) (dead_turn budget s (last_choice s.standing)) (alive_turn P s D (picked_cell rule (sizes_of P D)))
    (either_dead budget s (last_choice s.standing)) (either_alive P s D (picked_cell rule (sizes_of P D)))

-- a turn that is no end leads on
pub leads_on : (x : Turn × State) (turn : Turn) (t : State) → x ≡ (turn, t) → ((outcome : Outcome) → turn ≡ Ended outcome → ⊥) → LeadsTo x t
leads_on x (Chose cell value) t e goes = subst (λ (y : Turn × State). LeadsTo y t) (sym e) refl
leads_on x (Retracted cell value) t e goes = subst (λ (y : Turn × State). LeadsTo y t) (sym e) refl
leads_on x (Ended outcome) t e goes = absurd (goes outcome refl)

-- and one that is an end leads nowhere
pub ended_leads : (x : Turn × State) (outcome : Outcome) (s t : State) → x ≡ (Ended outcome, s) → LeadsTo x t → ⊥
ended_leads x outcome s t e leads = subst (λ (y : Turn × State). LeadsTo y t) e leads

-- an end changes nothing
pub ended_same : (P : Network) (rule : Rule) (budget : ℕ) (s u : State) (outcome : Outcome) → turn_of P rule budget s ≡ (Ended outcome, u) → turn_of P rule budget s ≡ (Ended outcome, s)
ended_same P rule budget s u outcome is = elim (either_turn P rule budget s) [
  | inl e ↦
      (let same : e.0 ≡ outcome = (let f = ap (λ (x : Turn × State). x.0) (sym e.1 ∙ is) in cc) in
      subst (λ (o : Outcome). turn_of P rule budget s ≡ (Ended o, s)) same e.1)
  | inr h ↦ absurd (ended_leads (turn_of P rule budget s) outcome u h.0 is h.1)
]

-- ---- a choice

-- the picked cell is one with two values or more, of which one is drawn
pub choice_cuts : (P : Network) → IsProblem P → (rule : Rule) (s t : State) (ls : List Literal) → (h : IsChoice P rule s t (greatest P ls)) → Cuts P (greatest P ls) (Is h.value h.cell)
choice_cuts P p rule s t ls h =
    let D : Test = greatest P ls in
    let vs : List ℕ = values_at P D h.cell in
    let open_cell = picked_open rule (sizes_of P D) h.cell h.picks in
    let inside : h.cell < P.cells = omega (arith, open_cell.0, length-sizes_of P D) in
    let two : 2 ≤ length vs = omega (arith, open_cell.1, sizes_of_at P D h.cell 0 inside) in
    let has : Contains vs h.value = subst (λ (v : ℕ). Contains vs v) (sym h.draws) (drawn_one P p D h.cell (next_u64 s.words).0 (omega arith)) in
    (inside, (values_at_stand P D h.cell h.value has).0, two)
