-- What a run tells, one turn after another.
use Rattle.std.proofs.Common.{◌≡◌, ℕ, ◌<◌, Bool, cond, List, [], ◌∷◌, ◌++◌, length, refl, sym, ◌∙◌, ap, subst, arith, inl, inr, append_assoc, append-nil, length-append}
use Rattle.std.proofs.lemmas.Bool.{ne_eqb}
use Rattle.rand_core.specs.Stream.{Stream}
use Rattle.wfc_choose.specs.Pick.{Rule}
use Rattle.wfc_choose.specs.Told.{Told}
use Rattle.wfc_domains.specs.Store.{StoreView}
use Rattle.wfc_problem.specs.Network.{Network}
use Rattle.wfc_problem.specs.declared.Literal.{Literal}
use Rattle.wfc_problem.specs.declared.Literal.TheVariants.{Is, Not}
use Rattle.wfc_proof.specs.Journal.{JournalView, after_lines, IsCutOff}
use Rattle.wfc_proof.specs.declared.Line.{Line}
use Rattle.wfc_proof.proofs.CallerLemmas.{after_no_lines, after_more_lines, cut_off_behind}
use Rattle.wfc_search.specs.Run.{State, turn_of, LeadsTo}
use Rattle.wfc_search.specs.Search.{state_at, draws_after, IsTurnFrom, HoldsBetween}
use Rattle.wfc_search.specs.Telling.{opening_lines, level_lines, end_line, turn_lines, IsStoreAt, TellsTo, TellsRun, IsTurnCutOff, IsCutOffFrom, IsRunCutOff}
use Rattle.wfc_search.specs.declared.course.Course.{Course}
use Rattle.wfc_search.specs.declared.Outcome.{Outcome}
use Rattle.wfc_search.specs.declared.Turn.{Turn}
use Rattle.wfc_search.specs.declared.Turn.TheVariants.{Ended}
use Rattle.wfc_search.proofs.Turns.{leads_cases, leads_on, ended_same}

-- one turn more
tells_more : (P : Network) (rule : Rule) (budget : ℕ) (s t u : State) (stores : List StoreView) (store : StoreView) (lines : List Line) → TellsTo P rule budget s stores t lines
    → LeadsTo (turn_of P rule budget t) u → IsStoreAt P u store → TellsTo P rule budget s (stores ++ store ∷ []) u (lines ++ turn_lines (turn_of P rule budget t).0 store)
tells_more P rule budget s t u [] store lines tells leads at =
    let same : turn_of P rule budget s ≡ turn_of P rule budget t = ap (turn_of P rule budget) tells.0 in (
      u,
      subst (λ (x : Turn × State). LeadsTo x u) (sym same) leads,
      at,
      [],
      (refl, refl),
      ap (λ (xs : List Line). xs ++ turn_lines (turn_of P rule budget t).0 store) tells.1
          ∙ ap (λ (x : Turn × State). turn_lines x.0 store) (sym same)
          ∙ sym (append-nil (turn_lines (turn_of P rule budget s).0 store)),
    )
tells_more P rule budget s t u (first ∷ stores) store lines tells leads at =
    let more : List Line = turn_lines (turn_of P rule budget t).0 store in
    let rest = tells_more P rule budget tells.0 t u stores store tells.3 tells.4 leads at in (
      tells.0,
      tells.1,
      tells.2,
      tells.3 ++ more,
      rest,
      ap (λ (xs : List Line). xs ++ more) tells.5 ∙ append_assoc (turn_lines (turn_of P rule budget s).0 first) tells.3 more,
    )

-- a list with one more at its end isn't empty
more_some : (ls : List Literal) (l : Literal) → 0 < length (ls ++ l ∷ [])
more_some ls l = omega (arith, length-append ls (l ∷ []))

-- after a turn that leads on some literal stands
leads_some : (P : Network) (rule : Rule) (budget : ℕ) (s t : State) → LeadsTo (turn_of P rule budget s) t → 0 < length t.standing
leads_some P rule budget s t leads = elim (leads_cases P rule budget s t leads) [
  | inl h ↦ subst (λ (u : State). 0 < length u.standing) h.next (more_some s.standing (Is h.value h.cell))
  | inr h ↦ subst (λ (u : State). 0 < length u.standing) h.next (more_some h.last.before (Not h.last.value h.last.cell))
]

-- where a literal stands, nothing of the opening is told
opened : (store : StoreView) → 0 < length store.standing → opening_lines store ≡ []
opened store some = ap (λ (b : Bool). cond b (level_lines store) []) (ne_eqb (length store.standing) 0 (λ e. omega arith))

-- how far a run has come, and what was told of it
pub record Came (P : Network) (rule : Rule) (budget : ℕ) (s : State) (first now : StoreView) (course : Course) (words : Stream) (old new : JournalView) : Type 0 where
  pub draws : ℕ
  pub stores : List StoreView
  pub before : List Line
  pub turns : TellsTo P rule budget s stores (state_at now course draws words) before
  pub so_far : List Line
  pub told : new ≡ after_lines old so_far
  pub lines_are : so_far ++ opening_lines now ≡ opening_lines first ++ before

-- at first nothing was
pub came_first : (P : Network) (rule : Rule) (budget : ℕ) (first : StoreView) (course : Course) (words : Stream) (old : JournalView)
    → Came P rule budget (state_at first course 0 words) first first course words old old
came_first P rule budget first course words old = record {
  draws = 0;
  stores = [];
  before = [];
  turns = (refl, refl);
  so_far = [];
  told = sym (after_no_lines old);
  lines_are = sym (append-nil (opening_lines first));
}

-- the lines of one turn more come behind
lines_behind : (so_far opening turn first before : List Line) → so_far ++ opening ≡ first ++ before → so_far ++ (opening ++ turn) ≡ first ++ (before ++ turn)
lines_behind so_far opening turn first before same =
    sym (append_assoc so_far opening turn) ∙ ap (λ (xs : List Line). xs ++ turn) same ∙ append_assoc first before turn

-- after one turn more
pub came_next : (P : Network) (rule : Rule) (budget : ℕ) (s : State) (first now next : StoreView) (chooser : Told) (course after : Course) (words left : Stream) (old mid new : JournalView) (turn : Turn)
    → Came P rule budget s first now course words old mid → course.budget ≡ budget → IsTurnFrom P rule now course words turn next after left → HoldsBetween P next chooser after → ((outcome : Outcome) → turn ≡ Ended outcome → ⊥)
    → new ≡ after_lines mid (opening_lines now ++ turn_lines turn next) → Came P rule budget s first next after left old new
came_next P rule budget s first now next chooser course after words left old mid new turn came same is ready goes told =
    let t : State = state_at now course came.draws words in
    let u : State = state_at next after (draws_after turn came.draws) left in
    let made : turn_of P rule budget t ≡ (turn, u) = subst (λ (b : ℕ). turn_of P rule b t ≡ (turn, u)) same (is came.draws) in
    let leads : LeadsTo (turn_of P rule budget t) u = leads_on (turn_of P rule budget t) turn u made goes in
    let which : (turn_of P rule budget t).0 ≡ turn = ap (λ (x : Turn × State). x.0) made in
    let at : IsStoreAt P u next = record { problem = ready.problem; standing = refl; sound = ready.keeps.sound } in
    record {
      draws = draws_after turn came.draws;
      stores = came.stores ++ next ∷ [];
      before = came.before ++ turn_lines turn next;
      turns = subst (λ (x : Turn). TellsTo P rule budget s (came.stores ++ next ∷ []) u (came.before ++ turn_lines x next)) which
          (tells_more P rule budget s t u came.stores next came.before came.turns leads at);
      so_far = came.so_far ++ (opening_lines now ++ turn_lines turn next);
      told = told ∙ ap (λ (j : JournalView). after_lines j (opening_lines now ++ turn_lines turn next)) came.told ∙ after_more_lines old came.so_far (opening_lines now ++ turn_lines turn next);
      lines_are = ap (λ (xs : List Line). (came.so_far ++ (opening_lines now ++ turn_lines turn next)) ++ xs) (opened next (leads_some P rule budget t u leads))
          ∙ append-nil (came.so_far ++ (opening_lines now ++ turn_lines turn next))
          ∙ lines_behind came.so_far (opening_lines now) (turn_lines turn next) (opening_lines first) came.before came.lines_are;
    }

-- at the end
pub came_end : (P : Network) (rule : Rule) (budget : ℕ) (s : State) (first now next : StoreView) (course after : Course) (words left : Stream) (old mid new : JournalView) (outcome : Outcome)
    → Came P rule budget s first now course words old mid → course.budget ≡ budget → IsTurnFrom P rule now course words (Ended outcome) next after left
    → new ≡ after_lines mid (opening_lines now ++ end_line outcome ∷ []) → (lines : List Line) × TellsRun P rule budget s first outcome lines × (new ≡ after_lines old lines)
came_end P rule budget s first now next course after words left old mid new outcome came same is told =
    let t : State = state_at now course came.draws words in
    let u : State = state_at next after came.draws left in
    let made : turn_of P rule budget t ≡ (Ended outcome, u) = subst (λ (b : ℕ). turn_of P rule b t ≡ (Ended outcome, u)) same (is came.draws) in (
      came.so_far ++ (opening_lines now ++ end_line outcome ∷ []),
      record {
        stores = came.stores;
        last = t;
        before = came.before;
        turns = came.turns;
        ended = ended_same P rule budget t u outcome made;
        lines_are = lines_behind came.so_far (opening_lines now) (end_line outcome ∷ []) (opening_lines first) came.before came.lines_are;
      },
      told ∙ ap (λ (j : JournalView). after_lines j (opening_lines now ++ end_line outcome ∷ [])) came.told ∙ after_more_lines old came.so_far (opening_lines now ++ end_line outcome ∷ []),
    )

-- the lines of a turn that were cut off
pub came_cut_off : (P : Network) (rule : Rule) (budget : ℕ) (s : State) (first now next : StoreView) (course : Course) (words : Stream) (old mid new : JournalView)
    → Came P rule budget s first now course words old mid → course.budget ≡ budget → IsCutOffFrom P rule now course words next mid new → IsRunCutOff P rule budget s first old new
came_cut_off P rule budget s first now next course words old mid new came same cut =
    let t : State = state_at now course came.draws words in
    let all : List Line = opening_lines first ++ came.before in
    let front : (turn : List Line) → IsCutOff mid new (opening_lines now ++ turn) → IsCutOff old new (opening_lines first ++ (came.before ++ turn)) =
    λ turn c. subst (λ (xs : List Line). IsCutOff old new xs) (lines_behind came.so_far (opening_lines now) turn (opening_lines first) came.before came.lines_are)
    (cut_off_behind old mid new came.so_far (opening_lines now ++ turn) came.told c) in
    record {
      stores = came.stores;
      last = t;
      before = came.before;
      turns = came.turns;
      store = next;
      cut_off = elim (subst (λ (b : ℕ). IsTurnCutOff P rule b t now next mid new) same (cut came.draws)) [
        | inl c ↦ inl (subst (λ (xs : List Line). IsCutOff old new xs) came.lines_are (cut_off_behind old mid new came.so_far (opening_lines now) came.told c))
        | inr c ↦ inr (c.0, front (turn_lines (turn_of P rule budget t).0 next) c.1)
      ];
    }
