-- The lines of a run have its choices and its dead states.
use Rattle.std.proofs.Common.{◌≡◌, ℕ, ◌+◌, cond, List, [], ◌∷◌, ◌++◌, length, refl, sym, ◌∙◌, ap, subst, arith, append-nil}
use Rattle.std.specs.Prelude.{◌==◌}
use Rattle.wfc_choose.specs.Pick.{Rule}
use Rattle.wfc_domains.specs.Store.{StoreView, IsVerdict, left_of, added_of}
use Rattle.wfc_log.specs.declared.Cause.{Cause}
use Rattle.wfc_log.specs.declared.Cause.TheVariants.{Assumed, Arc}
use Rattle.wfc_log.specs.declared.Removal.{Removal}
use Rattle.wfc_log.specs.declared.Verdict.{Verdict}
use Rattle.wfc_log.specs.declared.Verdict.TheVariants.{Alive, Dead}
use Rattle.wfc_problem.proofs.CallerLemmas.{greatest_is, greatest_same}
use Rattle.wfc_problem.specs.Network.{Network, IsProblem}
use Rattle.wfc_problem.specs.Rounds.{greatest}
use Rattle.wfc_problem.specs.Sizes.{is_dead}
use Rattle.wfc_proof.specs.declared.Line.{Line}
use Rattle.wfc_proof.specs.declared.Line.TheVariants.{Remove, Span, Try, Empty, End, Found, Out}
use Rattle.wfc_search.specs.Proved.{tries_in, empties_in, choice_by, choices_of, one_if, deaths_of, CountsChoices}
use Rattle.wfc_search.specs.Run.{State, LeadsTo, IsRunFrom, turn_of}
use Rattle.wfc_search.specs.Telling.{lines_by, removal_lines, empty_lines, level_lines, opening_lines, end_line, turn_lines, IsStoreAt, TellsTo, TellsRun}
use Rattle.wfc_search.specs.declared.Outcome.{Outcome}
use Rattle.wfc_search.specs.declared.Outcome.TheVariants.{Map, NoMap, Spent}
use Rattle.wfc_search.specs.declared.Turn.{Turn}
use Rattle.wfc_search.specs.declared.Turn.TheVariants.{Chose, Retracted, Ended}

tries_append : (xs ys : List Line) → tries_in (xs ++ ys) ≡ tries_in xs ++ tries_in ys
tries_append [] ys = refl
tries_append (Remove c v d ∷ xs) ys = tries_append xs ys
tries_append (Span c first last d ∷ xs) ys = tries_append xs ys
tries_append (Try c v ∷ xs) ys = ap (λ ts. (c, v) ∷ ts) (tries_append xs ys)
tries_append (Empty c ∷ xs) ys = tries_append xs ys
tries_append (End ∷ xs) ys = tries_append xs ys
tries_append (Found ∷ xs) ys = tries_append xs ys
tries_append (Out ∷ xs) ys = tries_append xs ys

empties_append : (xs ys : List Line) → empties_in (xs ++ ys) ≡ empties_in xs + empties_in ys
empties_append [] ys = omega arith
empties_append (Remove c v d ∷ xs) ys = empties_append xs ys
empties_append (Span c first last d ∷ xs) ys = empties_append xs ys
empties_append (Try c v ∷ xs) ys = empties_append xs ys
empties_append (Empty c ∷ xs) ys = let rest = empties_append xs ys in omega (arith, rest)
empties_append (End ∷ xs) ys = empties_append xs ys
empties_append (Found ∷ xs) ys = empties_append xs ys
empties_append (Out ∷ xs) ys = empties_append xs ys

-- removals try nothing and empty nothing
removals_count : (rs : List Removal) → (tries_in (removal_lines rs) ≡ []) × (empties_in (removal_lines rs) ≡ 0)
removals_count [] = (refl, refl)
removals_count (r ∷ rs) = by r.cause (removals_count rs)
  where
    by : (cause : Cause) → (tries_in (removal_lines rs) ≡ []) × (empties_in (removal_lines rs) ≡ 0)
        → (tries_in (lines_by r.cell r.value cause ++ removal_lines rs) ≡ []) × (empties_in (lines_by r.cell r.value cause ++ removal_lines rs) ≡ 0)
    by Assumed rest = rest
    by (Arc d) rest = rest

-- a level tries nothing, and names an empty cell where there is one
level_counts : (P : Network) (s : State) (store : StoreView) → IsStoreAt P s store
    → (tries_in (level_lines store) ≡ []) × (empties_in (level_lines store) ≡ one_if (is_dead P (greatest P s.standing)))
level_counts P s store at =
    let counts = removals_count (added_of store) in
    let ends = by store.verdict (subst (λ X. IsVerdict X store.standing (left_of store) store.verdict) at.problem at.sound.verdict) in
    let none : empties_in (level_lines store) ≡ one_if (is_dead P (greatest P store.standing)) =
    empties_append (removal_lines (added_of store)) (empty_lines store.verdict) ∙ (λ i. counts.1 i + ends.1 i) ∙ (let e : 0 + one_if (is_dead P (greatest P store.standing)) ≡ one_if (is_dead P (greatest P store.standing)) = omega arith in e) in (
      tries_append (removal_lines (added_of store)) (empty_lines store.verdict) ∙ (λ i. counts.0 i ++ ends.0 i),
      none ∙ ap (λ ls. one_if (is_dead P (greatest P ls))) at.standing,
    )
  where
    by : (verdict : Verdict) → IsVerdict P store.standing (left_of store) verdict
        → (tries_in (empty_lines verdict) ≡ []) × (empties_in (empty_lines verdict) ≡ one_if (is_dead P (greatest P store.standing)))
    by Alive is =
        let p : IsProblem P = subst IsProblem at.problem at.sound.problem in
        let same : left_of store ≡ greatest P store.standing = greatest_same P store.standing (left_of store) (greatest P store.standing) is.0 (greatest_is P p store.standing) in
        (refl, ap one_if (sym is.1 ∙ ap (is_dead P) same))
    by (Dead cell) is = (refl, ap one_if (sym is.0))

-- a turn tries what it chose
turn_counts : (P : Network) (turn : Turn × State) (t : State) (store : StoreView) → LeadsTo turn t → IsStoreAt P t store
    → (tries_in (turn_lines turn.0 store) ≡ choice_by turn.0) × (empties_in (turn_lines turn.0 store) ≡ one_if (is_dead P (greatest P t.standing)))
turn_counts P (Chose cell value, next) t store leads at = let counts = level_counts P t store at in (ap (λ ts. (cell, value) ∷ ts) counts.0, counts.1)
turn_counts P (Retracted cell value, next) t store leads at = level_counts P t store at
turn_counts P (Ended outcome, next) t store leads at = absurd leads

-- the turns of a run
turns_count : (P : Network) (rule : Rule) (budget : ℕ) (s t : State) (stores : List StoreView) (lines : List Line) (outcome : Outcome) → TellsTo P rule budget s stores t lines
    → turn_of P rule budget t ≡ (Ended outcome, t)
    → (later : List State) × IsRunFrom P rule budget s later outcome × (tries_in lines ≡ choices_of P rule budget s later) × (empties_in lines ≡ deaths_of P later)
turns_count P rule budget s t [] lines outcome tells ends =
    ([], subst (λ (u : State). turn_of P rule budget u ≡ (Ended outcome, u)) (sym tells.0) ends, ap tries_in tells.1, ap empties_in tells.1)
turns_count P rule budget s t (store ∷ stores) lines outcome tells ends =
    let first = turn_counts P (turn_of P rule budget s) tells.0 store tells.1 tells.2 in
    let rest = turns_count P rule budget tells.0 t stores tells.3 outcome tells.4 ends in
    let told = turn_lines (turn_of P rule budget s).0 store in (
      tells.0 ∷ rest.0,
      (tells.1, rest.1),
      ap tries_in tells.5 ∙ tries_append told tells.3 ∙ (λ i. first.0 i ++ rest.2 i),
      ap empties_in tells.5 ∙ empties_append told tells.3 ∙ (λ i. first.1 i + rest.3 i),
    )

-- an end tries nothing and empties nothing
end_counts : (outcome : Outcome) → (tries_in (end_line outcome ∷ []) ≡ []) × (empties_in (end_line outcome ∷ []) ≡ 0)
end_counts Map = (refl, refl)
end_counts NoMap = (refl, refl)
end_counts Spent = (refl, refl)

-- the whole run
pub run_counts : (P : Network) (rule : Rule) (budget : ℕ) (s : State) (first : StoreView) (outcome : Outcome) (lines : List Line) → s.standing ≡ [] → IsStoreAt P s first
    → TellsRun P rule budget s first outcome lines → CountsChoices P rule budget s outcome lines
run_counts P rule budget s first outcome lines none at tells =
    let opening : opening_lines first ≡ level_lines first = ap (λ ls. cond (length ls == 0) (level_lines first) []) (at.standing ∙ none) in
    let level = level_counts P s first at in
    let turns = turns_count P rule budget s tells.last tells.stores tells.before outcome tells.turns tells.ended in
    let last = end_counts outcome in
    let are : lines ≡ level_lines first ++ (tells.before ++ end_line outcome ∷ []) = tells.lines_are ∙ ap (λ ls. ls ++ (tells.before ++ end_line outcome ∷ [])) opening in
    let rest : empties_in (tells.before ++ end_line outcome ∷ []) ≡ deaths_of P turns.0 =
    empties_append tells.before (end_line outcome ∷ []) ∙ (λ i. turns.3 i + last.1 i) ∙ (let e : deaths_of P turns.0 + 0 ≡ deaths_of P turns.0 = omega arith in e) in
    record {
      later = turns.0;
      run = turns.1;
      tries = ap tries_in are ∙ tries_append (level_lines first) (tells.before ++ end_line outcome ∷ []) ∙ ap (λ ts. ts ++ tries_in (tells.before ++ end_line outcome ∷ [])) level.0
          ∙ tries_append tells.before (end_line outcome ∷ []) ∙ (λ i. turns.2 i ++ last.0 i) ∙ append-nil (choices_of P rule budget s turns.0);
      empties = ap empties_in are ∙ empties_append (level_lines first) (tells.before ++ end_line outcome ∷ []) ∙ (λ i. level.1 i + rest i);
    }
