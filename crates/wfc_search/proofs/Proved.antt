-- What a run tells leads a checker to where the run is.
use Rattle.std.proofs.Common.{◌≡◌, ◌≢◌, ℕ, ◌<◌, ◌≤◌, Bool, true, false, cond, List, [], ◌∷◌, ◌++◌, length, take, refl, sym, ◌∙◌, ap, subst, arith, inl, inr, ◌⊎◌, Option, Some, None, append_assoc, append-nil, length-append}
use Rattle.std.specs.Prelude.{Result, Ok, Err, ◌==◌, ◌||◌, ◌&&◌, not, count_by}
use Rattle.std.specs.List.{list_all, range_with_len}
use Rattle.std.proofs.lemmas.Bool.{cases_Bool, eqb-true, eqb-false, false≢true, and_parts, and_from}
use Rattle.rand_core.specs.Stream.{next_u64}
use Rattle.wfc_choose.specs.Draw.{drawn_value}
use Rattle.wfc_choose.specs.Pick.{Rule, picked_cell}
use Rattle.wfc_log.specs.Domains.{less}
use Rattle.wfc_domains.specs.Removals.{without, IsUnsupported, IsCause, AreRemoved}
use Rattle.wfc_domains.specs.Store.{StoreView, IsSound, IsVerdict, left_of, before_of, added_of, level_mark, all_but_last}
use Rattle.wfc_log.specs.declared.Cause.{Cause}
use Rattle.wfc_log.specs.declared.Cause.TheVariants.{Assumed, Arc}
use Rattle.wfc_log.specs.declared.Removal.{Removal}
use Rattle.wfc_log.specs.declared.Verdict.{Verdict}
use Rattle.wfc_log.specs.declared.Verdict.TheVariants.{Alive, Dead}
use Rattle.wfc_lists.proofs.Counts.{count_by_pos}
use Rattle.wfc_lists.proofs.Lists.{all_pass, one_fails, has_Contains}
use Rattle.wfc_lists.proofs.Ranges.{range_Contains}
use Rattle.wfc_problem.proofs.CallerLemmas.{base_inside, cut_within, greatest_base, greatest_is, greatest_same, greatest_within, size_at_one}
use Rattle.wfc_problem.specs.Domains.{Test, Within, with_literal, leaves, leaves_all, base_with, count_at, IsGreatest}
use Rattle.wfc_problem.specs.Network.{Network, IsProblem, values, in_base, supports_of, ok}
use Rattle.wfc_problem.specs.Rounds.{greatest}
use Rattle.wfc_problem.specs.Sizes.{values_at, sizes_of, size_at, is_dead}
use Rattle.wfc_problem.specs.declared.Literal.{Literal}
use Rattle.wfc_problem.specs.declared.Literal.TheVariants.{Is, Not}
use Rattle.wfc_proof.specs.Checker.{Point, after_close, and_on, node_steps}
use Rattle.wfc_proof.specs.Checker.Point.{going, closed}
use Rattle.wfc_proof.specs.Lines.{has_nodes, nodes_of, nodes_of_lines}
use Rattle.wfc_proof.specs.Proof.{IsRemoval, IsSplit, Node, is_left_off}
use Rattle.wfc_proof.specs.Proof.Node.{empties, removes, splits}
use Rattle.wfc_proof.specs.declared.Line.{Line}
use Rattle.wfc_proof.specs.declared.Line.TheVariants.{Try, End, Found, Out}
use Rattle.wfc_proof.specs.declared.Reject.{Reject}
use Rattle.wfc_proof.proofs.Forests.{step_on, steps_append, closed_proof, follow_proof, follows_closes, going_iff}
use Rattle.wfc_proof.proofs.Nodes.{removal_accepted, split_accepted, empty_accepted, neither}
use Rattle.wfc_search.specs.Between.{Cuts}
use Rattle.wfc_search.specs.Proved.{AreProof, IsLeftOpen}
use Rattle.wfc_search.specs.Run.{State, Choice, last_choice, after_choice, after_retraction, dead_turn, alive_turn, turn_of, LeadsTo}
use Rattle.wfc_search.specs.Telling.{lines_by, removal_lines, empty_lines, level_lines, opening_lines, end_line, turn_lines, IsStoreAt, TellsTo, TellsRun}
use Rattle.wfc_search.specs.declared.Outcome.{Outcome}
use Rattle.wfc_search.specs.declared.Outcome.TheVariants.{Map, NoMap, Spent}
use Rattle.wfc_search.specs.declared.Turn.{Turn}
use Rattle.wfc_search.specs.declared.Turn.TheVariants.{Chose, Retracted, Ended}
use Rattle.std.proofs.lemmas.Grind.{common_steps}
use Rattle.std.proofs.lemmas.List.Folds.{list_all-append}
use Rattle.wfc_search.proofs.Stores.{left_added}
use Rattle.wfc_search.proofs.Literals.{IsLast, last_is, none_first}
use Rattle.wfc_search.proofs.Turns.{choice_cuts, ends_cases}

-- a point that is reached
abbrev accepted : Point → Result Point Reject
accepted m = Ok m

-- ---- the branches that wait

-- of each choice the branch without its value, the last choice first, where domains are told of the literals before
abbrev waits : (List Literal → Test) → List Literal → List Test
waits G [] = []
waits G (Is v c ∷ ls) = waits (λ later. G (Is v c ∷ later)) ls ++ with_literal (G []) (Not v c) ∷ []
waits G (Not v c ∷ ls) = waits (λ later. G (Not v c ∷ later)) ls

-- one more choice waits first
waits_choice : (G : List Literal → Test) (ls : List Literal) (c v : ℕ) → waits G (ls ++ Is v c ∷ []) ≡ with_literal (G ls) (Not v c) ∷ waits G ls
waits_choice G [] c v = refl
waits_choice G (Is y x ∷ ls) c v = ap (λ (Ds : List Test). Ds ++ with_literal (G []) (Not y x) ∷ []) (waits_choice (λ later. G (Is y x ∷ later)) ls c v)
waits_choice G (Not y x ∷ ls) c v = waits_choice (λ later. G (Not y x ∷ later)) ls c v

-- without a choice none waits
waits_nothing : (G : List Literal → Test) (ls : List Literal) → last_choice ls ≡ None → waits G ls ≡ []
waits_nothing G [] none = refl
waits_nothing G (l ∷ ls) none =
    let first = none_first l ls none in
    subst (λ (m : Literal). waits G (m ∷ ls) ≡ []) (sym first.2) (waits_nothing (λ later. G (Not first.1 first.0 ∷ later)) ls first.3)

-- and none more waits
waits_more : (G : List Literal → Test) (ls more : List Literal) → last_choice more ≡ None → waits G (ls ++ more) ≡ waits G ls
waits_more G [] more none = waits_nothing G more none
waits_more G (Is y x ∷ ls) more none = ap (λ (Ds : List Test). Ds ++ with_literal (G []) (Not y x) ∷ []) (waits_more (λ later. G (Is y x ∷ later)) ls more none)
waits_more G (Not y x ∷ ls) more none = waits_more (λ later. G (Not y x ∷ later)) ls more none

-- the branch of the last choice waits first
waits_last : (G : List Literal → Test) (ls : List Literal) (last : Choice) → last_choice ls ≡ Some last
    → waits G ls ≡ with_literal (G last.before) (Not last.value last.cell) ∷ waits G last.before
waits_last G ls last found =
    let is : IsLast ls last = last_is ls last found in
    let joined : ls ≡ (last.before ++ Is last.value last.cell ∷ []) ++ is.after = is.whole ∙ sym (append_assoc last.before (Is last.value last.cell ∷ []) is.after) in
    ap (waits G) joined ∙ waits_more G (last.before ++ Is last.value last.cell ∷ []) is.after is.none ∙ waits_choice G last.before last.cell last.value

-- ---- levels

-- where a checker is after a level: behind a closed branch, or at the greatest domains
abbrev after_level : Network → List Literal → List Test → Bool → Point
after_level P literals waiting dead = cond dead (after_close waiting) (going (greatest P literals) waiting)

-- removals that lead from D to E, each right at what those before it left
abbrev LeadTo : Network → Test → List Node → Test → Type 0
LeadTo P D [] E = D ≡ E
LeadTo P D (removes c v d ∷ more) E = IsRemoval P D c v d × LeadTo P (with_literal D (Not v c)) more E
LeadTo P D (splits c v ∷ more) E = ⊥
LeadTo P D (empties c ∷ more) E = ⊥

-- removals that lead on are accepted
removals_accepted : (P : Network) → IsProblem P → (D E : Test) (waiting : List Test) → Within D (in_base P) → (removals more : List Node) → LeadTo P D removals E
    → node_steps P (going D waiting) (removals ++ more) ≡ node_steps P (going E waiting) more
removals_accepted P p D E waiting within [] more lead = ap (λ (F : Test). node_steps P (going F waiting) more) lead
removals_accepted P p D E waiting within (removes c v d ∷ removals) more lead =
    step_on P D waiting (removes c v d) (removals ++ more) (removal_accepted P p D within c v d lead.0)
    ∙ removals_accepted P p (with_literal D (Not v c)) E waiting (cut_within D (in_base P) (Not v c) within) removals more lead.1
removals_accepted P p D E waiting within (splits c v ∷ removals) more lead = absurd lead
removals_accepted P p D E waiting within (empties c ∷ removals) more lead = absurd lead

-- the values of D that all literals leave
abbrev left_by : List Literal → Test → Test
left_by ls D c v = D c v && leaves_all ls c v

and_same : (a b : Bool) → (a ≡ true → b ≡ true) → (a && b) ≡ a
and_same true b h = h refl
and_same false b h = refl

-- these are all of them, where D lies within the cut base
all_left : (P : Network) (ls : List Literal) (D : Test) → Within D (base_with P ls) → left_by ls D ≡ D
all_left P ls D within = λ i c v. and_same (D c v) (leaves_all ls c v) (λ stands. (and_parts (in_base P c v) (leaves_all ls c v) (within c v stands)).1) i

-- a value that a literal cuts is none of them
cut_away : (ls : List Literal) (D : Test) (c v : ℕ) → leaves_all ls c v ≡ false → left_by ls (less D c v) ≡ left_by ls D
cut_away ls D c v gone = λ i x y. by x y (x == c && y == v) refl i
  where
    none : (a l : Bool) → l ≡ false → ((a && false) && l) ≡ (a && l)
    none true true is = absurd (false≢true (sym is))
    none true false is = refl
    none false l is = refl

    same : (a l : Bool) → ((a && true) && l) ≡ (a && l)
    same true l = refl
    same false l = refl

    by : (x y : ℕ) (b : Bool) → (x == c && y == v) ≡ b → (((D x y) && not (x == c && y == v)) && leaves_all ls x y) ≡ (D x y && leaves_all ls x y)
    by x y false is = ap (λ t. (D x y && not t) && leaves_all ls x y) is ∙ same (D x y) (leaves_all ls x y)
    by x y true is =
        let parts = and_parts (x == c) (y == v) is in
        let here : leaves_all ls x y ≡ false =
        ap (λ z. leaves_all ls z y) (eqb-true x c parts.0) ∙ ap (λ z. leaves_all ls c z) (eqb-true y v parts.1) ∙ gone in
        ap (λ t. (D x y && not t) && leaves_all ls x y) is ∙ none (D x y) (leaves_all ls x y) here

-- a value without a support is rightly removed
unsupported : (P : Network) (D : Test) (c v d : ℕ) → D c v ≡ true → IsUnsupported P D c v d → IsRemoval P D c v d
unsupported P D c v d stands is = record {
  stands = stands;
  next = is.next;
  beside = is.beside;
  none = λ w there. no (ok P d v w) w there refl;
}
  where
    count : count_by (D is.next) (supports_of P v d) ≡ 0
    count = sym (ap (count_at P D v d) is.beside) ∙ is.none

    no : (b : Bool) (w : ℕ) → D is.next w ≡ true → ok P d v w ≡ b → ok P d v w ≡ false
    no false w there e = e
    no true w there e =
        let some : 0 < count_by (D is.next) (supports_of P v d) = count_by_pos (D is.next) (supports_of P v d) w (has_Contains (supports_of P v d) w e) there in
        absurd (omega (arith, some, count))

-- less lies within
less_within : (D E : Test) (c v : ℕ) → Within D E → Within (less D c v) E
less_within D E c v within x y stands = within x y (and_parts (D x y) (not (x == c && y == v)) stands).0

spelled_append : (xs ys : List Line) → nodes_of_lines (xs ++ ys) ≡ nodes_of_lines xs ++ nodes_of_lines ys
spelled_append [] ys = refl
spelled_append (x ∷ xs) ys = ap (λ ns. nodes_of x ++ ns) (spelled_append xs ys) ∙ sym (append_assoc (nodes_of x) (nodes_of_lines xs) (nodes_of_lines ys))

-- what is removed one after another leads on, from what the literals leave
removed_lead : (P : Network) (ls : List Literal) (D : Test) (rs : List Removal) → AreRemoved P ls D rs → LeadTo P (left_by ls D) (nodes_of_lines (removal_lines rs)) (left_by ls (without D rs))
removed_lead P ls D [] are = refl
removed_lead P ls D (r ∷ rs) are = by r.cause are.0.cause (removed_lead P ls (less D r.cell r.value) rs are.1)
  where
    by : (cause : Cause) → IsCause P ls D r.cell r.value cause → LeadTo P (left_by ls (less D r.cell r.value)) (nodes_of_lines (removal_lines rs)) (left_by ls (without D (r ∷ rs)))
        → LeadTo P (left_by ls D) (nodes_of_lines (lines_by r.cell r.value cause ++ removal_lines rs)) (left_by ls (without D (r ∷ rs)))
    by Assumed is rest = subst (λ E. LeadTo P E (nodes_of_lines (removal_lines rs)) (left_by ls (without D (r ∷ rs)))) (cut_away ls D r.cell r.value is) rest
    by (Arc d) is rest =
        let all : left_by ls D ≡ D = all_left P ls D is.0 in
        let next : left_by ls (less D r.cell r.value) ≡ with_literal (left_by ls D) (Not r.value r.cell) =
        all_left P ls (less D r.cell r.value) (less_within D (base_with P ls) r.cell r.value is.0) ∙ ap (λ E. less E r.cell r.value) (sym all) in (
          subst (λ E. IsRemoval P E r.cell r.value d) (sym all) (unsupported P D r.cell r.value d are.0.stood is.1),
          subst (λ E. LeadTo P E (nodes_of_lines (removal_lines rs)) (left_by ls (without D (r ∷ rs)))) next rest,
        )

-- the level of a store that is sound, from where it begins
level_accepted : (P : Network) (D : Test) (waiting : List Test) (store : StoreView) → IsSound store → store.problem ≡ P → D ≡ left_by store.standing (before_of store) → Within D (in_base P)
    → node_steps P (going D waiting) (nodes_of_lines (level_lines store)) ≡ Ok (after_level P store.standing waiting (is_dead P (greatest P store.standing)))
level_accepted P D waiting store sound same begins within =
    let p : IsProblem P = subst IsProblem same sound.problem in
    let added : AreRemoved P store.standing (before_of store) (added_of store) = subst (λ X. AreRemoved X store.standing (before_of store) (added_of store)) same sound.added in
    let lead : LeadTo P D (nodes_of_lines (removal_lines (added_of store))) (left_by store.standing (left_of store)) =
    subst (λ E. LeadTo P E (nodes_of_lines (removal_lines (added_of store))) (left_by store.standing (left_of store))) (sym begins)
    (subst (λ E. LeadTo P (left_by store.standing (before_of store)) (nodes_of_lines (removal_lines (added_of store))) (left_by store.standing E)) (sym (left_added store))
    (removed_lead P store.standing (before_of store) (added_of store) added)) in
    ap (node_steps P (going D waiting)) (spelled_append (removal_lines (added_of store)) (empty_lines store.verdict))
    ∙ removals_accepted P p D (left_by store.standing (left_of store)) waiting within (nodes_of_lines (removal_lines (added_of store))) (nodes_of_lines (empty_lines store.verdict)) lead
    ∙ by store.verdict (subst (λ X. IsVerdict X store.standing (left_of store) store.verdict) same sound.verdict)
  where
    by : (verdict : Verdict) → IsVerdict P store.standing (left_of store) verdict
        → node_steps P (going (left_by store.standing (left_of store)) waiting) (nodes_of_lines (empty_lines verdict)) ≡ Ok (after_level P store.standing waiting (is_dead P (greatest P store.standing)))
    by Alive is =
        let p : IsProblem P = subst IsProblem same sound.problem in
        let same_domains : left_of store ≡ greatest P store.standing = greatest_same P store.standing (left_of store) (greatest P store.standing) is.0 (greatest_is P p store.standing) in
        let all : left_by store.standing (left_of store) ≡ greatest P store.standing =
        all_left P store.standing (left_of store) (greatest_within P store.standing (left_of store) is.0) ∙ same_domains in
        let alive : is_dead P (greatest P store.standing) ≡ false = sym (ap (is_dead P) same_domains) ∙ is.1 in
        ap (λ (E : Test). accepted (going E waiting)) all ∙ ap (λ b. accepted (after_level P store.standing waiting b)) (sym alive)
    by (Dead cell) is =
        step_on P (left_by store.standing (left_of store)) waiting (empties cell) []
        (empty_accepted P (left_by store.standing (left_of store)) cell is.1 (λ v. ap (λ b. b && leaves_all store.standing cell v) (is.2 v)))
        ∙ ap (λ b. accepted (after_level P store.standing waiting b)) (sym is.0)

-- ---- turns

-- where a checker is that was told all up to these standing literals
abbrev point_of : Network → List Literal → Point
point_of P literals = after_level P literals (waits (greatest P) literals) (is_dead P (greatest P literals))

-- a cell with two values has another one
splits_two : (P : Network) → IsProblem P → (D : Test) → Within D (in_base P) → (c v : ℕ) → Cuts P D (Is v c) → IsSplit D c v
splits_two P p D within c v cuts =
    let test : ℕ → Bool = λ w. w == v || not (D c w) in
    elim (cases_Bool (list_all test (range_with_len 0 (values P)))) [
      | inl all ↦
          let one : size_at P D c ≤ 1 = size_at_one P p D within c v (λ w t.
          or_value (w == v) (D c w) w v refl t (all_pass test (range_with_len 0 (values P)) w all (range_Contains (values P) w (base_inside P p c w (within c w t)).1))) in
          absurd (omega (arith, one, cuts.2))
      | inr some ↦
          let fails = one_fails test (range_with_len 0 (values P)) some in
          let both = neither (fails.0 == v) (D c fails.0) fails.2 in
          record { stands = cuts.1; other = fails.0; also = both.1; differs = eqb-false fails.0 v both.0 }
    ]
  where
    or_value : (a b : Bool) (w v : ℕ) → (w == v) ≡ a → b ≡ true → (a || not b) ≡ true → w ≡ v
    or_value true b w v same t e = eqb-true w v same
    or_value false true w v same t e = cc
    or_value false false w v same t e = cc

-- all literals leave what the last of them leaves of the greatest domains before it
leaves_last : (before : List Literal) (l : Literal) (c v : ℕ) → leaves_all (before ++ l ∷ []) c v ≡ (leaves_all before c v && leaves l c v)
leaves_last [] l c v = last (leaves l c v)
  where
    last : (b : Bool) → (b && true) ≡ b
    last true = refl
    last false = refl
leaves_last (first ∷ before) l c v = ap (λ b. leaves first c v && b) (leaves_last before l c v) ∙ assoc (leaves first c v) (leaves_all before c v) (leaves l c v)
  where
    assoc : (a b e : Bool) → (a && (b && e)) ≡ ((a && b) && e)
    assoc true b e = refl
    assoc false b e = refl

-- where a level with a last literal begins
level_begins : (P : Network) (before : List Literal) (l : Literal) (store : StoreView) → IsSound store → store.problem ≡ P → store.standing ≡ before ++ l ∷ []
    → with_literal (greatest P before) l ≡ left_by store.standing (before_of store)
level_begins P before l store sound same standing =
    let p : IsProblem P = subst IsProblem same sound.problem in
    let some : 0 < length store.standing = omega (arith, ap length standing, length-append before (l ∷ [])) in
    let front : all_but_last store.standing ≡ before = ap all_but_last standing ∙ but_last before l in
    let began = sound.began some in
    let first : IsGreatest P before (before_of store) = subst (λ X. IsGreatest X before (before_of store)) same (subst (λ ls. IsGreatest store.problem ls (before_of store)) front began.0) in
    let domains : before_of store ≡ greatest P before = greatest_same P before (before_of store) (greatest P before) first (greatest_is P p before) in
    let within = greatest_within P before (before_of store) first in
    ap (λ (E : Test). with_literal E l) (sym domains)
    ∙ (λ i c v. each (before_of store c v) (leaves_all before c v) (leaves l c v) (λ stands. (and_parts (in_base P c v) (leaves_all before c v) (within c v stands)).1) i)
    ∙ (λ i c v. before_of store c v && sym (leaves_last before l c v) i)
    ∙ ap (λ ls. left_by ls (before_of store)) (sym standing)
  where
    each : (a b e : Bool) → (a ≡ true → b ≡ true) → (a && e) ≡ (a && (b && e))
    each true true e h = refl
    each true false e h = absurd (false≢true (h refl))
    each false b e h = refl

    but_last : (ls : List Literal) (m : Literal) → all_but_last (ls ++ m ∷ []) ≡ ls
    but_last ls m = grind (arith, common_steps)

-- a choice that is told
choice_told : (P : Network) → IsProblem P → (rule : Rule) (s : State) (store : StoreView) (cell : ℕ) → is_dead P (greatest P s.standing) ≡ false → picked_cell rule (sizes_of P (greatest P s.standing)) ≡ Some cell
    → (value : ℕ) → value ≡ drawn_value P (values_at P (greatest P s.standing) cell) (next_u64 s.words).0
    → IsStoreAt P (after_choice s cell value (next_u64 s.words).1) store
    → node_steps P (point_of P s.standing) (nodes_of_lines (Try cell value ∷ level_lines store)) ≡ Ok (point_of P (s.standing ++ Is value cell ∷ []))
choice_told P p rule s store cell alive picks value draws at =
    let D : Test = greatest P s.standing in
    let W : List Test = waits (greatest P) s.standing in
    let ls : List Literal = s.standing ++ Is value cell ∷ [] in
    let within : Within D (in_base P) = greatest_base P p s.standing in
    let cuts : Cuts P D (Is value cell) = choice_cuts P p rule s (after_choice s cell value (next_u64 s.words).1) s.standing
    (record { alive = alive; cell = cell; value = value; words = (next_u64 s.words).1; picks = picks; draws = draws; next = refl }) in
    ap (λ (b : Bool). node_steps P (after_level P s.standing W b) (nodes_of_lines (Try cell value ∷ level_lines store))) alive
    ∙ step_on P D W (splits cell value) (nodes_of_lines (level_lines store)) (split_accepted P p D within cell value (splits_two P p D within cell value cuts))
    ∙ level_accepted P (with_literal D (Is value cell)) (with_literal D (Not value cell) ∷ W) store at.sound at.problem (level_begins P s.standing (Is value cell) store at.sound at.problem at.standing)
    (cut_within D (in_base P) (Is value cell) within)
    ∙ ap (λ (later : List Literal). accepted (after_level P later (with_literal D (Not value cell) ∷ W) (is_dead P (greatest P later)))) at.standing
    ∙ ap (λ (Ds : List Test). accepted (after_level P ls Ds (is_dead P (greatest P ls)))) (sym (waits_choice (greatest P) s.standing cell value))

-- a retraction that is told
retraction_told : (P : Network) → IsProblem P → (s : State) (store : StoreView) (last : Choice) → is_dead P (greatest P s.standing) ≡ true → last_choice s.standing ≡ Some last
    → IsStoreAt P (after_retraction s last) store
    → node_steps P (point_of P s.standing) (nodes_of_lines (level_lines store)) ≡ Ok (point_of P (last.before ++ Not last.value last.cell ∷ []))
retraction_told P p s store last dead found at =
    let D : Test = with_literal (greatest P last.before) (Not last.value last.cell) in
    let ls : List Literal = last.before ++ Not last.value last.cell ∷ [] in
    let W : List Test = waits (greatest P) last.before in
    ap (λ (b : Bool). node_steps P (after_level P s.standing (waits (greatest P) s.standing) b) (nodes_of_lines (level_lines store))) dead
    ∙ ap (λ (Ds : List Test). node_steps P (after_close Ds) (nodes_of_lines (level_lines store))) (waits_last (greatest P) s.standing last found)
    ∙ level_accepted P D W store at.sound at.problem (level_begins P last.before (Not last.value last.cell) store at.sound at.problem at.standing)
    (cut_within (greatest P last.before) (in_base P) (Not last.value last.cell) (greatest_base P p last.before))
    ∙ ap (λ (later : List Literal). accepted (after_level P later W (is_dead P (greatest P later)))) at.standing
    ∙ ap (λ (Ds : List Test). accepted (after_level P ls Ds (is_dead P (greatest P ls)))) (sym (waits_more (greatest P) last.before (Not last.value last.cell ∷ []) refl))

-- where the budget isn't spent
back_told : (P : Network) → IsProblem P → (s t : State) (store : StoreView) (last : Choice) (b : Bool) → is_dead P (greatest P s.standing) ≡ true → last_choice s.standing ≡ Some last
    → LeadsTo (cond b (Ended Spent, s) (Retracted last.cell last.value, after_retraction s last)) t → IsStoreAt P t store
    → node_steps P (point_of P s.standing) (nodes_of_lines (turn_lines (cond {A = Turn × State} b (Ended Spent, s) (Retracted last.cell last.value, after_retraction s last)).0 store)) ≡ Ok (point_of P t.standing)
back_told P p s t store last true dead found leads at = absurd leads
back_told P p s t store last false dead found leads at =
    retraction_told P p s store last dead found (subst (λ (u : State). IsStoreAt P u store) (sym leads) at) ∙ ap (λ (u : State). accepted (point_of P u.standing)) leads

-- a turn that leads on, told
lead_told : (P : Network) → IsProblem P → (rule : Rule) (budget : ℕ) (s t : State) (store : StoreView) (b : Bool) (m : Option Choice) (o : Option ℕ)
    → is_dead P (greatest P s.standing) ≡ b → last_choice s.standing ≡ m → picked_cell rule (sizes_of P (greatest P s.standing)) ≡ o
    → LeadsTo (cond b (dead_turn budget s m) (alive_turn P s (greatest P s.standing) o)) t → IsStoreAt P t store
    → node_steps P (point_of P s.standing) (nodes_of_lines (turn_lines (cond {A = Turn × State} b (dead_turn budget s m) (alive_turn P s (greatest P s.standing) o)).0 store)) ≡ Ok (point_of P t.standing)
lead_told P p rule budget s t store true None o dead found picks leads at = absurd leads
lead_told P p rule budget s t store true (Some last) o dead found picks leads at = back_told P p s t store last (s.retractions == budget) dead found leads at
lead_told P p rule budget s t store false m None dead found picks leads at = absurd leads
lead_told P p rule budget s t store false m (Some cell) dead found picks leads at =
    choice_told P p rule s store cell dead picks (drawn_value P (values_at P (greatest P s.standing) cell) (next_u64 s.words).0) refl (subst (λ (u : State). IsStoreAt P u store) (sym leads) at)
    ∙ ap (λ (u : State). accepted (point_of P u.standing)) leads

turn_told : (P : Network) → IsProblem P → (rule : Rule) (budget : ℕ) (s t : State) (store : StoreView) → LeadsTo (turn_of P rule budget s) t → IsStoreAt P t store
    → node_steps P (point_of P s.standing) (nodes_of_lines (turn_lines (turn_of P rule budget s).0 store)) ≡ Ok (point_of P t.standing)
unfolding turn_of
turn_told P p rule budget s t store leads at =
    lead_told P p rule budget s t store (is_dead P (greatest P s.standing)) (last_choice s.standing) (picked_cell rule (sizes_of P (greatest P s.standing))) refl refl refl leads at

-- ---- runs

-- what comes after nodes that are accepted
behind : (P : Network) (m k : Point) (ns more : List Node) → node_steps P m ns ≡ Ok k → node_steps P m (ns ++ more) ≡ node_steps P k more
behind P m k ns more e = steps_append P m ns more ∙ ap (λ (r : Result Point Reject). and_on r (λ x. node_steps P x more)) e

turns_told : (P : Network) → IsProblem P → (rule : Rule) (budget : ℕ) (s t : State) (stores : List StoreView) (lines : List Line) → TellsTo P rule budget s stores t lines
    → node_steps P (point_of P s.standing) (nodes_of_lines lines) ≡ Ok (point_of P t.standing)
turns_told P p rule budget s t [] lines tells =
    ap (λ ls. node_steps P (point_of P s.standing) (nodes_of_lines ls)) tells.1 ∙ ap (λ (u : State). accepted (point_of P u.standing)) tells.0
turns_told P p rule budget s t (store ∷ stores) lines tells =
    let next : State = tells.0 in
    ap (λ ls. node_steps P (point_of P s.standing) (nodes_of_lines ls)) tells.5
    ∙ ap (node_steps P (point_of P s.standing)) (spelled_append (turn_lines (turn_of P rule budget s).0 store) tells.3)
    ∙ behind P (point_of P s.standing) (point_of P next.standing) (nodes_of_lines (turn_lines (turn_of P rule budget s).0 store)) (nodes_of_lines tells.3) (turn_told P p rule budget s next store tells.1 tells.2)
    ∙ turns_told P p rule budget next t stores tells.3 tells.4

-- the lines of the opening
opening_told : (P : Network) (s : State) (first : StoreView) → s.standing ≡ [] → IsStoreAt P s first → node_steps P (going (in_base P) []) (nodes_of_lines (opening_lines first)) ≡ Ok (point_of P s.standing)
opening_told P s first none at =
    let empty : first.standing ≡ [] = at.standing ∙ none in
    let marks : first.marks ≡ [] = nil first.marks (at.sound.marked ∙ ap length empty) in
    let before : before_of first ≡ in_base P = ap (λ (m : List ℕ). without (in_base first.problem) (take (level_mark m) first.removals)) marks ∙ ap in_base at.problem in
    let begins : in_base P ≡ left_by first.standing (before_of first) =
    (λ i c v. sym (and_same (in_base P c v) true (λ t. refl)) i) ∙ ap (left_by []) (sym before) ∙ ap (λ ls. left_by ls (before_of first)) (sym empty) in
    ap (λ ls. node_steps P (going (in_base P) []) (nodes_of_lines (cond (length ls == 0) (level_lines first) []))) empty
    ∙ level_accepted P (in_base P) [] first at.sound at.problem begins (λ c v t. t)
    ∙ ap (λ ls. accepted (after_level P ls [] (is_dead P (greatest P ls)))) empty
    ∙ ap (λ ls. accepted (point_of P ls)) (sym none)
  where
    nil : (xs : List ℕ) → length xs ≡ 0 → xs ≡ []
    nil [] is = refl
    nil (x ∷ xs) is = absurd (omega arith)

-- all of these lines stand for nodes
lines_stand : (rs : List Removal) → list_all has_nodes (removal_lines rs) ≡ true
lines_stand [] = refl
lines_stand (r ∷ rs) = by r.cause (lines_stand rs)
  where
    by : (cause : Cause) → list_all has_nodes (removal_lines rs) ≡ true → list_all has_nodes (lines_by r.cell r.value cause ++ removal_lines rs) ≡ true
    by Assumed rest = rest
    by (Arc d) rest = and_from _ _ refl rest

all_stand : (xs ys : List Line) → list_all has_nodes xs ≡ true → list_all has_nodes ys ≡ true → list_all has_nodes (xs ++ ys) ≡ true
all_stand [] ys first rest = rest
all_stand (x ∷ xs) ys first rest = let parts = and_parts (has_nodes x) (list_all has_nodes xs) first in and_from _ _ parts.0 (all_stand xs ys parts.1 rest)

level_stands : (store : StoreView) → list_all has_nodes (level_lines store) ≡ true
level_stands store = all_stand (removal_lines (added_of store)) (empty_lines store.verdict) (lines_stand (added_of store)) (by store.verdict)
  where
    by : (verdict : Verdict) → list_all has_nodes (empty_lines verdict) ≡ true
    by Alive = refl
    by (Dead cell) = refl

turn_stands : (turn : Turn × State) (t : State) (store : StoreView) → LeadsTo turn t → list_all has_nodes (turn_lines turn.0 store) ≡ true
turn_stands (Chose cell value, next) t store leads = and_from _ _ refl (level_stands store)
turn_stands (Retracted cell value, next) t store leads = level_stands store
turn_stands (Ended outcome, next) t store leads = absurd leads

turns_stand : (P : Network) (rule : Rule) (budget : ℕ) (s t : State) (stores : List StoreView) (lines : List Line) → TellsTo P rule budget s stores t lines → list_all has_nodes lines ≡ true
turns_stand P rule budget s t [] lines tells = ap (list_all has_nodes) tells.1
turns_stand P rule budget s t (store ∷ stores) lines tells =
    ap (list_all has_nodes) tells.5
    ∙ all_stand (turn_lines (turn_of P rule budget s).0 store) tells.3 (turn_stands (turn_of P rule budget s) tells.0 store tells.1) (turns_stand P rule budget tells.0 t stores tells.3 tells.4)

-- at the end of a run that finds that there is no map all is closed
no_map_closed : (P : Network) (rule : Rule) (budget : ℕ) (s : State) → turn_of P rule budget s ≡ (Ended NoMap, s) → point_of P s.standing ≡ closed
no_map_closed P rule budget s is = elim (ends_cases P rule budget s s NoMap is) [
  | inl a ↦ let e = a.is in cc
  | inr more ↦ elim more [
    | inl d ↦
        ap (λ (b : Bool). after_level P s.standing (waits (greatest P) s.standing) b) d.dead
        ∙ ap after_close (waits_nothing (greatest P) s.standing d.none)
    | inr a ↦ let e = a.is in cc
  ]
]

-- at another end a branch is open
other_open : (P : Network) (rule : Rule) (budget : ℕ) (s : State) (outcome : Outcome) → outcome ≢ NoMap → turn_of P rule budget s ≡ (Ended outcome, s)
    → (E : Test) × (waiting : List Test) × (point_of P s.standing ≡ going E waiting)
other_open P rule budget s outcome other is =
    let D : Test = greatest P s.standing in
    let W : List Test = waits (greatest P) s.standing in
    elim (ends_cases P rule budget s s outcome is) [
      | inl a ↦ (D, W, ap (λ (b : Bool). after_level P s.standing W b) a.alive)
      | inr more ↦ elim more [
        | inl d ↦ absurd (other d.is)
        | inr a ↦
            let E : Test = with_literal (greatest P a.last.before) (Not a.last.value a.last.cell) in
            let V : List Test = waits (greatest P) a.last.before in
            let first : W ≡ E ∷ V = waits_last (greatest P) s.standing a.last a.found in
            elim (cases_Bool (is_dead P D)) [
              | inl dead ↦ (E, V, ap (λ (b : Bool). after_level P s.standing W b) dead ∙ ap after_close first)
              | inr alive ↦ (D, W, ap (λ (b : Bool). after_level P s.standing W b) alive)
            ]
      ]
    ]

-- all lines that are told from the opening to some turn lead a checker on
told_reached : (P : Network) (rule : Rule) (budget : ℕ) (s last : State) (first : StoreView) (stores : List StoreView) (before : List Line) → s.standing ≡ [] → IsStoreAt P s first
    → TellsTo P rule budget s stores last before → node_steps P (going (in_base P) []) (nodes_of_lines (opening_lines first ++ before)) ≡ Ok (point_of P last.standing)
told_reached P rule budget s last first stores before none at turns =
    ap (node_steps P (going (in_base P) [])) (spelled_append (opening_lines first) before)
    ∙ behind P (going (in_base P) []) (point_of P s.standing) (nodes_of_lines (opening_lines first)) (nodes_of_lines before) (opening_told P s first none at)
    ∙ turns_told P (subst IsProblem at.problem at.sound.problem) rule budget s last stores before turns

-- and stand for nodes
told_stand : (P : Network) (rule : Rule) (budget : ℕ) (s last : State) (first : StoreView) (stores : List StoreView) (before : List Line)
    → TellsTo P rule budget s stores last before → list_all has_nodes (opening_lines first ++ before) ≡ true
told_stand P rule budget s last first stores before turns =
    all_stand (opening_lines first) before (opening (length first.standing == 0)) (turns_stand P rule budget s last stores before turns)
  where
    opening : (b : Bool) → list_all has_nodes (cond b (level_lines first) []) ≡ true
    opening true = level_stands first
    opening false = refl

-- the lines of a whole run are a proof
pub run_proved : (P : Network) (rule : Rule) (budget : ℕ) (s : State) (first : StoreView) (outcome : Outcome) (lines : List Line) → s.standing ≡ [] → IsStoreAt P s first
    → TellsRun P rule budget s first outcome lines → AreProof P outcome lines
run_proved P rule budget s first outcome lines none at tells = by outcome tells.ended tells.lines_are
  where
    p : IsProblem P
    p = subst IsProblem at.problem at.sound.problem

    told : List Line
    told = opening_lines first ++ tells.before

    reached : node_steps P (going (in_base P) []) (nodes_of_lines (opening_lines first ++ tells.before)) ≡ Ok (point_of P tells.last.standing)
    reached = told_reached P rule budget s tells.last first tells.stores tells.before none at tells.turns

    stand : list_all has_nodes (opening_lines first ++ tells.before) ≡ true
    stand = told_stand P rule budget s tells.last first tells.stores tells.before tells.turns

    whole : (last : Line) → lines ≡ opening_lines first ++ (tells.before ++ last ∷ []) → lines ≡ (opening_lines first ++ tells.before) ++ last ∷ []
    whole last are = are ∙ sym (append_assoc (opening_lines first) tells.before (last ∷ []))

    open_run : (end : Outcome) → end ≢ NoMap → turn_of P rule budget tells.last ≡ (Ended end, tells.last) → (last : Line) → lines ≡ opening_lines first ++ (tells.before ++ last ∷ []) → IsLeftOpen P lines last
    open_run end other is last are =
        let o = other_open P rule budget tells.last end other is in
        let f = (going_iff P p (in_base P) (λ c v t. t) (nodes_of_lines (opening_lines first ++ tells.before))).0 (o.0, o.1, reached ∙ ap (λ (m : Point). accepted m) o.2) in
        record { told = opening_lines first ++ tells.before; proof = f.0; follows = f.1; stops = f.2; left_off = f.3; spells = (stand, f.4); whole = whole last are }

    by : (end : Outcome) → turn_of P rule budget tells.last ≡ (Ended end, tells.last) → lines ≡ opening_lines first ++ (tells.before ++ end_line end ∷ []) → AreProof P end lines
    by Map is are = open_run Map (λ e. cc) is Found are
    by Spent is are = open_run Spent (λ e. cc) is Out are
    by NoMap is are =
        let f = closed_proof P p (in_base P) (λ c v t. t) (nodes_of_lines (opening_lines first ++ tells.before)) (reached ∙ ap (λ (m : Point). accepted m) (no_map_closed P rule budget tells.last is)) in
        record { told = opening_lines first ++ tells.before; proof = f.0; closes = f.1; spells = (stand, f.2); whole = whole End are }

-- ---- a run that is cut off

-- where nodes are accepted, those at their front are
front_accepted : (P : Network) (m k : Point) (xs ys : List Node) → node_steps P m (xs ++ ys) ≡ Ok k → (q : Point) × (node_steps P m xs ≡ Ok q)
front_accepted P m k xs ys e = by_front (node_steps P m xs) refl (sym (steps_append P m xs ys) ∙ e)
  where
    by_front : (r : Result Point Reject) → node_steps P m xs ≡ r → and_on r (λ x. node_steps P x ys) ≡ Ok k → (q : Point) × (node_steps P m xs ≡ Ok q)
    by_front (Ok q) is e = (q, is)
    by_front (Err why) is e = absurd (cc e)

-- lines that stand for nodes which a checker accepts spell a proof: a branch is left open, or all are closed
accepted_proof : (P : Network) → IsProblem P → (lines : List Line) (q : Point) → list_all has_nodes lines ≡ true → node_steps P (going (in_base P) []) (nodes_of_lines lines) ≡ Ok q
    → AreProof P Map (lines ++ Found ∷ []) ⊎ AreProof P NoMap (lines ++ End ∷ [])
accepted_proof P p lines q stand reached =
    let f = follow_proof P p (in_base P) (λ c v t. t) (nodes_of_lines lines) q reached in
    elim (cases_Bool (is_left_off f.0)) [
      | inl off ↦ inl (record { told = lines; proof = f.0; follows = f.1; stops = f.2; left_off = off; spells = (stand, f.3); whole = refl })
      | inr none ↦ inr (record { told = lines; proof = f.0; closes = follows_closes P (in_base P) f.0 f.1 none; spells = (stand, f.3); whole = refl })
    ]

-- the first lines of a run, up to any of them: with the line of an end behind them they are a proof of which a branch is
-- left open, or one that is closed
pub front_proved : (P : Network) (rule : Rule) (budget : ℕ) (s last : State) (first : StoreView) (stores : List StoreView) (before lines rest : List Line) → s.standing ≡ [] → IsStoreAt P s first
    → TellsTo P rule budget s stores last before → opening_lines first ++ before ≡ lines ++ rest → AreProof P Map (lines ++ Found ∷ []) ⊎ AreProof P NoMap (lines ++ End ∷ [])
front_proved P rule budget s last first stores before lines rest none at turns whole =
    let p : IsProblem P = subst IsProblem at.problem at.sound.problem in
    let reached = told_reached P rule budget s last first stores before none at turns in
    let joined : nodes_of_lines lines ++ nodes_of_lines rest ≡ nodes_of_lines (opening_lines first ++ before) = sym (spelled_append lines rest) ∙ ap nodes_of_lines (sym whole) in
    let front = front_accepted P (going (in_base P) []) (point_of P last.standing) (nodes_of_lines lines) (nodes_of_lines rest) (ap (node_steps P (going (in_base P) [])) joined ∙ reached) in
    let stand = (and_parts (list_all has_nodes lines) (list_all has_nodes rest)
    (sym (list_all-append has_nodes lines rest) ∙ ap (list_all has_nodes) (sym whole) ∙ told_stand P rule budget s last first stores before turns)).0 in
    accepted_proof P p lines front.0 stand front.1

-- one turn more that is told
pub tells_more : (P : Network) (rule : Rule) (budget : ℕ) (s t next : State) (stores : List StoreView) (store : StoreView) (before : List Line) → TellsTo P rule budget s stores t before
    → LeadsTo (turn_of P rule budget t) next → IsStoreAt P next store → (more : List StoreView) × TellsTo P rule budget s more next (before ++ turn_lines (turn_of P rule budget t).0 store)
tells_more P rule budget s t next [] store before tells leads at =
    let X : State → List Line = λ u. turn_lines (turn_of P rule budget u).0 store in (
      store ∷ [],
      (
        next,
        subst (λ (u : State). LeadsTo (turn_of P rule budget u) next) (sym tells.0) leads,
        at,
        [],
        (refl, refl),
        ap (λ (ls : List Line). ls ++ X t) tells.1 ∙ ap X (sym tells.0) ∙ sym (append-nil (X s)),
      ),
    )
tells_more P rule budget s t next (store ∷ stores) last before tells leads at =
    let X : List Line = turn_lines (turn_of P rule budget t).0 last in
    let later = tells_more P rule budget tells.0 t next stores last tells.3 tells.4 leads at in (
      store ∷ later.0,
      (
        tells.0,
        tells.1,
        tells.2,
        tells.3 ++ X,
        later.1,
        ap (λ (ls : List Line). ls ++ X) tells.5 ∙ append_assoc (turn_lines (turn_of P rule budget s).0 store) tells.3 X,
      ),
    )
