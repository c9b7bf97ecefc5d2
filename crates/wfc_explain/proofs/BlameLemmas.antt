-- That what an explanation says is true.
use Rattle.std.proofs.Common.{◌≡◌, ℕ, zero, suc, ◌+◌, ◌<◌, ◌≤◌, inl, inr, Bool, true, false, List, [], ◌∷◌, ◌++◌, length, map, get_or, set, refl, sym, ap, subst, ◌∙◌, arith, Option, None, Some, IsTrue}
use Rattle.std.specs.Prelude.{All, Contains, slice_index, ◌==◌, ◌||◌}
use Rattle.std.specs.List.Sorted.{IsStrictlyIncreasing}
use Rattle.std.proofs.lemmas.Bool.{false≢true, eq-eqb, ne_eqb}
use Rattle.std.proofs.Math.Bool.{or-true, or-false}
use Rattle.std.proofs.Math.Seq.{get_or-append_seam}
use Rattle.std.proofs.lemmas.Bool.Decides.{eqb_tells}
use Rattle.std.proofs.lemmas.Grind.{get_or-set_at}
use Rattle.std.proofs.lemmas.List.{length-append, length-map, map-append, get_or-map, get_or_append_left, length-set, length-replicate, get_or-replicate, get_or-set_other, ext_get_or}
use Rattle.std.proofs.lemmas.List.Elements.{All-append, All-contains, Contains-append_cases}
use Rattle.std.proofs.lemmas.List.Folds.{list_any-append, list_any_none}
use Rattle.std.proofs.lemmas.List.FromFn.{length-map-range_with_len, get_or-map-range_with_len}
use Rattle.wfc_lists.proofs.Lists.{Contains_cases, Contains_none}
use Rattle.rand_core.specs.Stream.{Stream}
use Rattle.wfc_choose.specs.Pick.{Rule}
use Rattle.wfc_problem.specs.Assignment.{IsLegalAssignment}
use Rattle.wfc_problem.specs.Domains.{Within}
use Rattle.wfc_problem.specs.Network.{Network, IsProblem, in_base, neighbour, ok}
use Rattle.wfc_search.specs.Ends.{EndsIn}
use Rattle.wfc_search.specs.Run.{State, outcome_of}
use Rattle.wfc_search.specs.declared.Outcome.{Outcome}
use Rattle.wfc_search.specs.declared.Outcome.TheVariants as outcome
use Rattle.wfc_search.proofs.CallerLemmas.{outcome_map, outcome_none}
use Rattle.wfc_explain.specs.Blame.{HasMap, IsTrueCore, IsTrueExplained, has_line, core_lines}
use Rattle.wfc_explain.specs.Trials.{TrialView, all_lines, core_of, trial_with, explanation_by, explanation_of, outcome_mark, trial_after, next_trial, lines_without}
use Rattle.wfc_explain.specs.Outcomes.{outcome_at, outcome_with}
use Rattle.wfc_explain.specs.Pinned.{IsAlike, IsFewer, IsPinned, PinnedView}
use Rattle.wfc_explain.specs.declared.explained.Kept.{Kept}
use Rattle.wfc_explain.specs.declared.explained.Mark.{Mark}
use Rattle.wfc_explain.specs.declared.explained.Mark.TheVariants.{Needed, Undecided}

-- ---- fewer lines

-- an assignment that is legal for a problem is so for one that differs in its base alone, and whose base holds that of
-- the other
pub legal_alike : (P Q : Network) → IsAlike P Q → Within (in_base P) (in_base Q) → (a : List ℕ) → IsLegalAssignment P a → IsLegalAssignment Q a
legal_alike P Q alike falls a legal =
    let cells : P.cells ≡ Q.cells = ap (λ (N : Network). N.cells) alike in
    record {
      each_cell = legal.each_cell ∙ cells;
      based = λ c h. falls c (slice_index a c) (legal.based c (omega (arith, cells, h)));
      beside = λ c d n e. subst IsTrue (ap (λ (N : Network). ok N d (slice_index a c) (slice_index a n)) alike)
          (legal.beside c d n (ap (λ (N : Network). neighbour N c d) alike ∙ e));
    }

-- where more lines have a map, fewer have it too
pub map_falls : (v : PinnedView) → IsPinned v → (fewer more : List Bool) → length fewer ≡ v.lines → length more ≡ v.lines → IsFewer fewer more
    → HasMap (v.problem_of more) → HasMap (v.problem_of fewer)
map_falls v p fewer more short long falls found =
    (found.0, legal_alike (v.problem_of more) (v.problem_of fewer) (p.alike more fewer long short) (p.falls fewer more short long falls) found.0 found.1)

-- ---- what outcomes say

-- the outcome of a run is that of its end
pub outcome_is : (P : Network) (rule : Rule) (budget : ℕ) (words : Stream) (o : Outcome) → EndsIn P rule budget words o → o ≡ outcome_at (outcome_of P rule budget words)
outcome_is P rule budget words o is = sym (ap outcome_at is.1)

-- with a map there is one
pub outcome_has : (P : Network) → IsProblem P → (rule : Rule) (budget : ℕ) (words : Stream) → outcome_at (outcome_of P rule budget words) ≡ outcome.Map → HasMap P
outcome_has P p rule budget words is = by_end (outcome_of P rule budget words) refl is
  where
    by_end : (o : Option (Outcome × State)) → outcome_of P rule budget words ≡ o → outcome_at o ≡ outcome.Map → HasMap P
    by_end None e same = cc
    by_end (Some (o, s)) e same = (_, (outcome_map P p rule budget words s (e ∙ ap (λ (x : Outcome). Some (x, s)) same)).1)

-- without one there is none
pub outcome_lacks : (P : Network) → IsProblem P → (rule : Rule) (budget : ℕ) (words : Stream) → outcome_at (outcome_of P rule budget words) ≡ outcome.NoMap → HasMap P → ⊥
outcome_lacks P p rule budget words is found = by_end (outcome_of P rule budget words) refl is
  where
    by_end : (o : Option (Outcome × State)) → outcome_of P rule budget words ≡ o → outcome_at o ≡ outcome.NoMap → ⊥
    by_end None e same = cc
    by_end (Some (o, s)) e same = outcome_none P p rule budget words s (e ∙ ap (λ (x : Outcome). Some (x, s)) same) found.0 found.1

-- ---- lines that are left out

-- an entry of a list is set to false, or was true: it keeps no more than the list
pub set_fewer : (keep : List Bool) (n : ℕ) (b : Bool) → n < length keep → (b ≡ true → get_or keep n false ≡ true) → IsFewer (set keep n b) keep
set_fewer keep n b inside was line stands = grind (arith, get_or-set_at, get_or-set_other)

-- an entry that is set to true keeps no less
pub set_more : (keep : List Bool) (n : ℕ) → n < length keep → IsFewer keep (set keep n true)
set_more keep n inside line stands = grind (arith, get_or-set_at, get_or-set_other)

-- a line is left out of both
pub without_fewer : (fewer more : List Bool) (n : ℕ) → n < length fewer → IsFewer fewer more → IsFewer (lines_without fewer n) (lines_without more n)
without_fewer fewer more n inside falls line stands = elim (eqb_tells line n) [
  | inl same ↦ absurd (false≢true (sym (get_or-set_at fewer n line false false same.1 inside) ∙ stands))
  | inr other ↦ get_or-set_other more n line false false other.1
      ∙ falls line (sym (get_or-set_other fewer n line false false other.1) ∙ stands)
]

-- ---- the lines of a core

-- a line of a core with one more is one of them, or that one
pub has_line-push : (core : List Kept) (kept : Kept) (line : ℕ) → has_line (core ++ kept ∷ []) line ≡ (has_line core line || (kept.index == line))
has_line-push core kept line =
    list_any-append (λ (k : Kept). k.index == line) core (kept ∷ []) ∙ ap (λ (b : Bool). has_line core line || b) (or-false (kept.index == line))

-- a core of lines below doesn't have this one
pub has_line_none : (core : List Kept) (n : ℕ) → All (λ (kept : Kept). kept.index < n) core → has_line core n ≡ false
has_line_none core n below = list_any_none (λ (k : Kept). k.index == n) core (λ k d h. let low = below k d h in ne_eqb (get_or core k d).index n (λ e. omega (arith, low, e)))

-- rising numbers, and a larger one behind them
rising-push : (xs : List ℕ) (x : ℕ) → ((k : ℕ) → k < length xs → get_or xs k 0 < x) → IsStrictlyIncreasing xs → IsStrictlyIncreasing (xs ++ x ∷ [])
rising-push xs x below rises k h =
    let long : length (xs ++ x ∷ []) ≡ length xs + 1 = length-append xs (x ∷ []) in
    let first : get_or (xs ++ x ∷ []) k 0 ≡ get_or xs k 0 = get_or_append_left xs (x ∷ []) 0 k (omega (arith, h, long)) in
    elim (eqb_tells (k + 1) (length xs)) [
      | inl same ↦
          (let last : get_or (xs ++ x ∷ []) (k + 1) 0 ≡ x = ap (λ (n : ℕ). get_or (xs ++ x ∷ []) n 0) same.1 ∙ get_or-append_seam xs x [] 0 in
          let low = below k (omega (arith, same.1)) in omega (arith, first, last, low))
      | inr other ↦
          (let inside : k + 1 < length xs = omega (arith, h, long, other.1) in
          let next : get_or (xs ++ x ∷ []) (k + 1) 0 ≡ get_or xs (k + 1) 0 = get_or_append_left xs (x ∷ []) 0 (k + 1) inside in
          let up = rises k inside in omega (arith, first, next, up))
    ]

-- lines that rise, and one behind them
pub rises-push : (core : List Kept) (kept : Kept) → All (λ (k : Kept). k.index < kept.index) core → IsStrictlyIncreasing (map (λ (k : Kept). k.index) core)
    → IsStrictlyIncreasing (map (λ (k : Kept). k.index) (core ++ kept ∷ []))
rises-push core kept below rises =
    subst IsStrictlyIncreasing (sym (map-append (λ (k : Kept). k.index) core (kept ∷ [])))
    (rising-push (map (λ (k : Kept). k.index) core) kept.index
    (λ k h. let inside : k < length core = omega (arith, h, length-map core (λ (x : Kept). x.index)) in
    let low = below k kept inside in
    omega (arith, low, get_or-map (λ (x : Kept). x.index) core k kept 0 inside)) rises)

-- it holds of each element of a list of one
all_one : (P : Kept → Type 0) (x : Kept) → P x → All P (x ∷ [])
all_one P x holds k d h = let first : 0 ≡ k = omega (arith, h) in subst (λ (n : ℕ). P (get_or (x ∷ []) n d)) first holds

-- ---- lines looked at in turn

-- what holds once the first lines were looked at
pub record IsTriedTo (v : PinnedView) (n : ℕ) (s : TrialView) : Type 0 where
  pub long : length s.keep ≡ v.lines
  pub ahead : (line : ℕ) → n ≤ line → line < v.lines → get_or s.keep line false ≡ true
  pub behind : (line : ℕ) → line < n → get_or s.keep line false ≡ has_line s.core line
  pub rises : IsStrictlyIncreasing (map (λ (kept : Kept). kept.index) s.core)
  pub below : All (λ (kept : Kept). kept.index < n) s.core
  pub none : HasMap (v.problem_of s.keep) → ⊥
  pub needed : (kept : Kept) → Contains s.core kept → kept.mark ≡ Needed → HasMap (v.problem_of (lines_without s.keep kept.index))

-- before the first, where all lines have no map
pub tried_none : (v : PinnedView) → (HasMap (v.problem_of (all_lines v.lines)) → ⊥) → IsTriedTo v 0 (record { keep = all_lines v.lines; core = [] })
tried_none v none = record {
  long = length-replicate v.lines true;
  ahead = λ line low inside. get_or-replicate v.lines line true false inside;
  behind = λ line h. absurd (omega (arith, h));
  rises = λ k h. absurd (omega (arith, h));
  below = λ k d h. absurd (omega (arith, h));
  none = none;
  needed = λ kept h. absurd (omega (arith, h.1));
}

-- a line is dropped
dropped : (v : PinnedView) → IsPinned v → (n : ℕ) (s : TrialView) → n < v.lines → IsTriedTo v n s → (HasMap (v.problem_of (lines_without s.keep n)) → ⊥)
    → IsTriedTo v (suc n) (trial_with s n None)
dropped v p n s inside was none = record {
  long = length-set s.keep n false ∙ was.long;
  ahead = λ line low h. get_or-set_other s.keep n line false false (omega (arith, low)) ∙ was.ahead line (omega (arith, low)) h;
  behind = λ line h. elim (eqb_tells line n) [
    | inl same ↦ get_or-set_at s.keep n line false false same.1 (omega (arith, inside, was.long))
        ∙ sym (ap (has_line s.core) same.1 ∙ has_line_none s.core n was.below)
    | inr other ↦ get_or-set_other s.keep n line false false other.1 ∙ was.behind line (omega (arith, h, other.1))
  ];
  rises = was.rises;
  below = λ k d h. let b = was.below k d h in omega (arith, b);
  none = none;
  needed = λ kept h mark. let low : kept.index < n = All-contains (λ (k : Kept). k.index < n) s.core kept was.below h in
      map_falls v p (lines_without (lines_without s.keep n) kept.index) (lines_without s.keep kept.index)
      (length-set (lines_without s.keep n) kept.index false ∙ length-set s.keep n false ∙ was.long) (length-set s.keep kept.index false ∙ was.long)
      (without_fewer (lines_without s.keep n) s.keep kept.index (omega (arith, low, inside, was.long, length-set s.keep n false))
      (set_fewer s.keep n false (omega (arith, inside, was.long)) (λ e. absurd (false≢true e))))
      (was.needed kept h mark);
}

-- a line stays
stayed : (v : PinnedView) → IsPinned v → (n : ℕ) (s : TrialView) (mark : Mark) → n < v.lines → IsTriedTo v n s → (mark ≡ Needed → HasMap (v.problem_of (lines_without s.keep n)))
    → IsTriedTo v (suc n) (trial_with s n (Some mark))
stayed v p n s mark inside was has = record {
  long = as_long;
  ahead = λ line low h. get_or-set_other s.keep n line true false (omega (arith, low)) ∙ was.ahead line (omega (arith, low)) h;
  behind = λ line h. elim (eqb_tells line n) [
    | inl same ↦ get_or-set_at s.keep n line true false same.1 room
        ∙ sym (has_line-push s.core here line ∙ ap (λ b. has_line s.core line || b) (eq-eqb n line (sym same.1)) ∙ or-true (has_line s.core line))
    | inr other ↦ get_or-set_other s.keep n line true false other.1 ∙ was.behind line (omega (arith, h, other.1))
        ∙ sym (has_line-push s.core here line ∙ ap (λ b. has_line s.core line || b) (ne_eqb n line (λ e. other.1 (sym e))) ∙ or-false (has_line s.core line))
  ];
  rises = rises-push s.core here was.below was.rises;
  below = All-append (λ (kept : Kept). kept.index < suc n) s.core (here ∷ []) (λ k d h. let b = was.below k d h in omega (arith, b)) (all_one (λ (kept : Kept). kept.index < suc n) here (omega arith));
  none = λ found. was.none (map_falls v p s.keep (set s.keep n true) was.long as_long (set_more s.keep n room) found);
  needed = λ kept h is. elim (Contains-append_cases s.core (here ∷ []) kept h) [
    | inl old ↦ again kept.index (omega (arith, All-contains (λ (k : Kept). k.index < n) s.core kept was.below old, room)) (was.needed kept old is)
    | inr new ↦ elim (Contains_cases here [] kept new) [
      | inl same ↦ subst (λ (k : Kept). HasMap (v.problem_of (lines_without (set s.keep n true) k.index))) same
          (again n room (has (ap (λ (k : Kept). k.mark) same ∙ is)))
      | inr none ↦ absurd (Contains_none kept none)
    ]
  ];
}
  where
    here : Kept
    here = record { index = n; mark = mark }

    as_long : length (set s.keep n true) ≡ v.lines
    as_long = length-set s.keep n true ∙ was.long

    room : n < length s.keep
    room = omega (arith, inside, was.long)

    again : (i : ℕ) → i < length s.keep → HasMap (v.problem_of (lines_without s.keep i)) → HasMap (v.problem_of (lines_without (set s.keep n true) i))
    again i low found = map_falls v p (lines_without (set s.keep n true) i) (lines_without s.keep i)
        (length-set (set s.keep n true) i false ∙ as_long) (length-set s.keep i false ∙ was.long)
        (without_fewer (set s.keep n true) s.keep i (omega (arith, low, length-set s.keep n true))
        (set_fewer s.keep n true room (λ e. was.ahead n (omega arith) inside))) found

-- a line is looked at
pub tried_next : (v : PinnedView) → IsPinned v → (rule : Rule) (budget : ℕ) (words : Stream) (n : ℕ) (s : TrialView) → n < v.lines → IsTriedTo v n s
    → IsTriedTo v (suc n) (next_trial (outcome_with v rule budget words) s n)
tried_next v p rule budget words n s inside was = by_outcome (outcome_with v rule budget words (lines_without s.keep n)) refl
  where
    problem : IsProblem (v.problem_of (lines_without s.keep n))
    problem = p.problem (lines_without s.keep n) (length-set s.keep n false ∙ was.long)

    by_outcome : (o : Outcome) → outcome_with v rule budget words (lines_without s.keep n) ≡ o → IsTriedTo v (suc n) (trial_with s n (outcome_mark o))
    by_outcome outcome.Map is = stayed v p n s Needed inside was (λ e. outcome_has (v.problem_of (lines_without s.keep n)) problem rule budget words is)
    by_outcome outcome.NoMap is = dropped v p n s inside was (outcome_lacks (v.problem_of (lines_without s.keep n)) problem rule budget words is)
    by_outcome outcome.Spent is = stayed v p n s Undecided inside was (λ e. cc)

-- all that come first
pub tried_first : (v : PinnedView) → IsPinned v → (rule : Rule) (budget : ℕ) (words : Stream) → (HasMap (v.problem_of (all_lines v.lines)) → ⊥) → (n : ℕ) → n ≤ v.lines
    → IsTriedTo v n (trial_after (outcome_with v rule budget words) v.lines n)
tried_first v p rule budget words none zero h = tried_none v none
tried_first v p rule budget words none (suc n) h =
    tried_next v p rule budget words n (trial_after (outcome_with v rule budget words) v.lines n) (omega (arith, h)) (tried_first v p rule budget words none n (omega (arith, h)))

-- once all were looked at, those that are kept are those of the core
kept_only : (v : PinnedView) (s : TrialView) → IsTriedTo v v.lines s → s.keep ≡ core_lines v.lines s.core
kept_only v s was = ext_get_or false s.keep (core_lines v.lines s.core) (was.long ∙ sym (length-map-range_with_len (has_line s.core) 0 v.lines))
    (λ i h. was.behind i (omega (arith, h, was.long)) ∙ sym (get_or-map-range_with_len (has_line s.core) 0 v.lines i i false (omega (arith, h, was.long)) (omega arith)))

core_true : (v : PinnedView) (s : TrialView) → IsTriedTo v v.lines s → IsTrueCore v s.core
core_true v s was = record {
  rises = was.rises;
  inside = was.below;
  none = subst (λ (keep : List Bool). HasMap (v.problem_of keep) → ⊥) (kept_only v s was) was.none;
  needed = λ kept h mark. subst (λ (keep : List Bool). HasMap (v.problem_of (lines_without keep kept.index))) (kept_only v s was) (was.needed kept h mark);
}

-- ---- what an explanation says

-- it is true
pub explained_true : (v : PinnedView) → IsPinned v → (rule : Rule) (budget : ℕ) (words : Stream) → IsTrueExplained v (explanation_of v rule budget words)
unfolding core_of
explained_true v p rule budget words = by_outcome (outcome_with v rule budget words (all_lines v.lines)) refl
  where
    problem : IsProblem (v.problem_of (all_lines v.lines))
    problem = p.problem (all_lines v.lines) (length-replicate v.lines true)

    by_outcome : (o : Outcome) → outcome_with v rule budget words (all_lines v.lines) ≡ o → IsTrueExplained v (explanation_by o (core_of v rule budget words))
    by_outcome outcome.Map is = outcome_has (v.problem_of (all_lines v.lines)) problem rule budget words is
    by_outcome outcome.NoMap is = core_true v (trial_after (outcome_with v rule budget words) v.lines v.lines)
        (tried_first v p rule budget words (outcome_lacks (v.problem_of (all_lines v.lines)) problem rule budget words is) v.lines (omega arith))
    by_outcome outcome.Spent is = tt
