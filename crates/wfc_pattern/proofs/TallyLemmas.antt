-- The windows of a list, each once, with its number of times.
use Rattle.std.proofs.Common.{◌≡◌, ℕ, zero, suc, ◌+◌, ◌-◌, ◌≤◌, Bool, true, false, not, cond, ◌||◌, List, [], ◌∷◌, ◌++◌, length, map, filter, fold, refl, sym, subst, ap, ◌∙◌, arith, append_assoc, if◌then◌else◌, nat_eq}
use Rattle.std.specs.List.{list_any, AllByRecursion, IsDistinct}
use Rattle.std.proofs.lemmas.Bool.{or_parts, or_left}
use Rattle.std.proofs.lemmas.List.{append-nil}
use Rattle.std.proofs.lemmas.List.Sums.{sum_by-cons, sum_by_push, fold-append}
use Rattle.std.specs.Cmp.Lexicographic.{pointwise}
use Rattle.wfc_lists.specs.WithoutRepeats.{without_repeats, with_new}
use Rattle.wfc_model.specs.Learned.{weight_of}
use Rattle.wfc_model.proofs.LearnedLemmas.{same_window-Decides}
use Rattle.wfc_lists.proofs.WithoutRepeats.{flips, list_any-filter, unrepeated_push, IsDistinct-without_repeats}
use Rattle.wfc_pattern.specs.Tally.{recount, window_counts, total}

pub sound : (v w : List ℕ) → pointwise nat_eq v w ≡ true → v ≡ w
sound v w = (same_window-Decides v w).0

pub whole : (w : List ℕ) → pointwise nat_eq w w ≡ true
whole w = (same_window-Decides w w).1 refl

-- one more window is one more count
pub total-noted : (es : List (List ℕ × ℕ)) (w : List ℕ) → total (recount es w) ≡ total es + 1
total-noted [] w = refl
total-noted (e ∷ es) w = by (pointwise nat_eq w e.0) refl (total-noted es w)
  where
    by : (b : Bool) → pointwise nat_eq w e.0 ≡ b → total (recount es w) ≡ total es + 1 → total (recount (e ∷ es) w) ≡ total (e ∷ es) + 1
    by true same rest =
        ap (λ b. total (if b then (e.0, e.1 + 1) ∷ es else e ∷ recount es w)) same
        ∙ omega (arith, sum_by-cons (λ (p : List ℕ × ℕ). p.1) (e.0, e.1 + 1) es, sum_by-cons (λ (p : List ℕ × ℕ). p.1) e es)
    by false other rest =
        ap (λ b. total (if b then (e.0, e.1 + 1) ∷ es else e ∷ recount es w)) other
        ∙ omega (arith, rest, sum_by-cons (λ (p : List ℕ × ℕ). p.1) e (recount es w), sum_by-cons (λ (p : List ℕ × ℕ). p.1) e es)

-- and no fewer windows
length-noted : (es : List (List ℕ × ℕ)) (w : List ℕ) → length es ≤ length (recount es w)
length-noted [] w = omega arith
length-noted (e ∷ es) w = by (pointwise nat_eq w e.0) (length-noted es w)
  where
    by : (b : Bool) → length es ≤ length (recount es w) → length (e ∷ es) ≤ length (if b then (e.0, e.1 + 1) ∷ es else e ∷ recount es w)
    by true more = omega arith
    by false more = omega arith

length-fold : (es : List (List ℕ × ℕ)) (ws : List (List ℕ)) → length es ≤ length (fold recount es ws)
length-fold es [] = omega arith
length-fold es (w ∷ ws) = omega (arith, length-fold (recount es w) ws, length-noted es w)

-- what is noted of longer and longer lists
pub fold_grows : (list more : ℕ → List (List ℕ)) → ((k : ℕ) → list (k + 1) ≡ list k ++ more k) → (start : List (List ℕ × ℕ)) (k j : ℕ) → k ≤ j → length (fold recount start (list k)) ≤ length (fold recount start (list j))
fold_grows list more step start k j upto = by (j - k) (omega arith)
  where
    further : (d : ℕ) → length (fold recount start (list k)) ≤ length (fold recount start (list (k + d)))
    further zero = let same : k + 0 ≡ k = omega arith in subst (λ i. length (fold recount start (list k)) ≤ length (fold recount start (list i))) (sym same) (omega arith)
    further (suc d) =
        let next : k + suc d ≡ k + d + 1 = omega arith in
        let grown : length (fold recount start (list (k + d))) ≤ length (fold recount start (list (k + d + 1))) =
        subst (λ es. length (fold recount start (list (k + d))) ≤ length es) (sym (ap (fold recount start) (step (k + d)) ∙ fold-append recount start (list (k + d)) (more (k + d)))) (length-fold (fold recount start (list (k + d))) (more (k + d))) in
        subst (λ i. length (fold recount start (list k)) ≤ length (fold recount start (list i))) (sym next) (omega (arith, further d, grown))

    by : (d : ℕ) → k + d ≡ j → length (fold recount start (list k)) ≤ length (fold recount start (list j))
    by d is = subst (λ i. length (fold recount start (list k)) ≤ length (fold recount start (list i))) is (further d)

pub total-fold : (es : List (List ℕ × ℕ)) (ws : List (List ℕ)) → total (fold recount es ws) ≡ total es + length ws
total-fold es [] = omega arith
total-fold es (w ∷ ws) = omega (arith, total-fold (recount es w) ws, total-noted es w)

-- a window that isn't among those without repeats stands nowhere
none_there : (x : List ℕ) (ws : List (List ℕ)) → list_any (pointwise nat_eq x) (without_repeats (pointwise nat_eq) ws) ≡ false → weight_of ws x ≡ 0
none_there x [] new = refl
none_there x (w ∷ ws) new =
    let parts = or_parts (pointwise nat_eq x w) (list_any (pointwise nat_eq x) (filter (λ v. not (pointwise nat_eq w v)) (without_repeats (pointwise nat_eq) ws))) new in
    let later : list_any (pointwise nat_eq x) (without_repeats (pointwise nat_eq) ws) ≡ false = sym (list_any-filter (pointwise nat_eq) sound whole x w parts.0 (without_repeats (pointwise nat_eq) ws)) ∙ parts.1 in
    let here : cond (pointwise nat_eq x w) 1 0 ≡ zero = ap (λ (b : Bool). let n : ℕ = cond b 1 0 in n) parts.0 in
    omega (arith, sum_by-cons (λ v. cond (pointwise nat_eq x v) 1 0) w ws, none_there x ws later, here)

abbrev counted : (List ℕ → ℕ) → List ℕ → List ℕ × ℕ
counted c w = (w, c w)

-- the counts, with one more for x
abbrev raised : (List ℕ → ℕ) → List ℕ → List ℕ → ℕ
raised c x w = c w + cond (pointwise nat_eq w x) 1 0

kept : (c : List ℕ → ℕ) (w x : List ℕ) → pointwise nat_eq w x ≡ false → raised c x w ≡ c w
kept c w x other = let none : cond (pointwise nat_eq w x) 1 0 ≡ zero = ap (λ (b : Bool). let n : ℕ = cond b 1 0 in n) other in omega (arith, none)

own : (c : List ℕ → ℕ) (w x : List ℕ) → pointwise nat_eq w x ≡ true → c w + 1 ≡ raised c x w
own c w x same = sym (ap (λ (b : Bool). let n : ℕ = c w + cond b 1 0 in n) same)

unmoved : (c : List ℕ → ℕ) (x : List ℕ) (ks : List (List ℕ)) → AllByRecursion (λ v. pointwise nat_eq x v ≡ false) ks → map (counted (raised c x)) ks ≡ map (counted c) ks
unmoved c x [] others = refl
unmoved c x (k ∷ ks) others =
    ap (λ (n : ℕ). let entry : List ℕ × ℕ = (k, n) in entry ∷ map (counted (raised c x)) ks) (kept c k x (flips (pointwise nat_eq) sound whole x k others.0))
    ∙ ap (λ more. counted c k ∷ more) (unmoved c x ks others.1)

-- where each count is as said, and a new one is 0, noting one more raises its own count by one
noted_counts : (c : List ℕ → ℕ) (x : List ℕ) (ks : List (List ℕ)) → IsDistinct (pointwise nat_eq) ks → (list_any (pointwise nat_eq x) ks ≡ false → c x ≡ 0) → recount (map (counted c) ks) x ≡ map (counted (raised c x)) (with_new (pointwise nat_eq) ks x)
unfolding IsDistinct
noted_counts c x [] apart none =
    let one : 1 ≡ raised c x x = omega (arith, none refl, own c x x (whole x)) in
    ap (λ (n : ℕ). let entry : List ℕ × ℕ = (x, n) in entry ∷ []) one
noted_counts c x (k ∷ ks) apart none = by (pointwise nat_eq x k) refl (noted_counts c x ks apart.1)
  where
    -- a new one goes behind a head that it isn't
    behind : (b : Bool) → list_any (pointwise nat_eq x) ks ≡ b → pointwise nat_eq x k ≡ false → with_new (pointwise nat_eq) (k ∷ ks) x ≡ k ∷ with_new (pointwise nat_eq) ks x
    behind true there other =
        ap (λ t. if t then k ∷ ks else (k ∷ ks) ++ x ∷ []) (ap (λ t. t || list_any (pointwise nat_eq x) ks) other ∙ there)
        ∙ sym (ap (λ t. k ∷ (if t then ks else ks ++ x ∷ [])) there)
    behind false new other =
        ap (λ t. if t then k ∷ ks else (k ∷ ks) ++ x ∷ []) (ap (λ t. t || list_any (pointwise nat_eq x) ks) other ∙ new)
        ∙ sym (ap (λ t. k ∷ (if t then ks else ks ++ x ∷ [])) new)

    entry : ℕ → List ℕ × ℕ
    entry n = (k, n)

    by : (b : Bool) → pointwise nat_eq x k ≡ b → ((list_any (pointwise nat_eq x) ks ≡ false → c x ≡ 0) → recount (map (counted c) ks) x ≡ map (counted (raised c x)) (with_new (pointwise nat_eq) ks x)) → recount (map (counted c) (k ∷ ks)) x ≡ map (counted (raised c x)) (with_new (pointwise nat_eq) (k ∷ ks) x)
    by true same rest =
        let is : x ≡ k = sound x k same in
        let others : AllByRecursion (λ v. pointwise nat_eq x v ≡ false) ks = subst (λ u. AllByRecursion (λ v. pointwise nat_eq u v ≡ false) ks) (sym is) apart.0 in
        ap (λ b. if b then entry (c k + 1) ∷ map (counted c) ks else entry (c k) ∷ recount (map (counted c) ks) x) same
        ∙ ap (λ n. entry n ∷ map (counted c) ks) (own c k x (subst (λ v. pointwise nat_eq v x ≡ true) is (whole x)))
        ∙ ap (λ more. entry (raised c x k) ∷ more) (sym (unmoved c x ks others))
        ∙ sym (ap (λ t. map (counted (raised c x)) (if t then k ∷ ks else (k ∷ ks) ++ x ∷ [])) (or_left (pointwise nat_eq x k) (list_any (pointwise nat_eq x) ks) same))
    by false other rest =
        ap (λ b. if b then entry (c k + 1) ∷ map (counted c) ks else entry (c k) ∷ recount (map (counted c) ks) x) other
        ∙ ap (λ more. entry (c k) ∷ more) (rest (λ new. none (ap (λ t. t || list_any (pointwise nat_eq x) ks) other ∙ new)))
        ∙ ap (λ n. entry n ∷ map (counted (raised c x)) (with_new (pointwise nat_eq) ks x)) (sym (kept c k x (flips (pointwise nat_eq) sound whole x k other)))
        ∙ sym (ap (map (counted (raised c x))) (behind (list_any (pointwise nat_eq x) ks) refl other))

pub tallied_push : (ws : List (List ℕ)) (x : List ℕ) → recount (window_counts ws) x ≡ window_counts (ws ++ x ∷ [])
tallied_push ws x =
    let ks = with_new (pointwise nat_eq) (without_repeats (pointwise nat_eq) ws) x in
    noted_counts (weight_of ws) x (without_repeats (pointwise nat_eq) ws) (IsDistinct-without_repeats (pointwise nat_eq) ws) (none_there x ws)
    ∙ ap (λ (c : List ℕ → ℕ). map (counted c) ks) (λ i w. sym (sum_by_push (λ v. cond (pointwise nat_eq w v) 1 0) ws x) i)
    ∙ ap (map (counted (weight_of (ws ++ x ∷ [])))) (sym (unrepeated_push (pointwise nat_eq) sound whole ws x))

pub tallied-fold : (done ws : List (List ℕ)) → fold recount (window_counts done) ws ≡ window_counts (done ++ ws)
tallied-fold done [] = ap window_counts (sym (append-nil done))
tallied-fold done (w ∷ ws) =
    ap (λ es. fold recount es ws) (tallied_push done w) ∙ tallied-fold (done ++ w ∷ []) ws ∙ ap window_counts (append_assoc done (w ∷ []) ws)
