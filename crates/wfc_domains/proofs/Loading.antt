-- The counters set one after another.
use Rattle.std.proofs.Common.{◌≡◌, ℕ, ◌+◌, ◌-◌, ◌*◌, ◌%◌, ◌<◌, ◌≤◌, ◌⊎◌, Bool, Some, refl, List, length, get_or, set, sym, ◌∙◌, ap, subst, arith, inl, inr}
use Rattle.std.specs.Prelude.{count_by, filter, slice_index}
use Rattle.std.specs.List.{range_with_len}
use Rattle.std.proofs.lemmas.Bool.{cases_eq, cases_lt}
use Rattle.std.proofs.Math.Nat.{mul-le-mul_right}
use Rattle.std.proofs.lemmas.List.{length-set, get_or-set_same, get_or-set_other, get_or_past}
use Rattle.std.proofs.lemmas.Nat.{mul-add-lt}
use Rattle.std.proofs.lemmas.List.Sums.{length-filter}
use Rattle.std.proofs.lemmas.List.FromFn.{length-range_with_len}
use Rattle.wfc_lists.proofs.Counts.{count_by_all, count_by_whole}
use Rattle.wfc_lists.proofs.Ranges.{range_at}
use Rattle.wfc_problem.specs.Network.{Network, values, neighbour, supports_of, IsProblem}
use Rattle.wfc_problem.specs.Domains.{Test, count_at, support_count}
use Rattle.wfc_log.specs.Domains.{Flags, has, size_of}
use Rattle.wfc_domains.specs.Counters.{Table, with_count, entry_of, counts_of, count_place, counter_place}
use Rattle.wfc_domains.specs.Halves.{entries_from}
use Rattle.wfc_domains.specs.Singles.{IsCountSplit, LimitedEntries}
use Rattle.wfc_domains.specs.Forms.{table_with}
use Rattle.wfc_domains.specs.Loaded.{AreLoaded, IsSurrounded, HaveSameSupports, IsCopied, IsRowCopied}
use Rattle.wfc_domains.proofs.HalfLemmas.{halves-length, same-entry}
use Rattle.wfc_domains.proofs.Problems.{supports-below}
use Rattle.wfc_domains.proofs.Places.{place-same, place_in-lt, place-is, counts_are}

-- one more
pub loaded_more : (P : Network) (D : Test) (T T' : Table) (c v d count : ℕ) → AreLoaded P D T (counter_place P c v d) → c < P.cells → v < values P → d < P.dirs → count ≡ support_count P D c v d → T' ≡ with_count T c v d count
    → AreLoaded P D T' (counter_place P c v (d + 1))
loaded_more P D T T' c v d count h hc hv hd is e = subst (λ t. AreLoaded P D t (counter_place P c v (d + 1))) (sym e) (record {
  fits = record {
    same_cells = h.fits.same_cells;
    same_values = h.fits.same_values;
    same_dirs = h.fits.same_dirs;
    few = h.fits.few;
    whole = length-set T.counts (count_place T.values T.dirs c v d) count ∙ h.fits.whole;
  };
  below = λ c' v' d' hc' hv' hd' l.
      let i = count_place T.values T.dirs c v d in
      let j = count_place T.values T.dirs c' v' d' in
      elim (cases_eq (counter_place P c' v' d') (counter_place P c v d)) [
        | inl same ↦
            let which = place-same P c' v' d' c v d hv' hv hd' hd same in
            let inside : i < length T.counts = omega (arith, place_in-lt (values P) P.dirs c v d P.cells hc hv hd, place-is P T h.fits c v d, h.fits.whole) in
            ap (λ x. get_or (set T.counts i count) x 0) (sym (place-is P T h.fits c' v' d') ∙ same ∙ place-is P T h.fits c v d) ∙ get_or-set_same T.counts i count 0 inside ∙ is
            ∙ sym (ap (λ x. support_count P D x v' d') which.0 ∙ ap (λ x. support_count P D c x d') which.1 ∙ ap (support_count P D c v) which.2)
        | inr ne ↦
            get_or-set_other T.counts i j count 0 (λ f. ne (place-is P T h.fits c' v' d' ∙ f ∙ sym (place-is P T h.fits c v d)))
            ∙ h.below c' v' d' hc' hv' hd' (omega arith)
      ];
})

-- all of them
pub loaded_all : (P : Network) (D : Test) (T : Table) (c : ℕ) → AreLoaded P D T (counter_place P c 0 0) → P.cells ≤ c → T ≡ counts_of P D T.limit
loaded_all P D T c h l =
    let rows : P.cells * values P ≤ c * values P + 0 = omega (arith, mul-le-mul_right (values P) l) in
    let all : (P.cells * values P) * P.dirs ≤ (c * values P + 0) * P.dirs = mul-le-mul_right P.dirs rows in
    counts_are P D T h.fits (λ c' v' d' hc hv hd. h.below c' v' d' hc hv hd (omega (arith, all, place_in-lt (values P) P.dirs c' v' d' P.cells hc hv hd)))

-- where all values stand at a cell, each list of values is counted whole
pub full-count : (n : ℕ) (p : ℕ → Bool) (xs : List ℕ) → length (filter p (range_with_len 0 n)) ≡ n → ((k e : ℕ) → k < length xs → get_or xs k e < n) → count_by p xs ≡ length xs
full-count n p xs whole small = count_by_all p xs (λ k d l.
    let v = get_or xs k d in
    let hv = small k d l in
    let all : count_by p (range_with_len 0 n) ≡ length (range_with_len 0 n) = sym (length-filter p (range_with_len 0 n)) ∙ whole ∙ sym (length-range_with_len 0 n) in
    let here = count_by_whole p (range_with_len 0 n) all v 0 (omega (arith, length-range_with_len 0 n)) in
    ap p (sym (range_at n v hv)) ∙ here)

-- where all values stand at the neighbour, all supports stand there
pub full-support : (P : Network) → IsProblem P → (D : Flags) (c v d n : ℕ) → d < P.dirs → neighbour P c d ≡ Some n → size_of D n ≡ D.values → D.values ≡ values P
    → support_count P (has D) c v d ≡ length (supports_of P v d)
full-support P p D c v d n hd beside whole same =
    ap (count_at P (has D) v d) beside
    ∙ full-count D.values (has D n) (supports_of P v d) whole (λ k e l. omega (arith, supports-below P p v d (supports_of P v d) refl hd k e l))

-- where a place of a row stands
pub place_in-row : (n k c v d : ℕ) → count_place n k c v d ≡ c * (n * k) + (v * k + d)
place_in-row n k c v d = omega arith

-- a place before a cell's row is that of an earlier cell, or else it is in the row
pub place-row : (P : Network) (c v d cell : ℕ) → v < values P → d < P.dirs → counter_place P c v d < counter_place P (cell + 1) 0 0 → c ≤ cell
place-row P c v d cell hv hd l = elim (cases_lt cell c) [
  | inl more ↦
      let rows : (cell + 1) * (values P * P.dirs) ≤ c * (values P * P.dirs) = mul-le-mul_right (values P * P.dirs) (let z : cell + 1 ≤ c = omega arith in z) in
      absurd (omega (arith, place_in-row (values P) P.dirs c v d, place_in-row (values P) P.dirs (cell + 1) 0 0))
  | inr l' ↦ l'
]

-- where all supports stand beside two cells, the same stand beside both
pub surrounded-alike : (P : Network) (D : Test) (c c' k : ℕ) → IsSurrounded P D c k → IsSurrounded P D c' k → HaveSameSupports P D c c' k
surrounded-alike P D c c' k h h' v d l = h v d l ∙ sym (h' v d l)

-- a cell's counters copied from an earlier cell, beside which the same supports stand
pub loaded-copied : (P : Network) (D : Test) (T T' : Table) (from to : ℕ) → AreLoaded P D T (counter_place P to 0 0) → from < to → to < P.cells → HaveSameSupports P D from to P.dirs → IsCopied T T' from to
    → AreLoaded P D T' (counter_place P (to + 1) 0 0)
loaded-copied P D T T' from to h earlier to_in alike copy = record {
  fits = record {
    same_cells = copy.same_cells ∙ h.fits.same_cells;
    same_values = copy.same_values ∙ h.fits.same_values;
    same_dirs = copy.same_dirs ∙ h.fits.same_dirs;
    whole = copy.same_length ∙ h.fits.whole;
    few = λ v d. omega (arith, h.fits.few v d, copy.same_limit);
  };
  below = λ c v d hc hv hd l.
      let hv' : v < T.values = omega (arith, h.fits.same_values) in
      let hd' : d < T.dirs = omega (arith, h.fits.same_dirs) in
      elim (cases_lt c to) [
        | inl before ↦ copy.others c v d before hv' hd' ∙ h.below c v d hc hv hd (row-before c v d before hv hd)
        | inr after ↦
            let same : c ≡ to = omega (arith, place-row P c v d to hv hd l) in
            ap (λ x. entry_of T' x v d) same ∙ copy.copied v d hv' hd'
            ∙ h.below from v d (omega arith) hv hd (row-before from v d earlier hv hd) ∙ alike v d hd
            ∙ ap (λ x. support_count P D x v d) (sym same)
      ];
}
  where
    row-before : (c v d : ℕ) → c < to → v < values P → d < P.dirs → counter_place P c v d < counter_place P to 0 0
    row-before c v d l hv hd = omega (arith, place_in-lt (values P) P.dirs c v d to l hv hd)

-- the entries of a cell's row
pub row_some : (n k cell : ℕ) (xs : List ℕ) → ((i : ℕ) → i < n * k → 0 < slice_index xs (cell * (n * k) + i) % 32768) → (v d : ℕ) → v < n → d < k → 0 < slice_index xs (count_place n k cell v d) % 32768
row_some n k cell xs h v d hv hd = subst (λ p. 0 < slice_index xs p % 32768) (sym (place_in-row n k cell v d)) (h (v * k + d) (omega (arith, mul-add-lt v k d n hv hd)))

-- a row fits at each cell
pub row-in : (n k cells from to places : ℕ) → places ≡ (cells * n) * k → to < cells → to * (n * k) + (from * (n * k) + n * k - from * (n * k)) ≤ places
row-in n k cells from to places whole h =
    let rows : (to + 1) * (n * k) ≤ cells * (n * k) = mul-le-mul_right (n * k) (let z : to + 1 ≤ cells = omega arith in z) in
    omega arith

-- where no number stands a row is copied of itself
pub row_none : (ls : List ℕ) (start row dest : ℕ) → length ls ≡ 0 → IsRowCopied ls ls start row dest
row_none ls start row dest none = record {
  copied = λ i l. get_or_past ls (dest + i) 0 (omega arith) ∙ sym (get_or_past ls (start + i) 0 (omega arith));
  below = λ i l. refl;
  behind = λ i l. refl;
  same_length = refl;
}

-- entries of which both parts were copied
pub copied-entries : (ss ss' ls ls' : List ℕ) (start row dest : ℕ) → (length ls ≡ 0) ⊎ (length ls ≡ length ss) → start + row ≤ dest → dest + row ≤ length ss → IsRowCopied ss ss' start row dest → IsRowCopied ls ls' start row dest
    → IsRowCopied (entries_from ss ls) (entries_from ss' ls') start row dest
copied-entries ss ss' ls ls' start row dest both before inside cs cl = record {
  copied = λ i l. same-entry ss ls ss' ls' (dest + i) (start + i) (omega (arith, l, inside, cs.same_length)) (omega (arith, l, before, inside)) cs.same_length cl.same_length both (cs.copied i l) (cl.copied i l);
  below = λ i l. kept i (cs.below i l) (cl.below i l);
  behind = λ i l. kept i (cs.behind i l) (cl.behind i l);
  same_length = long;
}
  where
    long : length (entries_from ss' ls') ≡ length (entries_from ss ls)
    long = halves-length ss' ls' ∙ cs.same_length ∙ sym (halves-length ss ls)

    kept : (i : ℕ) → get_or ss' i 0 ≡ get_or ss i 0 → get_or ls' i 0 ≡ get_or ls i 0 → get_or (entries_from ss' ls') i 0 ≡ get_or (entries_from ss ls) i 0
    kept i small large = elim (cases_lt i (length ss)) [
      | inl l ↦ same-entry ss ls ss' ls' i i (omega (arith, l, cs.same_length)) l cs.same_length cl.same_length both small large
      | inr past ↦ get_or_past (entries_from ss' ls') i 0 (omega (arith, past, long, halves-length ss ls)) ∙ sym (get_or_past (entries_from ss ls) i 0 (omega (arith, past, halves-length ss ls)))
    ]

-- a cell's entries that were copied to another
pub copied-table : (n k cells from to : ℕ) (e e' : LimitedEntries) → length e.entries ≡ (cells * n) * k → to < cells → e'.limit ≡ e.limit → IsRowCopied e.entries e'.entries (from * (n * k)) (n * k) (to * (n * k))
    → IsCopied (table_with cells n k e) (table_with cells n k e') from to
copied-table n k cells from to e e' whole ht limits h = record {
  same_cells = refl;
  same_values = refl;
  same_dirs = refl;
  same_limit = limits;
  same_length = h.same_length;
  copied = λ v d hv hd.
      let j = v * k + d in
      let hj : j < n * k = omega (arith, mul-add-lt v k d n hv hd) in
      ap (slice_index e'.entries) (place_in-row n k to v d) ∙ h.copied j hj ∙ ap (slice_index e.entries) (sym (place_in-row n k from v d));
  others = λ c v d hc hv hd. h.below (count_place n k c v d) (omega (arith, place_in-lt n k c v d to hc hv hd, place_in-row n k to 0 0));
}

-- parts that were copied
pub split-copied : (ss ss' ls ls' : List ℕ) (start row dest : ℕ) → IsRowCopied ss ss' start row dest → IsRowCopied ls ls' start row dest → ((i : ℕ) → IsCountSplit (get_or ss i 0) (get_or ls i 0)) → (i : ℕ) → IsCountSplit (get_or ss' i 0) (get_or ls' i 0)
split-copied ss ss' ls ls' start row dest hs hl each i = elim (cases_lt i dest) [
  | inl l ↦ moved i i (hs.below i l) (hl.below i l)
  | inr l ↦ elim (cases_lt i (dest + row)) [
    | inl l' ↦
        let at : dest + (i - dest) ≡ i = omega arith in
        moved i (start + (i - dest)) (ap (λ x. get_or ss' x 0) (sym at) ∙ hs.copied (i - dest) (omega arith)) (ap (λ x. get_or ls' x 0) (sym at) ∙ hl.copied (i - dest) (omega arith))
    | inr l' ↦ moved i i (hs.behind i l') (hl.behind i l')
  ]
]
  where
    moved : (i j : ℕ) → get_or ss' i 0 ≡ get_or ss j 0 → get_or ls' i 0 ≡ get_or ls j 0 → IsCountSplit (get_or ss' i 0) (get_or ls' i 0)
    moved i j small large = subst (λ x. IsCountSplit x (get_or ls' i 0)) (sym small) (subst (IsCountSplit (get_or ss j 0)) (sym large) (each j))
