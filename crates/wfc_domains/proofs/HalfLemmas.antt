-- Entries of counters in two parts.
use Rattle.std.proofs.Common.{◌≡◌, ℕ, zero, suc, ◌+◌, ◌-◌, ◌*◌, ◌/◌, ◌%◌, ◌<◌, ◌≤◌, ◌⊎◌, Bool, true, false, List, [], ◌∷◌, ◌++◌, length, get_or, take, drop, map, set, replicate, refl, sym, ◌∙◌, ap, subst, arith, inl, inr}
use Rattle.std.proofs.lemmas.Bool.{cases_lt, cases_eq, cases_Bool, true≢false}
use Rattle.std.proofs.lemmas.List.{get_or-set_same, get_or-set_other, get_or_past, length-set}
use Rattle.std.proofs.lemmas.Nat.{div-mul-add, mod-mul-add, div-add-mod'}
use Rattle.std.proofs.Math.Nat.{mod-lt}
use Rattle.wfc_domains.specs.Changes.{AreChanged}
use Rattle.wfc_domains.specs.Halves.{narrow_entry, wide_entry, entries_from, limit_from}
use Rattle.wfc_domains.specs.Singles.{IsCountSplit}

-- ---- one part alone

small-rest : (s : ℕ) → s % 128 < 128
small-rest s = mod-lt s (let z : 0 < 128 = omega arith in z)

-- a number of whole and rest
narrow-of : (s q r : ℕ) → s ≡ q * 128 + r → r < 128 → narrow_entry s ≡ r + 32768 * q
narrow-of s q r e h =
    let rest : s % 128 ≡ r = ap (λ x. x % 128) e ∙ mod-mul-add q 128 r h in
    let whole : s / 128 ≡ q = ap (λ x. x / 128) e ∙ div-mul-add q 128 r h in
    omega (arith, rest, whole)

narrow-is : (s : ℕ) → s ≡ s / 128 * 128 + s % 128
narrow-is s = sym (div-add-mod' s 128)

-- its count
pub narrow-count : (s : ℕ) → narrow_entry s % 32768 ≡ s % 128
narrow-count s =
    let is : narrow_entry s ≡ s / 128 * 32768 + s % 128 = omega arith in
    ap (λ x. x % 32768) is ∙ mod-mul-add (s / 128) 32768 (s % 128) (omega (arith, small-rest s))

-- one less, and one more
narrow-less : (s : ℕ) → 0 < s % 128 → narrow_entry (s - 1) ≡ narrow_entry s - 1
narrow-less s h = omega (arith, narrow-of (s - 1) (s / 128) (s % 128 - 1) (omega (arith, narrow-is s)) (omega (arith, small-rest s)))

narrow-more : (s : ℕ) → s % 128 < 127 → narrow_entry (s + 1) ≡ narrow_entry s + 1
narrow-more s h = omega (arith, narrow-of (s + 1) (s / 128) (s % 128 + 1) (omega (arith, narrow-is s)) (omega arith))

-- marked, and not
pub narrow-marked : (s : ℕ) → narrow_entry (s % 128 + 128) ≡ narrow_entry s % 32768 + 32768
narrow-marked s = omega (arith, narrow-of (s % 128 + 128) 1 (s % 128) (omega arith) (small-rest s), narrow-count s)

pub narrow-plain : (s : ℕ) → narrow_entry (s % 128) ≡ narrow_entry s % 32768
narrow-plain s = omega (arith, narrow-of (s % 128) 0 (s % 128) (omega arith) (small-rest s), narrow-count s)

-- a count that has no mark
pub narrow-small : (n : ℕ) → n < 128 → narrow_entry n ≡ n
narrow-small n h = omega (arith, narrow-of n 0 n (omega arith) h)

-- an entry of 1
narrow-one : (s : ℕ) → narrow_entry s ≡ 1 → s ≡ 1
narrow-one s e = omega (arith, narrow-is s, small-rest s)

-- ---- all entries

pub halves-length : (ss ls : List ℕ) → length (entries_from ss ls) ≡ length ss
halves-length [] ls = refl
halves-length (s ∷ ss) [] = ap suc (halves-length ss [])
halves-length (s ∷ ss) (l ∷ ls) = ap suc (halves-length ss ls)

-- the entry of a small part alone
pub narrow-at : (ss ls : List ℕ) (i : ℕ) → i < length ss → length ls ≤ i → get_or (entries_from ss ls) i 0 ≡ narrow_entry (get_or ss i 0)
narrow-at [] ls i h past = absurd (omega (arith, h))
narrow-at (s ∷ ss) [] zero h past = refl
narrow-at (s ∷ ss) [] (suc i) h past = narrow-at ss [] i (omega (arith, h)) (omega arith)
narrow-at (s ∷ ss) (l ∷ ls) zero h past = absurd (omega (arith, past))
narrow-at (s ∷ ss) (l ∷ ls) (suc i) h past = narrow-at ss ls i (omega (arith, h)) (omega (arith, past))

-- the entry of both parts
pub wide-at : (ss ls : List ℕ) (i : ℕ) → i < length ss → i < length ls → get_or (entries_from ss ls) i 0 ≡ wide_entry (get_or ss i 0) (get_or ls i 0)
wide-at [] ls i h there = absurd (omega (arith, h))
wide-at (s ∷ ss) [] i h there = absurd (omega (arith, there))
wide-at (s ∷ ss) (l ∷ ls) zero h there = refl
wide-at (s ∷ ss) (l ∷ ls) (suc i) h there = wide-at ss ls i (omega (arith, h)) (omega (arith, there))

-- a small part set that is alone
pub narrow-set : (ss ls : List ℕ) (i x : ℕ) → length ls ≤ i → entries_from (set ss i x) ls ≡ set (entries_from ss ls) i (narrow_entry x)
narrow-set [] ls i x past = refl
narrow-set (s ∷ ss) [] zero x past = refl
narrow-set (s ∷ ss) [] (suc i) x past = ap (λ ys. narrow_entry s ∷ ys) (narrow-set ss [] i x (omega arith))
narrow-set (s ∷ ss) (l ∷ ls) zero x past = absurd (omega (arith, past))
narrow-set (s ∷ ss) (l ∷ ls) (suc i) x past = ap (λ ys. wide_entry s l ∷ ys) (narrow-set ss ls i x (omega (arith, past)))

-- a small part set beside a large one
pub wide-set : (ss ls : List ℕ) (i x : ℕ) → i < length ls → entries_from (set ss i x) ls ≡ set (entries_from ss ls) i (wide_entry x (get_or ls i 0))
wide-set [] ls i x there = refl
wide-set (s ∷ ss) [] i x there = absurd (omega (arith, there))
wide-set (s ∷ ss) (l ∷ ls) zero x there = refl
wide-set (s ∷ ss) (l ∷ ls) (suc i) x there = ap (λ ys. wide_entry s l ∷ ys) (wide-set ss ls i x (omega (arith, there)))

-- both parts set
pub wide-both : (ss ls : List ℕ) (i x y : ℕ) → i < length ls → entries_from (set ss i x) (set ls i y) ≡ set (entries_from ss ls) i (wide_entry x y)
wide-both [] ls i x y there = refl
wide-both (s ∷ ss) [] i x y there = absurd (omega (arith, there))
wide-both (s ∷ ss) (l ∷ ls) zero x y there = refl
wide-both (s ∷ ss) (l ∷ ls) (suc i) x y there = ap (λ ys. wide_entry s l ∷ ys) (wide-both ss ls i x y (omega (arith, there)))

-- entries of the same parts are the same
pub same-entry : (ss ls ss' ls' : List ℕ) (p q : ℕ) → p < length ss' → q < length ss → length ss' ≡ length ss → length ls' ≡ length ls → (length ls ≡ 0) ⊎ (length ls ≡ length ss)
    → get_or ss' p 0 ≡ get_or ss q 0 → get_or ls' p 0 ≡ get_or ls q 0 → get_or (entries_from ss' ls') p 0 ≡ get_or (entries_from ss ls) q 0
same-entry ss ls ss' ls' p q hp hq smalls larges both small large = elim both [
  | inl none ↦ narrow-at ss' ls' p hp (omega (arith, larges, none)) ∙ ap narrow_entry small ∙ sym (narrow-at ss ls q hq (omega (arith, none)))
  | inr same ↦
      wide-at ss' ls' p hp (omega (arith, larges, same, smalls)) ∙ ap (λ x. wide_entry x (get_or ls' p 0)) small ∙ ap (wide_entry (get_or ss q 0)) large
      ∙ sym (wide-at ss ls q hq (omega (arith, same)))
]

-- no count yet
pub halves-zero : (n m : ℕ) → entries_from (replicate n 0) (replicate m 0) ≡ replicate n 0
halves-zero zero m = refl
halves-zero (suc n) zero = ap (λ xs. 0 ∷ xs) (halves-zero n zero)
halves-zero (suc n) (suc m) = ap (λ xs. 0 ∷ xs) (halves-zero n m)

pub set-set : (xs : List ℕ) (i x y : ℕ) → set (set xs i x) i y ≡ set xs i y
set-set [] i x y = refl
set-set (z ∷ xs) zero x y = refl
set-set (z ∷ xs) (suc i) x y = ap (λ ys. z ∷ ys) (set-set xs i x y)

-- ---- the limit

pub limit-set : (ls : List ℕ) (i y : ℕ) → limit_from (set ls i y) ≡ limit_from ls
limit-set [] i y = refl
limit-set (l ∷ ls) zero y = refl
limit-set (l ∷ ls) (suc i) y = refl

pub limit-some : (ls : List ℕ) → 0 < length ls → limit_from ls ≡ 32640
limit-some [] h = absurd (omega (arith, h))
limit-some (l ∷ ls) h = refl

pub limit-none : (ls : List ℕ) → length ls ≡ 0 → limit_from ls ≡ 127
limit-none [] h = refl
limit-none (l ∷ ls) h = absurd (omega (arith, h))

pub none-limit : (ls : List ℕ) → limit_from ls ≡ 127 → length ls ≡ 0
none-limit [] h = refl
none-limit (l ∷ ls) h = absurd (omega (arith, h))

pub limit-length : (ls ls' : List ℕ) → length ls ≡ length ls' → limit_from ls ≡ limit_from ls'
limit-length [] [] h = refl
limit-length [] (l ∷ ls) h = absurd (omega (arith, h))
limit-length (l ∷ ls) [] h = absurd (omega (arith, h))
limit-length (l ∷ ls) (m ∷ ms) h = refl

-- without a large part at a place, there is none
pub past-none : (ss ls : List ℕ) (i : ℕ) → (length ls ≡ 0) ⊎ (length ls ≡ length ss) → i < length ss → length ls ≤ i → length ls ≡ 0
past-none ss ls i both h past = elim both [ inl none ↦ none | inr same ↦ absurd (omega (arith, same)) ]

-- a large part that is not 0 is there
pub large-there : (ls : List ℕ) (i : ℕ) → 0 < get_or ls i 0 → i < length ls
large-there ls i pos = elim (cases_lt i (length ls)) [
  | inl l ↦ l
  | inr past ↦ absurd (omega (arith, get_or_past ls i 0 past))
]

-- ---- parts that are set

-- parts of which the small one is set
pub split-small : (ss ls : List ℕ) (j x : ℕ) → j < length ss → ((i : ℕ) → IsCountSplit (get_or ss i 0) (get_or ls i 0)) → IsCountSplit x (get_or ls j 0) → (i : ℕ) → IsCountSplit (get_or (set ss j x) i 0) (get_or ls i 0)
split-small ss ls j x h each here i = elim (cases_eq i j) [
  | inl same ↦ subst (λ k. IsCountSplit (get_or (set ss j x) k 0) (get_or ls k 0)) (sym same) (subst (λ y. IsCountSplit y (get_or ls j 0)) (sym (get_or-set_same ss j x 0 h)) here)
  | inr ne ↦ subst (λ y. IsCountSplit y (get_or ls i 0)) (sym (get_or-set_other ss j i x 0 ne)) (each i)
]

-- parts of which both are set
pub split-both : (ss ls : List ℕ) (j x y : ℕ) → j < length ss → j < length ls → ((i : ℕ) → IsCountSplit (get_or ss i 0) (get_or ls i 0)) → IsCountSplit x y → (i : ℕ) → IsCountSplit (get_or (set ss j x) i 0) (get_or (set ls j y) i 0)
split-both ss ls j x y h h' each here i = elim (cases_eq i j) [
  | inl same ↦
      subst (λ k. IsCountSplit (get_or (set ss j x) k 0) (get_or (set ls j y) k 0)) (sym same)
      (subst (λ b. IsCountSplit b (get_or (set ls j y) j 0)) (sym (get_or-set_same ss j x 0 h)) (subst (IsCountSplit x) (sym (get_or-set_same ls j y 0 h')) here))
  | inr ne ↦
      subst (λ b. IsCountSplit b (get_or (set ls j y) i 0)) (sym (get_or-set_other ss j i x 0 ne))
      (subst (IsCountSplit (get_or ss i 0)) (sym (get_or-set_other ls j i y 0 ne)) (each i))
]

-- ---- one less

-- with a count there is a small part
pub less-some : (ss ls : List ℕ) (i : ℕ) → i < length ss → IsCountSplit (get_or ss i 0) (get_or ls i 0) → 0 < get_or (entries_from ss ls) i 0 % 32768 → 0 < get_or ss i 0
less-some ss ls i h split pos = elim (cases_lt 0 (get_or ss i 0)) [
  | inl some ↦ some
  | inr l ↦
      let zero_s : get_or ss i 0 ≡ 0 = omega arith in
      elim (cases_lt i (length ls)) [
        | inl there ↦ elim (cases_lt 0 (get_or ls i 0)) [
          | inl large ↦ split.some large
          | inr l' ↦
              let zero_e : get_or (entries_from ss ls) i 0 ≡ 0 = omega (arith, wide-at ss ls i h there) in
              absurd (omega (arith, pos, ap (λ x. x % 32768) zero_e))
        ]
        | inr past ↦
            let e = ap (λ x. x % 32768) (narrow-at ss ls i h past) ∙ narrow-count (get_or ss i 0) ∙ ap (λ x. x % 128) zero_s in
            absurd (omega (arith, pos, e))
      ]
]

-- the entries with one less
pub less-entries : (ss ls : List ℕ) (i : ℕ) → i < length ss → IsCountSplit (get_or ss i 0) (get_or ls i 0) → 0 < get_or (entries_from ss ls) i 0 % 32768
    → entries_from (set ss i (get_or ss i 0 - 1)) ls ≡ set (entries_from ss ls) i (get_or (entries_from ss ls) i 0 - 1)
less-entries ss ls i h split pos =
    let s = get_or ss i 0 in
    let es = entries_from ss ls in
    let some = less-some ss ls i h split pos in
    elim (cases_lt i (length ls)) [
      | inl there ↦
          let at = wide-at ss ls i h there in
          let one : wide_entry (s - 1) (get_or ls i 0) ≡ get_or es i 0 - 1 = omega (arith, at, some) in
          wide-set ss ls i (s - 1) there ∙ ap (set es i) one
      | inr past ↦
          let at = narrow-at ss ls i h past in
          let rest : 0 < s % 128 = omega (arith, pos, ap (λ x. x % 32768) at, narrow-count s) in
          narrow-set ss ls i (s - 1) past ∙ ap (set es i) (narrow-less s rest ∙ ap (λ x. x - 1) (sym at))
    ]

-- the entries with one less, where the small part is filled again
pub less-refilled : (ss ls : List ℕ) (i : ℕ) → i < length ss → get_or ss i 0 ≡ 1 → 0 < get_or ls i 0
    → entries_from (set ss i 255) (set ls i (get_or ls i 0 - 1)) ≡ set (entries_from ss ls) i (get_or (entries_from ss ls) i 0 - 1)
less-refilled ss ls i h one large =
    let there = large-there ls i large in
    let is : wide_entry 255 (get_or ls i 0 - 1) ≡ get_or (entries_from ss ls) i 0 - 1 = omega (arith, wide-at ss ls i h there, one, large) in
    wide-both ss ls i 255 (get_or ls i 0 - 1) there ∙ ap (set (entries_from ss ls) i) is

-- an entry has a small part of 1 and no large one where it is 1
pub one-parts : (ss ls : List ℕ) (i : ℕ) → i < length ss → get_or (entries_from ss ls) i 0 ≡ 1 → (get_or ss i 0 ≡ 1) × (get_or ls i 0 ≡ 0)
one-parts ss ls i h e = elim (cases_lt i (length ls)) [
  | inl there ↦
      let at = wide-at ss ls i h there in
      (omega (arith, at, e), omega (arith, at, e))
  | inr past ↦ (narrow-one (get_or ss i 0) (sym (narrow-at ss ls i h past) ∙ e), get_or_past ls i 0 past)
]

pub parts-one : (ss ls : List ℕ) (i : ℕ) → i < length ss → get_or ss i 0 ≡ 1 → get_or ls i 0 ≡ 0 → get_or (entries_from ss ls) i 0 ≡ 1
parts-one ss ls i h one none = elim (cases_lt i (length ls)) [
  | inl there ↦ omega (arith, wide-at ss ls i h there, one, none)
  | inr past ↦ narrow-at ss ls i h past ∙ ap narrow_entry one
]

-- parts after the small one came to 0, and whether nothing is left
pub record IsSpent (ss ls ss' ls' : List ℕ) (i : ℕ) (none : Bool) : Type 0 where
  pub same_length : length ss' ≡ length ss
  pub both : (length ls' ≡ 0) ⊎ (length ls' ≡ length ss')
  pub each : (j : ℕ) → IsCountSplit (get_or ss' j 0) (get_or ls' j 0)
  pub limit : limit_from ls' ≡ limit_from ls
  pub entries : entries_from ss' ls' ≡ set (entries_from ss ls) i (get_or (entries_from ss ls) i 0 - 1)
  pub bare : (none ≡ true → get_or (entries_from ss ls) i 0 ≡ 1) × (get_or (entries_from ss ls) i 0 ≡ 1 → none ≡ true)

pub spent : (ss ls ss' ls' : List ℕ) (i s : ℕ) (none : Bool) → i < length ss → s ≡ get_or ss i 0 → s - 1 ≡ 0 → (length ls ≡ 0) ⊎ (length ls ≡ length ss) → ((j : ℕ) → IsCountSplit (get_or ss j 0) (get_or ls j 0))
    → 0 < get_or (entries_from ss ls) i 0 % 32768
    → (none ≡ true → (get_or ls i 0 ≡ 0) × (ss' ≡ set ss i (s - 1)) × (ls' ≡ ls))
    → (none ≡ false → (0 < get_or ls i 0) × (ss' ≡ set (set ss i (s - 1)) i 255) × (ls' ≡ set ls i (get_or ls i 0 - 1)))
    → IsSpent ss ls ss' ls' i none
spent ss ls ss' ls' i s none h read left both each pos when_true when_false = elim (cases_Bool none) [
  | inl t ↦
      let w = when_true t in
      let small : ss' ≡ set ss i (get_or ss i 0 - 1) = w.1 ∙ ap (λ x. set ss i (x - 1)) read in
      subst (IsSpent ss ls ss' ls' i) (sym t) (subst (λ xs. IsSpent ss ls xs ls' i true) (sym small) (subst (λ ys. IsSpent ss ls (set ss i (get_or ss i 0 - 1)) ys i true) (sym w.2) (record {
        same_length = length-set ss i (get_or ss i 0 - 1);
        both = elim both [ inl no_large ↦ inl no_large | inr same ↦ inr (same ∙ sym (length-set ss i (get_or ss i 0 - 1))) ];
        each = split-small ss ls i (get_or ss i 0 - 1) h each (record { limit = omega (arith, w.0, one); some = λ l. absurd (omega (arith, w.0, l)) });
        limit = refl;
        entries = less-entries ss ls i h (each i) pos;
        bare = ((λ u. parts-one ss ls i h one w.0), (λ e. refl));
      })))
  | inr f ↦
      let w = when_false f in
      let there = large-there ls i w.0 in
      let small : ss' ≡ set ss i 255 = w.1 ∙ set-set ss i (s - 1) 255 in
      let large = get_or ls i 0 - 1 in
      let few = (each i).limit in
      subst (IsSpent ss ls ss' ls' i) (sym f) (subst (λ xs. IsSpent ss ls xs ls' i false) (sym small) (subst (λ ys. IsSpent ss ls (set ss i 255) ys i false) (sym w.2) (record {
        same_length = length-set ss i 255;
        both = elim both [ inl no_large ↦ absurd (omega (arith, no_large, there)) | inr same ↦ inr (length-set ls i large ∙ same ∙ sym (length-set ss i 255)) ];
        each = split-both ss ls i 255 large h there each (record { limit = omega (arith, few, one, w.0); some = λ l. omega arith });
        limit = limit-set ls i large;
        entries = less-refilled ss ls i h one w.0;
        bare = ((λ u. absurd (true≢false (sym u))), (λ e. absurd (omega (arith, w.0, (one-parts ss ls i h e).1))));
      })))
]
  where
    one : get_or ss i 0 ≡ 1
    one = omega (arith, less-some ss ls i h (each i) pos, read, left)

-- ---- one more

-- where the small part is not full
pub more-entries : (ss ls : List ℕ) (i : ℕ) → i < length ss → (length ls ≡ 0) ⊎ (length ls ≡ length ss) → get_or (entries_from ss ls) i 0 % 32768 < limit_from ls
    → entries_from (set ss i (get_or ss i 0 + 1)) ls ≡ set (entries_from ss ls) i (get_or (entries_from ss ls) i 0 + 1)
more-entries ss ls i h both limit =
    let s = get_or ss i 0 in
    let es = entries_from ss ls in
    elim (cases_lt i (length ls)) [
      | inl there ↦
          let one : wide_entry (s + 1) (get_or ls i 0) ≡ get_or es i 0 + 1 = omega (arith, wide-at ss ls i h there) in
          wide-set ss ls i (s + 1) there ∙ ap (set es i) one
      | inr past ↦
          let at = narrow-at ss ls i h past in
          let none = past-none ss ls i both h past in
          let rest : s % 128 < 127 = omega (arith, limit, limit-none ls none, ap (λ x. x % 32768) at, narrow-count s) in
          narrow-set ss ls i (s + 1) past ∙ ap (set es i) (narrow-more s rest ∙ ap (λ x. x + 1) (sym at))
    ]

-- where it is full there is a large one with room for one more
pub carry-room : (ss ls : List ℕ) (i : ℕ) → i < length ss → (length ls ≡ 0) ⊎ (length ls ≡ length ss) → IsCountSplit (get_or ss i 0) (get_or ls i 0)
    → get_or (entries_from ss ls) i 0 % 32768 < limit_from ls → get_or ss i 0 ≡ 255 → (i < length ls) × (get_or ls i 0 < 127)
carry-room ss ls i h both split limit full =
    let s = get_or ss i 0 in
    let es = entries_from ss ls in
    elim (cases_lt i (length ls)) [
      | inl there ↦
          let at = wide-at ss ls i h there in
          let few : get_or es i 0 < 32768 = omega (arith, at, split.limit) in
          (there, omega (arith, at, few, limit, limit-some ls (omega (arith, there)), full))
      | inr past ↦
          let none = past-none ss ls i both h past in
          let rest = ap (λ x. x % 32768) (narrow-at ss ls i h past) ∙ narrow-count s ∙ ap (λ x. x % 128) full in
          absurd (omega (arith, limit, limit-none ls none, rest))
    ]

pub carry-entries : (ss ls : List ℕ) (i : ℕ) → i < length ss → i < length ls → get_or ss i 0 ≡ 255
    → entries_from (set ss i 1) (set ls i (get_or ls i 0 + 1)) ≡ set (entries_from ss ls) i (get_or (entries_from ss ls) i 0 + 1)
carry-entries ss ls i h there full =
    let is : wide_entry 1 (get_or ls i 0 + 1) ≡ get_or (entries_from ss ls) i 0 + 1 = omega (arith, wide-at ss ls i h there, full) in
    wide-both ss ls i 1 (get_or ls i 0 + 1) there ∙ ap (set (entries_from ss ls) i) is

-- ---- entries that have no mark

-- a small part that has a rest by 128 has a count
pub rest-some : (ss ls : List ℕ) (i : ℕ) → i < length ss → IsCountSplit (get_or ss i 0) (get_or ls i 0) → 0 < get_or ss i 0 % 128 → 0 < get_or (entries_from ss ls) i 0 % 32768
rest-some ss ls i h split pos = elim (cases_lt i (length ls)) [
  | inl there ↦
      let at = wide-at ss ls i h there in
      let few : get_or (entries_from ss ls) i 0 < 32768 = omega (arith, at, split.limit) in
      omega (arith, at, few, narrow-is (get_or ss i 0))
  | inr past ↦ omega (arith, ap (λ x. x % 32768) (narrow-at ss ls i h past), narrow-count (get_or ss i 0))
]

-- no entry with a large part is marked
pub wide-plain : (ss ls : List ℕ) (i : ℕ) → 0 < length ls → (length ls ≡ 0) ⊎ (length ls ≡ length ss) → IsCountSplit (get_or ss i 0) (get_or ls i 0) → get_or (entries_from ss ls) i 0 < 32768
wide-plain ss ls i some both split = elim (cases_lt i (length ss)) [
  | inl h ↦
      let there : i < length ls = elim both [ inl none ↦ absurd (omega (arith, none)) | inr same ↦ omega (arith, same) ] in
      omega (arith, wide-at ss ls i h there, split.limit)
  | inr past ↦ omega (arith, get_or_past (entries_from ss ls) i 0 (omega (arith, past, halves-length ss ls)))
]

-- counts that have bytes of their own can be above 7
pub limit_above : (ls : List ℕ) → 127 ≤ limit_from ls
limit_above [] = omega arith
limit_above (l ∷ ls) = omega arith

-- ---- several marked in turn

-- k numbers from the i-th on changed in place
abbrev pub remapped : (ℕ → ℕ) → ℕ → ℕ → List ℕ → List ℕ
remapped f i k xs = take i xs ++ (map f (take k (drop i xs)) ++ drop k (drop i xs))

remapped-length : (f : ℕ → ℕ) (i k : ℕ) (xs : List ℕ) → length (remapped f i k xs) ≡ length xs
remapped-length f zero zero xs = refl
remapped-length f zero (suc k) [] = refl
remapped-length f zero (suc k) (x ∷ xs) = ap suc (remapped-length f zero k xs)
remapped-length f (suc i) zero [] = refl
remapped-length f (suc i) (suc k) [] = refl
remapped-length f (suc i) k (x ∷ xs) = ap suc (remapped-length f i k xs)

remapped-changed : (f : ℕ → ℕ) (i k : ℕ) (xs : List ℕ) (p : ℕ) → i + k ≤ length xs → i ≤ p → p < i + k → get_or (remapped f i k xs) p 0 ≡ f (get_or xs p 0)
remapped-changed f zero zero xs p h from l = absurd (omega (arith, l))
remapped-changed f zero (suc k) [] p h from l = absurd (omega (arith, h))
remapped-changed f zero (suc k) (x ∷ xs) zero h from l = refl
remapped-changed f zero (suc k) (x ∷ xs) (suc p) h from l = remapped-changed f zero k xs p (omega (arith, h)) (omega arith) (omega (arith, l))
remapped-changed f (suc i) k [] p h from l = absurd (omega (arith, h))
remapped-changed f (suc i) k (x ∷ xs) zero h from l = absurd (omega (arith, from))
remapped-changed f (suc i) k (x ∷ xs) (suc p) h from l = remapped-changed f i k xs p (omega (arith, h)) (omega (arith, from)) (omega (arith, l))

remapped-below : (f : ℕ → ℕ) (i k : ℕ) (xs : List ℕ) (j : ℕ) → i + k ≤ length xs → j < i → get_or (remapped f i k xs) j 0 ≡ get_or xs j 0
remapped-below f zero k xs j h l = absurd (omega (arith, l))
remapped-below f (suc i) k [] j h l = absurd (omega (arith, h))
remapped-below f (suc i) k (x ∷ xs) zero h l = refl
remapped-below f (suc i) k (x ∷ xs) (suc j) h l = remapped-below f i k xs j (omega (arith, h)) (omega (arith, l))

remapped-behind : (f : ℕ → ℕ) (i k : ℕ) (xs : List ℕ) (j : ℕ) → i + k ≤ length xs → i + k ≤ j → get_or (remapped f i k xs) j 0 ≡ get_or xs j 0
remapped-behind f zero zero xs j h l = refl
remapped-behind f zero (suc k) [] j h l = absurd (omega (arith, h))
remapped-behind f zero (suc k) (x ∷ xs) zero h l = absurd (omega (arith, l))
remapped-behind f zero (suc k) (x ∷ xs) (suc j) h l = remapped-behind f zero k xs j (omega (arith, h)) (omega (arith, l))
remapped-behind f (suc i) k [] j h l = absurd (omega (arith, h))
remapped-behind f (suc i) k (x ∷ xs) zero h l = absurd (omega (arith, l))
remapped-behind f (suc i) k (x ∷ xs) (suc j) h l = remapped-behind f i k xs j (omega (arith, h)) (omega (arith, l))

-- the first k numbers of a list changed
abbrev pub mapped_front : (ℕ → ℕ) → ℕ → List ℕ → List ℕ
mapped_front f k xs = map f (take k xs) ++ drop k xs

pub mapped-more : (f : ℕ → ℕ) (k : ℕ) (xs : List ℕ) → k < length xs → set (mapped_front f k xs) k (f (get_or (mapped_front f k xs) k 0)) ≡ mapped_front f (suc k) xs
mapped-more f zero [] h = absurd (omega (arith, h))
mapped-more f zero (x ∷ xs) h = refl
mapped-more f (suc k) [] h = absurd (omega (arith, h))
mapped-more f (suc k) (x ∷ xs) h = ap (λ ys. f x ∷ ys) (mapped-more f k xs (omega (arith, h)))

pub mapped-all : (f : ℕ → ℕ) (k : ℕ) (xs : List ℕ) → length xs ≤ k → mapped_front f k xs ≡ map f xs
mapped-all f zero [] h = refl
mapped-all f zero (x ∷ xs) h = absurd (omega (arith, h))
mapped-all f (suc k) [] h = refl
mapped-all f (suc k) (x ∷ xs) h = ap (λ ys. f x ∷ ys) (mapped-all f k xs (omega (arith, h)))

pub are-remapped : (f : ℕ → ℕ) (i k : ℕ) (xs : List ℕ) → i + k ≤ length xs → AreChanged f xs (remapped f i k xs) i k
are-remapped f i k xs h = record {
  same_length = remapped-length f i k xs;
  changed = λ j l. remapped-changed f i k xs (i + j) h (omega arith) (omega (arith, l));
  below = λ j l. remapped-below f i k xs j h l;
  behind = λ j l. remapped-behind f i k xs j h l;
}

-- a part of a list changed in place
pub alone-written : (f : ℕ → ℕ) (ss now ws : List ℕ) (i k : ℕ) → now ≡ ss → i + k ≤ length ss → ws ≡ map f (take (i + k - i) (drop i now))
    → AreChanged f ss (take i now ++ (ws ++ drop (i + k - i) (drop i now))) i k
alone-written f ss now ws i k same inside written =
    let len : k ≡ i + k - i = omega arith in
    let all : remapped f i k ss ≡ take i now ++ (ws ++ drop (i + k - i) (drop i now))
    = ap (λ n. take i ss ++ (map f (take n (drop i ss)) ++ drop n (drop i ss))) len
    ∙ ap (λ xs. take i xs ++ (map f (take (i + k - i) (drop i xs)) ++ drop (i + k - i) (drop i xs))) (sym same)
    ∙ ap (λ ys. take i now ++ (ys ++ drop (i + k - i) (drop i now))) (sym written) in
    subst (λ zs. AreChanged f ss zs i k) all (are-remapped f i k ss inside)

-- small parts that are alone changed alike are entries changed alike
pub narrow-changed : (f g : ℕ → ℕ) (ss ss' ls : List ℕ) (start k : ℕ) → ((s : ℕ) → narrow_entry (f s) ≡ g (narrow_entry s)) → length ls ≡ 0 → start + k ≤ length ss → AreChanged f ss ss' start k
    → AreChanged g (entries_from ss ls) (entries_from ss' ls) start k
narrow-changed f g ss ss' ls start k step none inside h = record {
  same_length = halves-length ss' ls ∙ h.same_length ∙ sym (halves-length ss ls);
  changed = λ i l.
      narrow-at ss' ls (start + i) (omega (arith, l, inside, h.same_length)) (omega (arith, none))
      ∙ ap narrow_entry (h.changed i l)
      ∙ step (get_or ss (start + i) 0)
      ∙ ap g (sym (narrow-at ss ls (start + i) (omega (arith, l, inside)) (omega (arith, none))));
  below = λ i l. kept i (h.below i l);
  behind = λ i l. kept i (h.behind i l);
}
  where
    kept : (i : ℕ) → get_or ss' i 0 ≡ get_or ss i 0 → get_or (entries_from ss' ls) i 0 ≡ get_or (entries_from ss ls) i 0
    kept i same = elim (cases_lt i (length ss)) [
      | inl l ↦
          narrow-at ss' ls i (omega (arith, l, h.same_length)) (omega (arith, none))
          ∙ ap narrow_entry same
          ∙ sym (narrow-at ss ls i l (omega (arith, none)))
      | inr past ↦
          get_or_past (entries_from ss' ls) i 0 (omega (arith, past, h.same_length, halves-length ss' ls))
          ∙ sym (get_or_past (entries_from ss ls) i 0 (omega (arith, past, halves-length ss ls)))
    ]

-- and there is room for them
pub split-changed : (f : ℕ → ℕ) (ss ss' ls : List ℕ) (start k : ℕ) → ((s : ℕ) → f s ≤ 255) → length ls ≡ 0 → AreChanged f ss ss' start k → ((i : ℕ) → IsCountSplit (get_or ss i 0) (get_or ls i 0))
    → (i : ℕ) → IsCountSplit (get_or ss' i 0) (get_or ls i 0)
split-changed f ss ss' ls start k small none h each i = elim (cases_lt i start) [
  | inl l ↦ kept (h.below i l)
  | inr after ↦ elim (cases_lt i (start + k)) [
    | inl l ↦
        let at : start + (i - start) ≡ i = omega (arith, after) in
        let is : get_or ss' i 0 ≡ f (get_or ss (start + (i - start)) 0) = ap (λ j. get_or ss' j 0) (sym at) ∙ h.changed (i - start) (omega (arith, l, after)) in
        let past : get_or ls i 0 ≡ 0 = get_or_past ls i 0 (omega (arith, none)) in
        record { limit = omega (arith, is, past, small (get_or ss (start + (i - start)) 0)); some = λ some. absurd (omega (arith, some, past)) }
    | inr l ↦ kept (h.behind i l)
  ]
]
  where
    kept : get_or ss' i 0 ≡ get_or ss i 0 → IsCountSplit (get_or ss' i 0) (get_or ls i 0)
    kept same = subst (λ x. IsCountSplit x (get_or ls i 0)) (sym same) (each i)
