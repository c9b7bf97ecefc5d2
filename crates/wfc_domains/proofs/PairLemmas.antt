-- Entries of which two share a byte.
use Rattle.std.proofs.Common.{◌≡◌, ◌≢◌, ℕ, ◌+◌, ◌-◌, ◌*◌, ◌/◌, ◌%◌, ◌<◌, ◌≤◌, ◌⊎◌, true, List, length, take, drop, replicate, set, refl, sym, ◌∙◌, ap, subst, arith, inl, inr}
use Rattle.std.specs.Prelude.{◌==◌, if◌then◌else◌, slice_index, bit_and}
use Rattle.std.proofs.lemmas.Bool.{cases_eq, cases_lt, eqb-true, eq-eqb}
use Rattle.std.proofs.lemmas.Grind.{and_numeral, and_high_numeral}
use Rattle.std.proofs.lemmas.List.{ext_get_or, get_or-set_same, get_or-set_other, get_or_past, get_or-replicate, length-set, length-replicate, length-take, length-drop, get_or-take, get_or-drop}
use Rattle.std.proofs.lemmas.List.FromFn.{get_or-map-range_with_len, length-map-range_with_len}
use Rattle.std.proofs.lemmas.Nat.{div-mul-add, mod-mul-add, div-add-mod'}
use Rattle.std.proofs.Math.Nat.{mod-lt}
use Rattle.wfc_domains.specs.Changes.{marked_entry, plain_entry, AreChanged}
use Rattle.wfc_domains.specs.Loaded.{IsRowCopied}
use Rattle.wfc_domains.specs.Pairs.{unit_at, mask_at, half_at, half_entry, paired_entry, paired_entries}

-- ---- one half

-- a place is even or odd
pub parity : (i : ℕ) → (i % 2 ≡ 0) ⊎ (i % 2 ≡ 1)
parity i = elim (cases_eq (i % 2) 0) [ inl even ↦ inl even | inr odd ↦ inr (omega (arith, odd)) ]

-- what is at an even place and at an odd one
pub half-even : (b i : ℕ) → i % 2 ≡ 0 → half_at b i ≡ b % 16
half-even b i even = ap (λ r. if r == 0 then b % 16 else b / 16 % 16) even

pub half-odd : (b i : ℕ) → i % 2 ≡ 1 → half_at b i ≡ b / 16 % 16
half-odd b i odd = ap (λ r. if r == 0 then b % 16 else b / 16 % 16) odd

pub half-same : (b i j : ℕ) → i % 2 ≡ j % 2 → half_at b i ≡ half_at b j
half-same b i j same = ap (λ r. if r == 0 then b % 16 else b / 16 % 16) same

pub half-few : (b i : ℕ) → half_at b i < 16
half-few b i = elim (parity i) [
  | inl even ↦ omega (arith, half-even b i even)
  | inr odd ↦ omega (arith, half-odd b i odd)
]

-- its count, in a number of whole and rest
entry-of : (h q r : ℕ) → h ≡ q * 8 + r → r < 8 → half_entry h ≡ r + 32768 * q
entry-of h q r e l =
    let rest : h % 8 ≡ r = ap (λ x. x % 8) e ∙ mod-mul-add q 8 r l in
    let whole : h / 8 ≡ q = ap (λ x. x / 8) e ∙ div-mul-add q 8 r l in
    omega (arith, rest, whole)

entry-is : (h : ℕ) → h ≡ h / 8 * 8 + h % 8
entry-is h = sym (div-add-mod' h 8)

rest-few : (h : ℕ) → h % 8 < 8
rest-few h = mod-lt h (let z : 0 < 8 = omega arith in z)

pub entry-count : (h : ℕ) → half_entry h % 32768 ≡ h % 8
entry-count h =
    let is : half_entry h ≡ h / 8 * 32768 + h % 8 = omega arith in
    ap (λ x. x % 32768) is ∙ mod-mul-add (h / 8) 32768 (h % 8) (omega (arith, rest-few h))

-- one less, and one more
entry-less : (h : ℕ) → 0 < h % 8 → half_entry (h - 1) ≡ half_entry h - 1
entry-less h l = omega (arith, entry-of (h - 1) (h / 8) (h % 8 - 1) (omega (arith, entry-is h)) (omega (arith, rest-few h)))

entry-more : (h : ℕ) → h % 8 < 7 → half_entry (h + 1) ≡ half_entry h + 1
entry-more h l = omega (arith, entry-of (h + 1) (h / 8) (h % 8 + 1) (omega (arith, entry-is h)) (omega arith))

-- marked, and not
pub entry-marked : (h : ℕ) → half_entry (h % 8 + 8) ≡ marked_entry (half_entry h)
entry-marked h = omega (arith, entry-of (h % 8 + 8) 1 (h % 8) (omega arith) (rest-few h), entry-count h)

pub entry-plain : (h : ℕ) → half_entry (h % 8) ≡ plain_entry (half_entry h)
entry-plain h = omega (arith, entry-of (h % 8) 0 (h % 8) (omega arith) (rest-few h), entry-count h)

-- a count that has no mark
pub entry-small : (n : ℕ) → n < 8 → half_entry n ≡ n
entry-small n l = omega (arith, entry-of n 0 n (omega arith) l)

-- an entry of 1
entry-one : (h : ℕ) → half_entry h ≡ 1 → h ≡ 1
entry-one h e = omega (arith, entry-is h, rest-few h)

-- ---- one byte

-- a byte with another half at a place, and the same at the other
pub record IsWritten (old new place half : ℕ) : Type 0 where
  pub here : half_at new place ≡ half
  pub other : (k : ℕ) → k % 2 ≢ place % 2 → half_at new k ≡ half_at old k

pub written-even : (b y i h : ℕ) → i % 2 ≡ 0 → y % 16 ≡ h → y / 16 % 16 ≡ b / 16 % 16 → IsWritten b y i h
written-even b y i h even here other = record {
  here = half-even y i even ∙ here;
  other = λ k ne. elim (parity k) [
    | inl same ↦ absurd (ne (same ∙ sym even))
    | inr odd ↦ half-odd y k odd ∙ other ∙ sym (half-odd b k odd)
  ];
}

pub written-odd : (b y i h : ℕ) → i % 2 ≡ 1 → y / 16 % 16 ≡ h → y % 16 ≡ b % 16 → IsWritten b y i h
written-odd b y i h odd here other = record {
  here = half-odd y i odd ∙ here;
  other = λ k ne. elim (parity k) [
    | inl even ↦ half-even y k even ∙ other ∙ sym (half-even b k even)
    | inr same ↦ absurd (ne (same ∙ sym odd))
  ];
}

-- one less of a half, as one number less of its byte
pub less-room : (b u i : ℕ) → u ≡ unit_at i → 0 < half_at b i % 8 → u ≤ b
less-room b u i unit some = elim (parity i) [
  | inl even ↦
      let one : u ≡ 1 = unit ∙ ap (λ r. if r == 0 then 1 else 16) even in
      omega (arith, one, some, half-even b i even)
  | inr odd ↦
      let one : u ≡ 16 = unit ∙ ap (λ r. if r == 0 then 1 else 16) odd in
      omega (arith, one, some, half-odd b i odd)
]

pub less-written : (b u i : ℕ) → u ≡ unit_at i → 0 < half_at b i % 8 → IsWritten b (b - u) i (half_at b i - 1)
less-written b u i unit some = elim (parity i) [
  | inl even ↦
      let one : u ≡ 1 = unit ∙ ap (λ r. if r == 0 then 1 else 16) even in
      let is = half-even b i even in
      written-even b (b - u) i (half_at b i - 1) even (omega (arith, one, some, is)) (omega (arith, one, some, is))
  | inr odd ↦
      let one : u ≡ 16 = unit ∙ ap (λ r. if r == 0 then 1 else 16) odd in
      let is = half-odd b i odd in
      written-odd b (b - u) i (half_at b i - 1) odd (omega (arith, one, some, is)) (omega (arith, one, some, is))
]

-- one more
pub more-written : (b u i : ℕ) → u ≡ unit_at i → half_at b i % 8 < 7 → IsWritten b (b + u) i (half_at b i + 1)
more-written b u i unit few = elim (parity i) [
  | inl even ↦
      let one : u ≡ 1 = unit ∙ ap (λ r. if r == 0 then 1 else 16) even in
      let is = half-even b i even in
      written-even b (b + u) i (half_at b i + 1) even (omega (arith, one, few, is)) (omega (arith, one, few, is))
  | inr odd ↦
      let one : u ≡ 16 = unit ∙ ap (λ r. if r == 0 then 1 else 16) odd in
      let is = half-odd b i odd in
      written-odd b (b + u) i (half_at b i + 1) odd (omega (arith, one, few, is)) (omega (arith, one, few, is))
]

pub more-room : (b u i : ℕ) → b < 256 → u ≡ unit_at i → half_at b i % 8 < 7 → b + u < 256
more-room b u i fits unit few = elim (parity i) [
  | inl even ↦
      let one : u ≡ 1 = unit ∙ ap (λ r. if r == 0 then 1 else 16) even in
      omega (arith, one, few, half-even b i even)
  | inr odd ↦
      let one : u ≡ 16 = unit ∙ ap (λ r. if r == 0 then 1 else 16) odd in
      omega (arith, one, few, half-odd b i odd)
]

-- the bits that a place has of a byte are 0 where its half is
pub bits-none : (y i m : ℕ) → y < 256 → m ≡ mask_at i → bit_and y m ≡ 0 → half_at y i ≡ 0
bits-none y i m fits mask none = elim (parity i) [
  | inl even ↦
      let is : m ≡ 15 = mask ∙ ap (λ r. if r == 0 then 15 else 240) even in
      let low : bit_and y 15 ≡ y % 16 = and_numeral y 14 refl in
      omega (arith, half-even y i even, low, none, ap (bit_and y) is)
  | inr odd ↦
      let is : m ≡ 240 = mask ∙ ap (λ r. if r == 0 then 15 else 240) odd in
      let high : bit_and y 240 + y % 16 ≡ y = and_high_numeral y 239 refl fits in
      omega (arith, half-odd y i odd, high, none, ap (bit_and y) is)
]

pub none-bits : (y i m : ℕ) → y < 256 → m ≡ mask_at i → half_at y i ≡ 0 → bit_and y m ≡ 0
none-bits y i m fits mask none = elim (parity i) [
  | inl even ↦
      let is : m ≡ 15 = mask ∙ ap (λ r. if r == 0 then 15 else 240) even in
      let low : bit_and y 15 ≡ y % 16 = and_numeral y 14 refl in
      omega (arith, half-even y i even, low, none, ap (bit_and y) is)
  | inr odd ↦
      let is : m ≡ 240 = mask ∙ ap (λ r. if r == 0 then 15 else 240) odd in
      let high : bit_and y 240 + y % 16 ≡ y = and_high_numeral y 239 refl fits in
      omega (arith, half-odd y i odd, high, none, ap (bit_and y) is)
]

-- they are 0 after one less where the entry was 1
pub bare-half : (b u m i : ℕ) → b < 256 → u ≡ unit_at i → m ≡ mask_at i → 0 < half_at b i % 8
    → ((bit_and (b - u) m == 0) ≡ true → half_entry (half_at b i) ≡ 1) × (half_entry (half_at b i) ≡ 1 → (bit_and (b - u) m == 0) ≡ true)
bare-half b u m i fits unit mask some =
    let here = (less-written b u i unit some).here in
    let below : b - u < 256 = omega arith in (
      λ t.
          let none = bits-none (b - u) i m below mask (eqb-true _ _ t) in
          let one : half_at b i ≡ 1 = omega (arith, here, none, some) in
          ap half_entry one,
      λ e.
          let one = entry-one (half_at b i) e in
          eq-eqb _ _ (none-bits (b - u) i m below mask (omega (arith, here, one))),
    )

-- ---- all entries

pub paired-length : (bytes : List ℕ) → length (paired_entries bytes) ≡ 2 * length bytes
paired-length bytes = length-map-range_with_len (paired_entry bytes) 0 (2 * length bytes)

pub paired-at : (bytes : List ℕ) (i : ℕ) → i < 2 * length bytes → slice_index (paired_entries bytes) i ≡ paired_entry bytes i
paired-at bytes i l = get_or-map-range_with_len (paired_entry bytes) 0 (2 * length bytes) i i 0 l (omega arith)

-- no count yet
pub paired-zero : (n : ℕ) → paired_entries (replicate n 0) ≡ replicate (2 * n) 0
paired-zero n = ext_get_or 0 _ _ (paired-length (replicate n 0) ∙ ap (λ x. 2 * x) (length-replicate {A = ℕ} n 0) ∙ sym (length-replicate {A = ℕ} (2 * n) 0)) (λ i l.
    let small : i < 2 * n = omega (arith, l, paired-length (replicate n 0), length-replicate {A = ℕ} n 0) in
    let byte : slice_index (replicate n 0) (i / 2) ≡ 0 = get_or-replicate n (i / 2) 0 0 (omega (arith, small)) in
    paired-at (replicate n 0) i (omega (arith, small, length-replicate {A = ℕ} n 0))
    ∙ ap (λ b. half_entry (half_at b i)) byte
    ∙ zero-half i
    ∙ sym (get_or-replicate (2 * n) i 0 0 small))
  where
    zero-half : (i : ℕ) → half_entry (half_at 0 i) ≡ 0
    zero-half i = elim (parity i) [
      | inl even ↦ ap half_entry (half-even 0 i even)
      | inr odd ↦ ap half_entry (half-odd 0 i odd)
    ]

-- one half written is one entry set
pub paired-written : (bytes : List ℕ) (i y h : ℕ) → i < 2 * length bytes → IsWritten (slice_index bytes (i / 2)) y i h
    → paired_entries (set bytes (i / 2) y) ≡ set (paired_entries bytes) i (half_entry h)
paired-written bytes i y h inside w = ext_get_or 0 _ _ (long ∙ sym (length-set (paired_entries bytes) i (half_entry h) ∙ paired-length bytes)) (λ j l.
    let here : j < 2 * length bytes = omega (arith, l, long) in
    paired-at (set bytes (i / 2) y) j (omega (arith, here, length-set bytes (i / 2) y)) ∙ each j here)
  where
    long : length (paired_entries (set bytes (i / 2) y)) ≡ 2 * length bytes
    long = paired-length (set bytes (i / 2) y) ∙ ap (λ n. 2 * n) (length-set bytes (i / 2) y)

    within : i / 2 < length bytes
    within = omega (arith, inside)

    each : (j : ℕ) → j < 2 * length bytes → paired_entry (set bytes (i / 2) y) j ≡ slice_index (set (paired_entries bytes) i (half_entry h)) j
    each j here = elim (cases_eq j i) [
      | inl same ↦
          let byte : slice_index (set bytes (i / 2) y) (j / 2) ≡ y = ap (λ k. slice_index (set bytes (i / 2) y) (k / 2)) same ∙ get_or-set_same bytes (i / 2) y 0 within in
          ap (λ b. half_entry (half_at b j)) byte
          ∙ ap (λ k. half_entry (half_at y k)) same
          ∙ ap half_entry w.here
          ∙ sym (ap (slice_index (set (paired_entries bytes) i (half_entry h))) same ∙ get_or-set_same (paired_entries bytes) i (half_entry h) 0 (omega (arith, inside, paired-length bytes)))
      | inr ne ↦ kept j ne ∙ sym (paired-at bytes j here) ∙ sym (get_or-set_other (paired_entries bytes) i j (half_entry h) 0 ne)
    ]
      where
        kept : (j : ℕ) → j ≢ i → paired_entry (set bytes (i / 2) y) j ≡ paired_entry bytes j
        kept j ne = elim (cases_eq (j / 2) (i / 2)) [
          | inl same ↦
              let byte : slice_index (set bytes (i / 2) y) (j / 2) ≡ y = ap (slice_index (set bytes (i / 2) y)) same ∙ get_or-set_same bytes (i / 2) y 0 within in
              ap (λ b. half_entry (half_at b j)) byte
              ∙ ap half_entry (w.other j (λ e. ne (omega (arith, same, e))))
              ∙ ap (λ k. half_entry (half_at (slice_index bytes k) j)) (sym same)
          | inr apart ↦ ap (λ b. half_entry (half_at b j)) (get_or-set_other bytes (i / 2) (j / 2) y 0 apart)
        ]

-- ---- one less, one more, one set

pub count-at : (bytes : List ℕ) (i b : ℕ) → i < 2 * length bytes → b ≡ slice_index bytes (i / 2) → slice_index (paired_entries bytes) i % 32768 ≡ half_at b i % 8
count-at bytes i b inside read = ap (λ x. x % 32768) (paired-at bytes i inside) ∙ entry-count (half_at (slice_index bytes (i / 2)) i) ∙ ap (λ y. half_at y i % 8) (sym read)

pub less-paired : (bytes : List ℕ) (i b u : ℕ) → i < 2 * length bytes → b ≡ slice_index bytes (i / 2) → u ≡ unit_at i → 0 < slice_index (paired_entries bytes) i % 32768
    → paired_entries (set bytes (i / 2) (b - u)) ≡ set (paired_entries bytes) i (slice_index (paired_entries bytes) i - 1)
less-paired bytes i b u inside read unit some =
    let byte = slice_index bytes (i / 2) in
    let pos : 0 < half_at byte i % 8 = omega (arith, some, count-at bytes i byte inside refl) in
    ap (λ x. paired_entries (set bytes (i / 2) (x - u))) read
    ∙ paired-written bytes i (byte - u) (half_at byte i - 1) inside (less-written byte u i unit pos)
    ∙ ap (set (paired_entries bytes) i) (entry-less (half_at byte i) pos ∙ ap (λ x. x - 1) (sym (paired-at bytes i inside)))

pub more-paired : (bytes : List ℕ) (i b u : ℕ) → i < 2 * length bytes → b ≡ slice_index bytes (i / 2) → u ≡ unit_at i → slice_index (paired_entries bytes) i % 32768 < 7
    → paired_entries (set bytes (i / 2) (b + u)) ≡ set (paired_entries bytes) i (slice_index (paired_entries bytes) i + 1)
more-paired bytes i b u inside read unit few =
    let byte = slice_index bytes (i / 2) in
    let room : half_at byte i % 8 < 7 = omega (arith, few, count-at bytes i byte inside refl) in
    ap (λ x. paired_entries (set bytes (i / 2) (x + u))) read
    ∙ paired-written bytes i (byte + u) (half_at byte i + 1) inside (more-written byte u i unit room)
    ∙ ap (set (paired_entries bytes) i) (entry-more (half_at byte i) room ∙ ap (λ x. x + 1) (sym (paired-at bytes i inside)))

pub bare-paired : (bytes : List ℕ) (i b u m : ℕ) → i < 2 * length bytes → b ≡ slice_index bytes (i / 2) → b < 256 → u ≡ unit_at i → m ≡ mask_at i → 0 < slice_index (paired_entries bytes) i % 32768
    → ((bit_and (b - u) m == 0) ≡ true → slice_index (paired_entries bytes) i ≡ 1) × (slice_index (paired_entries bytes) i ≡ 1 → (bit_and (b - u) m == 0) ≡ true)
bare-paired bytes i b u m inside read fits unit mask some =
    let pos : 0 < half_at b i % 8 = omega (arith, some, count-at bytes i b inside read) in
    let both = bare-half b u m i fits unit mask pos in
    let entry : slice_index (paired_entries bytes) i ≡ half_entry (half_at b i) = paired-at bytes i inside ∙ ap (λ y. half_entry (half_at y i)) (sym read) in
    ((λ t. entry ∙ both.0 t), (λ e. both.1 (sym entry ∙ e)))

-- ---- several in turn

-- none changed yet
pub changed_none : (f : ℕ → ℕ) (xs : List ℕ) (start : ℕ) → AreChanged f xs xs start 0
changed_none f xs start = record {
  same_length = refl;
  changed = λ i l. absurd (omega (arith, l));
  below = λ i l. refl;
  behind = λ i l. refl;
}

-- one more changed
pub changed_more : (f : ℕ → ℕ) (xs ys : List ℕ) (start k : ℕ) → AreChanged f xs ys start k → start + k < length xs → AreChanged f xs (set ys (start + k) (f (slice_index ys (start + k)))) start (k + 1)
changed_more f xs ys start k h inside = record {
  same_length = length-set ys (start + k) x ∙ h.same_length;
  changed = λ i l. elim (cases_eq i k) [
    | inl same ↦
        ap (λ j. slice_index (set ys (start + k) x) (start + j)) same
        ∙ get_or-set_same ys (start + k) x 0 (omega (arith, inside, h.same_length))
        ∙ ap f (h.behind (start + k) (omega arith))
        ∙ ap (λ j. f (slice_index xs (start + j))) (sym same)
    | inr ne ↦ get_or-set_other ys (start + k) (start + i) x 0 (λ e. ne (omega (arith, e))) ∙ h.changed i (omega (arith, l, ne))
  ];
  below = λ i l. get_or-set_other ys (start + k) i x 0 (omega (arith, l)) ∙ h.below i l;
  behind = λ i l. get_or-set_other ys (start + k) i x 0 (omega (arith, l)) ∙ h.behind i (omega (arith, l));
}
  where
    x : ℕ
    x = f (slice_index ys (start + k))

-- one half more written
pub halves_more : (f : ℕ → ℕ) (xs ys : List ℕ) (start i y h : ℕ) → AreChanged f (paired_entries xs) (paired_entries ys) start (i - start) → start ≤ i → i < 2 * length ys → IsWritten (slice_index ys (i / 2)) y i h
    → half_entry h ≡ f (half_entry (half_at (slice_index ys (i / 2)) i)) → AreChanged f (paired_entries xs) (paired_entries (set ys (i / 2) y)) start (i + 1 - start)
halves_more f xs ys start i y h before after inside w is =
    let at : start + (i - start) ≡ i = omega (arith, after) in
    let more : i + 1 - start ≡ (i - start) + 1 = omega (arith, after) in
    let entry = is ∙ ap f (sym (paired-at ys i inside)) in
    let long : i < length (paired_entries xs) = omega (arith, inside, before.same_length, paired-length ys) in
    let step = changed_more f (paired_entries xs) (paired_entries ys) start (i - start) before (omega (arith, at, long)) in
    let now : set (paired_entries ys) (start + (i - start)) (f (slice_index (paired_entries ys) (start + (i - start)))) ≡ paired_entries (set ys (i / 2) y)
    = ap (λ j. set (paired_entries ys) j (f (slice_index (paired_entries ys) j))) at ∙ ap (set (paired_entries ys) i) (sym entry) ∙ sym (paired-written ys i y h inside w) in
    subst (λ k. AreChanged f (paired_entries xs) (paired_entries (set ys (i / 2) y)) start k) (sym more) (subst (λ zs. AreChanged f (paired_entries xs) zs start ((i - start) + 1)) now step)

-- the halves of two bytes marked are four entries marked
pub pairs-marked : (bytes : List ℕ) (start y z : ℕ) → start % 2 ≡ 0 → start + 4 ≤ 2 * length bytes
    → ((k : ℕ) → half_at y k ≡ half_at (slice_index bytes (start / 2)) k % 8 + 8)
    → ((k : ℕ) → half_at z k ≡ half_at (slice_index bytes (start / 2 + 1)) k % 8 + 8)
    → AreChanged marked_entry (paired_entries bytes) (paired_entries (set (set bytes (start / 2) y) (start / 2 + 1) z)) start 4
pairs-marked bytes start y z even inside first second = record {
  same_length = paired-length after ∙ ap (λ n. 2 * n) same ∙ sym (paired-length bytes);
  changed = λ i l.
      let j = start + i in
      let near : (j / 2 ≡ at) ⊎ (j / 2 ≡ at + 1) = elim (cases_lt i 2) [ inl low ↦ inl (omega (arith, even, low)) | inr high ↦ inr (omega (arith, even, high, l)) ] in
      let marked : half_at (slice_index after (j / 2)) j ≡ half_at (slice_index bytes (j / 2)) j % 8 + 8 = elim near [
        | inl one ↦
            ap (λ k. half_at (slice_index after k) j) one
            ∙ ap (λ b. half_at b j) (get_or-set_other (set bytes at y) (at + 1) at z 0 (omega arith) ∙ get_or-set_same bytes at y 0 (omega (arith, inside, even)))
            ∙ first j
            ∙ ap (λ k. half_at (slice_index bytes k) j % 8 + 8) (sym one)
        | inr two ↦
            ap (λ k. half_at (slice_index after k) j) two
            ∙ ap (λ b. half_at b j) (get_or-set_same (set bytes at y) (at + 1) z 0 (omega (arith, inside, even, length-set bytes at y)))
            ∙ second j
            ∙ ap (λ k. half_at (slice_index bytes k) j % 8 + 8) (sym two)
      ] in
      paired-at after j (omega (arith, inside, l, same))
      ∙ ap half_entry marked
      ∙ entry-marked (half_at (slice_index bytes (j / 2)) j)
      ∙ ap marked_entry (sym (paired-at bytes j (omega (arith, inside, l))));
  below = λ j l. kept j (omega (arith, l, even)) (omega (arith, l, even));
  behind = λ j l. kept j (omega (arith, l, even)) (omega (arith, l, even));
}
  where
    at : ℕ
    at = start / 2

    after : List ℕ
    after = set (set bytes (start / 2) y) (start / 2 + 1) z

    same : length after ≡ length bytes
    same = length-set (set bytes (start / 2) y) (start / 2 + 1) z ∙ length-set bytes (start / 2) y

    kept : (j : ℕ) → j / 2 ≢ start / 2 → j / 2 ≢ start / 2 + 1 → slice_index (paired_entries after) j ≡ slice_index (paired_entries bytes) j
    kept j one two = elim (cases_lt j (2 * length bytes)) [
      | inl l ↦
          paired-at after j (omega (arith, l, same))
          ∙ ap (λ b. half_entry (half_at b j)) (get_or-set_other (set bytes (start / 2) y) (start / 2 + 1) (j / 2) z 0 two ∙ get_or-set_other bytes (start / 2) (j / 2) y 0 one)
          ∙ sym (paired-at bytes j l)
      | inr past ↦ get_or_past (paired_entries after) j 0 (omega (arith, past, same, paired-length after)) ∙ sym (get_or_past (paired_entries bytes) j 0 (omega (arith, past, paired-length bytes)))
    ]

-- bytes copied are twice as many entries copied
pub paired-copied : (xs ys : List ℕ) (start row dest : ℕ) → start % 2 ≡ 0 → row % 2 ≡ 0 → dest % 2 ≡ 0 → start + row ≤ dest → dest + row ≤ 2 * length xs
    → IsRowCopied xs ys (start / 2) (row / 2) (dest / 2) → IsRowCopied (paired_entries xs) (paired_entries ys) start row dest
paired-copied xs ys start row dest hs hr hd before inside h = record {
  copied = λ i l.
      let to : (dest + i) / 2 ≡ dest / 2 + i / 2 = omega (arith, hd) in
      let from : start / 2 + i / 2 ≡ (start + i) / 2 = omega (arith, hs) in
      let byte : slice_index ys ((dest + i) / 2) ≡ slice_index xs ((start + i) / 2) = ap (slice_index ys) to ∙ h.copied (i / 2) (omega (arith, l, hr)) ∙ ap (slice_index xs) from in
      paired-at ys (dest + i) (omega (arith, l, inside, h.same_length))
      ∙ ap (λ b. half_entry (half_at b (dest + i))) byte
      ∙ ap half_entry (half-same (slice_index xs ((start + i) / 2)) (dest + i) (start + i) (omega (arith, hs, hd)))
      ∙ sym (paired-at xs (start + i) (omega (arith, l, before, inside)));
  below = λ i l. kept i (h.below (i / 2) (omega (arith, l, hd)));
  behind = λ i l. kept i (h.behind (i / 2) (omega (arith, l, hd, hr)));
  same_length = paired-length ys ∙ ap (λ n. 2 * n) h.same_length ∙ sym (paired-length xs);
}
  where
    kept : (i : ℕ) → slice_index ys (i / 2) ≡ slice_index xs (i / 2) → slice_index (paired_entries ys) i ≡ slice_index (paired_entries xs) i
    kept i byte = elim (cases_lt i (2 * length xs)) [
      | inl l ↦ paired-at ys i (omega (arith, l, h.same_length)) ∙ ap (λ b. half_entry (half_at b i)) byte ∙ sym (paired-at xs i l)
      | inr past ↦ get_or_past (paired_entries ys) i 0 (omega (arith, past, h.same_length, paired-length ys)) ∙ sym (get_or_past (paired_entries xs) i 0 (omega (arith, past, paired-length xs)))
    ]

-- with no half of 0 or 8 no count is 0
pub paired-positive : (bytes : List ℕ) (i : ℕ) → i < 2 * length bytes → (0 < slice_index bytes (i / 2) % 8) × (0 < slice_index bytes (i / 2) / 16 % 8) → 0 < slice_index (paired_entries bytes) i % 32768
paired-positive bytes i inside some =
    let b = slice_index bytes (i / 2) in
    let pos : 0 < half_at b i % 8 = elim (parity i) [
      | inl even ↦ omega (arith, half-even b i even, some.0)
      | inr odd ↦ omega (arith, half-odd b i odd, some.1)
    ] in
    omega (arith, pos, count-at bytes i b inside refl)

-- a part of a list is read
pub part-read : (ys : List ℕ) (at n k : ℕ) → k < n → at + n ≤ length ys → (k < length (take (at + n - at) (drop at ys))) × (slice_index (take (at + n - at) (drop at ys)) k ≡ slice_index ys (at + k))
part-read ys at n k l inside =
    let long : at + n - at ≡ n = omega arith in
    (omega (arith, l, inside, long, length-take (at + n - at) (drop at ys), length-drop at ys), get_or-take (at + n - at) (drop at ys) k 0 (omega (arith, l, long)) ∙ get_or-drop at ys k 0)

-- a row of entries of which no half is 0 or 8
pub pairs-positive : (bytes ys : List ℕ) (start row : ℕ) → ys ≡ bytes → start % 2 ≡ 0 → row % 2 ≡ 0 → start + row ≤ 2 * length bytes
    → ((k : ℕ) → k < length (take (start / 2 + row / 2 - start / 2) (drop (start / 2) ys))
    → (0 < slice_index (take (start / 2 + row / 2 - start / 2) (drop (start / 2) ys)) k % 8) × (0 < slice_index (take (start / 2 + row / 2 - start / 2) (drop (start / 2) ys)) k / 16 % 8))
    → (i : ℕ) → i < row → 0 < slice_index (paired_entries bytes) (start + i) % 32768
pairs-positive bytes ys start row same hs hr inside h i l =
    let read = part-read ys (start / 2) (row / 2) (i / 2) (omega (arith, l, hr)) (omega (arith, inside, hs, hr, ap length same)) in
    let some = h (i / 2) read.0 in
    let at : start / 2 + i / 2 ≡ (start + i) / 2 = omega (arith, hs) in
    let byte = read.1 ∙ ap (λ zs. slice_index zs (start / 2 + i / 2)) same ∙ ap (slice_index bytes) at in
    paired-positive bytes (start + i) (omega (arith, l, inside)) (subst (λ b. (0 < b % 8) × (0 < b / 16 % 8)) byte some)
