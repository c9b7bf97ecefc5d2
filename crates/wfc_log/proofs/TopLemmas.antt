-- Numbers of two bits: one is read, and one is written behind the others.
use Rattle.std.proofs.Common.{◌≡◌, ℕ, zero, suc, ◌+◌, ◌*◌, ◌/◌, ◌%◌, ◌^◌, ◌<◌, ◌≤◌, List, [], ◌∷◌, ◌++◌, length, take, set, sym, ◌∙◌, ap, arith, inl, inr}
use Rattle.std.specs.Prelude.{Some, slice_get, slice_index}
use Rattle.std.proofs.lemmas.Bool.{cases_eq, cases_lt}
use Rattle.std.proofs.lemmas.List.{ext_get_or, get_or-set_other, get_or-set_same, get_or_append_left, take_all}
use Rattle.std.proofs.lemmas.List.FromFn.{get_or-map-range_with_len, length-map-range_with_len, map-range_with_len_more, take-map-range_with_len}
use Rattle.std.proofs.lemmas.Option.{slice_get_read}
use Rattle.std.proofs.Math.Seq.{get_or-append_seam}
use Rattle.wfc_log.specs.Tops.{top_at, top_in, tops_in}

-- a byte with a number at a place, and what was there at the places before
abbrev pub top_written : ℕ → ℕ → ℕ → ℕ
top_written byte place top = byte % (1 * 2 ^ (2 * place) % 256) + top * 2 ^ (2 * place) % 256

-- it is a byte
pub written-fits : (b p t : ℕ) → p < 4 → t < 4 → top_written b p t < 256
written-fits b zero t h few = omega (arith, few)
written-fits b (suc zero) t h few = omega (arith, few)
written-fits b (suc (suc zero)) t h few = omega (arith, few)
written-fits b (suc (suc (suc zero))) t h few = omega (arith, few)
written-fits b (suc (suc (suc (suc p)))) t h few = absurd (omega (arith, h))

-- the number is read at the place
pub written-here : (b p t : ℕ) → p < 4 → t < 4 → top_at (top_written b p t) p ≡ t
written-here b zero t h few = omega (arith, few)
written-here b (suc zero) t h few = omega (arith, few)
written-here b (suc (suc zero)) t h few = omega (arith, few)
written-here b (suc (suc (suc zero))) t h few = omega (arith, few)
written-here b (suc (suc (suc (suc p)))) t h few = absurd (omega (arith, h))

-- and before it what was there
pub written-before : (b p t k : ℕ) → p < 4 → k < p → t < 4 → top_at (top_written b p t) k ≡ top_at b k
written-before b zero t k h l few = absurd (omega (arith, l))
written-before b (suc zero) t zero h l few = omega (arith, few)
written-before b (suc zero) t (suc k) h l few = absurd (omega (arith, l))
written-before b (suc (suc zero)) t zero h l few = omega (arith, few)
written-before b (suc (suc zero)) t (suc zero) h l few = omega (arith, few)
written-before b (suc (suc zero)) t (suc (suc k)) h l few = absurd (omega (arith, l))
written-before b (suc (suc (suc zero))) t zero h l few = omega (arith, few)
written-before b (suc (suc (suc zero))) t (suc zero) h l few = omega (arith, few)
written-before b (suc (suc (suc zero))) t (suc (suc zero)) h l few = omega (arith, few)
written-before b (suc (suc (suc zero))) t (suc (suc (suc k))) h l few = absurd (omega (arith, l))
written-before b (suc (suc (suc (suc p)))) t k h l few = absurd (omega (arith, h))

-- as many numbers as are wanted
pub tops-length : (n : ℕ) (bytes : List ℕ) → length (tops_in n bytes) ≡ n
tops-length n bytes = length-map-range_with_len (top_in bytes) 0 n

-- the number at an index
pub tops-at : (n : ℕ) (bytes : List ℕ) (i : ℕ) → i < n → slice_get (tops_in n bytes) i ≡ Some (top_in bytes i)
tops-at n bytes i h =
    slice_get_read (tops_in n bytes) n i (top_in bytes i) (sym (tops-length n bytes)) h (sym (get_or-map-range_with_len (top_in bytes) 0 n i i (top_in bytes i) h (omega arith)))

-- the first numbers
pub tops-take : (n k m : ℕ) (bytes : List ℕ) → (n ≤ k → m ≡ n) → (k ≤ n → m ≡ k) → tops_in m bytes ≡ take k (tops_in n bytes)
tops-take n k m bytes all some = elim (cases_lt n k) [
  | inl l ↦ ap (λ x. tops_in x bytes) (all (omega (arith, l))) ∙ sym (take_all k (tops_in n bytes) (omega (arith, l, tops-length n bytes)))
  | inr l ↦ ap (λ x. tops_in x bytes) (some l) ∙ sym (take-map-range_with_len (top_in bytes) 0 n k l)
]

-- one number more, where the bytes hold the others as before
pub tops-more : (n t : ℕ) (xs ys : List ℕ) → ((i : ℕ) → i < n → top_in ys i ≡ top_in xs i) → top_in ys n ≡ t → tops_in (n + 1) ys ≡ tops_in n xs ++ t ∷ []
tops-more n t xs ys same here =
    map-range_with_len_more (top_in ys) 0 n n (omega arith)
    ∙ ap (λ x. tops_in n ys ++ x ∷ []) here
    ∙ ap (λ zs. zs ++ t ∷ []) (ext_get_or 0 _ _ (tops-length n ys ∙ sym (tops-length n xs)) (λ i l.
    let small : i < n = omega (arith, l, tops-length n ys) in
    get_or-map-range_with_len (top_in ys) 0 n i i 0 small (omega arith) ∙ same i small ∙ sym (get_or-map-range_with_len (top_in xs) 0 n i i 0 small (omega arith))))

-- in a byte that is there
pub tops-written : (n t y : ℕ) (bytes : List ℕ) → n / 4 < length bytes → top_at y (n % 4) ≡ t
    → ((k : ℕ) → k < n % 4 → top_at y k ≡ top_at (slice_index bytes (n / 4)) k)
    → tops_in (n + 1) (set bytes (n / 4) y) ≡ tops_in n bytes ++ t ∷ []
tops-written n t y bytes within here before =
    tops-more n t bytes (set bytes (n / 4) y) old (ap (λ b. top_at b (n % 4)) (get_or-set_same bytes (n / 4) y 0 within) ∙ here)
  where
    old : (i : ℕ) → i < n → top_in (set bytes (n / 4) y) i ≡ top_in bytes i
    old i l = elim (cases_eq (i / 4) (n / 4)) [
      | inl same ↦
          ap (λ b. top_at b (i % 4)) (ap (slice_index (set bytes (n / 4) y)) same ∙ get_or-set_same bytes (n / 4) y 0 within)
          ∙ before (i % 4) (omega (arith, l, same))
          ∙ ap (λ b. top_at b (i % 4)) (sym (ap (slice_index bytes) same))
      | inr ne ↦ ap (λ b. top_at b (i % 4)) (get_or-set_other bytes (n / 4) (i / 4) y 0 ne)
    ]

-- and in a new one
pub tops-pushed : (n t : ℕ) (bytes : List ℕ) → n ≤ 4 * length bytes → length bytes ≤ n / 4 → t < 4 → tops_in (n + 1) (bytes ++ t ∷ []) ≡ tops_in n bytes ++ t ∷ []
tops-pushed n t bytes enough full few = tops-more n t bytes (bytes ++ t ∷ []) old here
  where
    whole : (x : ℕ) → x < 4 → top_at x 0 ≡ x
    whole x h = omega (arith, h)

    old : (i : ℕ) → i < n → top_in (bytes ++ t ∷ []) i ≡ top_in bytes i
    old i l = ap (λ b. top_at b (i % 4)) (get_or_append_left bytes (t ∷ []) 0 (i / 4) (omega (arith, l, enough)))

    here : top_in (bytes ++ t ∷ []) n ≡ t
    here =
        let first : n % 4 ≡ 0 = omega (arith, enough, full) in
        let last : n / 4 ≡ length bytes = omega (arith, enough, full) in
        let byte : slice_index (bytes ++ t ∷ []) (n / 4) ≡ t = ap (slice_index (bytes ++ t ∷ [])) last ∙ get_or-append_seam bytes t [] 0 in
        ap (λ b. top_at b (n % 4)) byte ∙ ap (top_at t) first ∙ whole t few
