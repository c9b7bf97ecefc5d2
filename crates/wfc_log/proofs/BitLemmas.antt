-- Flags as bits: one is read, and one is written.
use Rattle.std.proofs.Common.{◌≡◌, ◌≢◌, ℕ, zero, suc, w8, ◌+◌, ◌-◌, ◌*◌, ◌/◌, ◌%◌, ◌^◌, ◌<◌, ◌≤◌, Bool, true, false, List, length, get_or, set, refl, sym, ◌∙◌, ap, arith, inl, inr}
use Rattle.std.specs.Prelude.{◌==◌, slice_index}
use Rattle.std.specs.Int.{bit_at, trailing_zeros}
use Rattle.std.proofs.lemmas.List.{ext_get_or, length-set, get_or-set_same, get_or-set_other}
use Rattle.std.proofs.lemmas.List.FromFn.{get_or-map-range_with_len, length-map-range_with_len}
use Rattle.std.proofs.lemmas.Bool.{cases_eq, cases_lt}
use Rattle.std.proofs.lemmas.Nat.{shr-shr, shr_le}
use Rattle.std.proofs.lemmas.Nat.Bits.{bit_at-trailing_zeros, bit_at-zero, bit_at_above}
use Rattle.wfc_log.specs.Bits.{bit_in, flags_in}

-- as many flags as are wanted
pub length-flags : (n : ℕ) (bytes : List ℕ) → length (flags_in n bytes) ≡ n
length-flags n bytes = length-map-range_with_len (bit_in bytes) 0 n

-- the flag at an index
pub flag-at : (n : ℕ) (bytes : List ℕ) (i : ℕ) → i < n → get_or (flags_in n bytes) i false ≡ bit_in bytes i
flag-at n bytes i h = get_or-map-range_with_len (bit_in bytes) 0 n i i false h (omega arith)

-- each bit of 255 is set
pub bit-255 : (k : ℕ) → k < 8 → bit_at 255 k ≡ 1
bit-255 zero h = refl
bit-255 (suc zero) h = refl
bit-255 (suc (suc zero)) h = refl
bit-255 (suc (suc (suc zero))) h = refl
bit-255 (suc (suc (suc (suc zero)))) h = refl
bit-255 (suc (suc (suc (suc (suc zero))))) h = refl
bit-255 (suc (suc (suc (suc (suc (suc zero)))))) h = refl
bit-255 (suc (suc (suc (suc (suc (suc (suc zero))))))) h = refl
bit-255 (suc (suc (suc (suc (suc (suc (suc (suc k)))))))) h = absurd (omega (arith, h))

-- one bit is written: all flags but that one are as before
pub flags-written : (n : ℕ) (bytes : List ℕ) (i x : ℕ) (b : Bool) → i < n → n ≤ 8 * length bytes → (bit_at x (i % 8) == 1) ≡ b
    → ((k : ℕ) → k < 8 → k ≢ i % 8 → bit_at x k ≡ bit_at (slice_index bytes (i / 8)) k)
    → flags_in n (set bytes (i / 8) x) ≡ set (flags_in n bytes) i b
flags-written n bytes i x b hi hn here others =
    ext_get_or false _ _ (length-flags n (set bytes (i / 8) x) ∙ sym (length-set (flags_in n bytes) i b ∙ length-flags n bytes))
    (λ j l. let small : j < n = omega (arith, l, length-flags n (set bytes (i / 8) x)) in flag-at n (set bytes (i / 8) x) j small ∙ written j small)
  where
    within : i / 8 < length bytes
    within = omega (arith, hi, hn)

    written : (j : ℕ) → j < n → bit_in (set bytes (i / 8) x) j ≡ get_or (set (flags_in n bytes) i b) j false
    written j l = elim (cases_eq j i) [
      | inl same ↦
          ap (bit_in (set bytes (i / 8) x)) same ∙ ap (λ y. bit_at y (i % 8) == 1) (get_or-set_same bytes (i / 8) x 0 within) ∙ here
          ∙ sym (ap (λ k. get_or (set (flags_in n bytes) i b) k false) same ∙ get_or-set_same (flags_in n bytes) i b false (omega (arith, hi, length-flags n bytes)))
      | inr other ↦
          old j l other ∙ sym (get_or-set_other (flags_in n bytes) i j b false other ∙ flag-at n bytes j l)
    ]
      where
        old : (j : ℕ) → j < n → j ≢ i → bit_in (set bytes (i / 8) x) j ≡ bit_in bytes j
        old j l other = elim (cases_eq (j / 8) (i / 8)) [
          | inl same ↦
              let apart : j % 8 ≢ i % 8 = λ rest. other (omega (arith, same, rest)) in
              ap (λ y. bit_at y (j % 8) == 1) (ap (slice_index (set bytes (i / 8) x)) same ∙ get_or-set_same bytes (i / 8) x 0 within)
              ∙ ap (λ y. y == 1) (others (j % 8) (omega arith) apart)
              ∙ ap (λ y. bit_at y (j % 8) == 1) (sym (ap (slice_index bytes) same))
          | inr ne ↦ ap (λ y. bit_at y (j % 8) == 1) (get_or-set_other bytes (i / 8) (j / 8) x 0 ne)
        ]

-- where each byte is 255, each flag is set
pub flags-all : (n : ℕ) (bytes : List ℕ) (k : ℕ) → k < n → get_or bytes (k / 8) 0 ≡ 255 → get_or (flags_in n bytes) k false ≡ true
flags-all n bytes k h full = flag-at n bytes k h ∙ ap (λ b. bit_at b (k % 8) == 1) full ∙ ap (λ x. x == 1) (bit-255 (k % 8) (omega arith))

-- a bit of what is left of a byte behind its first bits
pub bit-shifted : (byte from k : ℕ) → bit_at (byte / 2 ^ from) k ≡ bit_at byte (from + k)
bit-shifted byte from k = ap (λ n. n % 2) (shr-shr byte from k)

-- what is left of a byte has no bit past the byte's end
pub bit-past : (byte from k : ℕ) → byte < 256 → from < 8 → 8 ≤ from + k → bit_at (byte / 2 ^ from) k ≡ 0
bit-past byte from k small inside past = bit-shifted byte from k ∙ bit_at_above byte 8 (from + k) small past

-- what is left of a byte that isn't 0 has its first bit where the byte has its first from there on
pub first-bit : (byte from : ℕ) → byte < 256 → from < 8 → 0 < byte / 2 ^ from
    → (from + trailing_zeros w8 (byte / 2 ^ from) < 8) × (bit_at byte (from + trailing_zeros w8 (byte / 2 ^ from)) ≡ 1) × ((k : ℕ) → from ≤ k → k < from + trailing_zeros w8 (byte / 2 ^ from) → bit_at byte k ≡ 0)
first-bit byte from small inside some = (
  elim (cases_lt (from + zeros) 8) [ inl low ↦ low | inr past ↦ absurd (omega (arith, lowest.1, bit-past byte from zeros small inside past)) ],
  sym (bit-shifted byte from zeros) ∙ lowest.1,
  λ k after before. ap (bit_at byte) (sym (rest k after)) ∙ sym (bit-shifted byte from (k - from)) ∙ lowest.2 (k - from) (omega (arith, after, before)),
)
  where
    zeros : ℕ
    zeros = trailing_zeros w8 (byte / 2 ^ from)

    lowest : (zeros < 8) × (bit_at (byte / 2 ^ from) zeros ≡ 1) × ((i : ℕ) → i < zeros → bit_at (byte / 2 ^ from) i ≡ 0)
    lowest = bit_at-trailing_zeros w8 (byte / 2 ^ from) some (omega (arith, shr_le byte from, small))

    rest : (k : ℕ) → from ≤ k → from + (k - from) ≡ k
    rest k after = omega (arith, after)

-- where nothing is left, no bit is set
pub no-bit : (byte from : ℕ) → byte / 2 ^ from ≡ 0 → (k : ℕ) → from ≤ k → bit_at byte k ≡ 0
no-bit byte from none k after =
    let rest : from + (k - from) ≡ k = omega (arith, after) in
    ap (bit_at byte) (sym rest) ∙ sym (bit-shifted byte from (k - from)) ∙ ap (λ n. bit_at n (k - from)) none ∙ bit_at-zero (k - from)

-- where no bit of a byte is set from an index on, no flag is
pub clear-byte : (n : ℕ) (bytes : List ℕ) (at bit : ℕ) → bit ≤ 8 → ((k : ℕ) → at % 8 ≤ k → k < bit → bit_at (slice_index bytes (at / 8)) k ≡ 0)
    → (k : ℕ) → at ≤ k → k < at - at % 8 + bit → k < n → get_or (flags_in n bytes) k false ≡ false
clear-byte n bytes at bit low clear k after before inside =
    let same : k / 8 ≡ at / 8 = omega (arith, after, before, low) in
    flag-at n bytes k inside ∙ ap (λ b. bit_at b (k % 8) == 1) (ap (slice_index bytes) same)
    ∙ ap (λ x. x == 1) (clear (k % 8) (omega (arith, same, after)) (omega (arith, same, before)))

-- and where a bit is set, its flag is
pub set-byte : (n : ℕ) (bytes : List ℕ) (at bit : ℕ) → bit < 8 → bit_at (slice_index bytes (at / 8)) bit ≡ 1 → at - at % 8 + bit < n → get_or (flags_in n bytes) (at - at % 8 + bit) false ≡ true
set-byte n bytes at bit low set inside =
    let same : (at - at % 8 + bit) / 8 ≡ at / 8 = omega (arith, low) in
    let rest : (at - at % 8 + bit) % 8 ≡ bit = omega (arith, low) in
    flag-at n bytes (at - at % 8 + bit) inside ∙ ap (λ b. bit_at b ((at - at % 8 + bit) % 8) == 1) (ap (slice_index bytes) same)
    ∙ ap (λ j. bit_at (slice_index bytes (at / 8)) j == 1) rest ∙ ap (λ x. x == 1) set
