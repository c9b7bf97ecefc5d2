-- Numbers in parts, as they are kept.
use Rattle.std.proofs.Common.{◌≡◌, ℕ, ◌/◌, ◌%◌, ◌<◌, Bool, true, false, List, [], ◌∷◌, ◌++◌, length, take, ◌∙◌, ap, sym, arith, inl, inr}
use Rattle.std.proofs.lemmas.Bool.{cases_Bool, cond-true, cond-false}
use Rattle.wfc_log.specs.Packed.{ArePacked}
use Rattle.wfc_log.specs.Numbered.{number_from, numbers_from, packed_numbers, short_limit}
use Rattle.wfc_log.specs.declared.packed.Numbers.TheInside.{Inside}
use Rattle.wfc_log.proofs.NumberedLemmas.{number-parts, numbers-length, numbers-push, numbers-take}

-- as many parts of three bytes as of two
pub shorts-length : (a : Inside) → ArePacked a → length (numbers_from 65536 a.lows.items a.bytes.items) ≡ length a.lows.items
shorts-length a h = numbers-length 65536 a.lows.items a.bytes.items (omega (arith, h.one_byte_each, a.lows.ok.0, a.bytes.ok.0))

-- as many numbers as low parts
pub packed-length : (a : Inside) → ArePacked a → length (packed_numbers a.wide a.lows.items a.bytes.items a.tops.numbers) ≡ length a.lows.items
packed-length a h =
    let shorts = numbers_from 65536 a.lows.items a.bytes.items in
    elim (cases_Bool a.wide) [
      | inl t ↦
          ap length (cond-true a.wide _ _ t)
          ∙ numbers-length short_limit shorts a.tops.numbers (omega (arith, h.one_top_each t, a.lows.ok.0, shorts-length a h))
          ∙ shorts-length a h
      | inr f ↦ ap length (cond-false a.wide _ _ f) ∙ shorts-length a h
    ]

-- three bytes of one number more
pub shorts-push : (ls bs : List ℕ) (n : ℕ) → length bs ≡ length ls
    → numbers_from 65536 (ls ++ n % 65536 ∷ []) (bs ++ n / 65536 % 256 ∷ []) ≡ numbers_from 65536 ls bs ++ n % short_limit ∷ []
shorts-push ls bs n l =
    let rest : number_from 65536 (n % 65536) (n / 65536 % 256) ≡ n % short_limit = omega arith in
    numbers-push 65536 ls bs (n % 65536) (n / 65536 % 256) l ∙ ap (λ x. numbers_from 65536 ls bs ++ x ∷ []) rest

-- one number more, where they are wide
pub wide-push : (w : Bool) (ls bs ts : List ℕ) (n : ℕ) → w ≡ true → length bs ≡ length ls → length ts ≡ length ls
    → packed_numbers w (ls ++ n % 65536 ∷ []) (bs ++ n / 65536 % 256 ∷ []) (ts ++ n / short_limit ∷ []) ≡ packed_numbers w ls bs ts ++ n ∷ []
wide-push w ls bs ts n t lb lt =
    let shorts = numbers_from 65536 ls bs in
    cond-true w _ _ t
    ∙ ap (λ ns. numbers_from short_limit ns (ts ++ n / short_limit ∷ [])) (shorts-push ls bs n lb)
    ∙ numbers-push short_limit shorts ts (n % short_limit) (n / short_limit) (omega (arith, lt, numbers-length 65536 ls bs lb))
    ∙ ap (λ x. numbers_from short_limit shorts ts ++ x ∷ []) (number-parts short_limit n)
    ∙ ap (λ ns. ns ++ n ∷ []) (sym (cond-true w _ _ t))

-- and where they are not
pub narrow-push : (w : Bool) (ls bs ts : List ℕ) (n : ℕ) → w ≡ false → length bs ≡ length ls → n < short_limit
    → packed_numbers w (ls ++ n % 65536 ∷ []) (bs ++ n / 65536 % 256 ∷ []) ts ≡ packed_numbers w ls bs ts ++ n ∷ []
narrow-push w ls bs ts n f lb few =
    let whole : n % short_limit ≡ n = omega (arith, few) in
    cond-false w _ _ f
    ∙ shorts-push ls bs n lb
    ∙ ap (λ x. numbers_from 65536 ls bs ++ x ∷ []) whole
    ∙ ap (λ ns. ns ++ n ∷ []) (sym (cond-false w _ _ f))

-- the first numbers
pub packed-take : (w : Bool) (k : ℕ) (ls bs ts : List ℕ) → packed_numbers w (take k ls) (take k bs) (take k ts) ≡ take k (packed_numbers w ls bs ts)
packed-take w k ls bs ts =
    let shorts = numbers_from 65536 ls bs in
    let front = numbers-take 65536 k ls bs in
    elim (cases_Bool w) [
      | inl t ↦
          cond-true w _ _ t
          ∙ ap (λ ns. numbers_from short_limit ns (take k ts)) front
          ∙ numbers-take short_limit k shorts ts
          ∙ ap (take k) (sym (cond-true w _ _ t))
      | inr f ↦ cond-false w _ _ f ∙ front ∙ ap (take k) (sym (cond-false w _ _ f))
    ]
