-- The numbers below one that pass a test: counted, and written one after another.
use Rattle.std.proofs.Common.{◌≡◌, ℕ, ◌+◌, ◌≤◌, Bool, true, false, cond, List, [], ◌∷◌, ◌++◌, length, filter, refl, sym, ap, ◌∙◌, append_assoc, append-nil, arith, length-append, if◌then◌else◌}
use Rattle.std.proofs.lemmas.Grind.{flat_map-append}
use Rattle.std.proofs.lemmas.List.Elements.{filter-append}
use Rattle.std.specs.List.{flat_map, range_with_len}
use Rattle.wfc_render.proofs.RangeLemmas.{range_next}

-- one number more
kept_next : (p : ℕ → Bool) (n : ℕ) → filter p (range_with_len 0 (n + 1)) ≡ filter p (range_with_len 0 n) ++ filter p (n ∷ [])
kept_next p n = ap (filter p) (range_next n) ∙ filter-append p (range_with_len 0 n) (n ∷ [])

-- is counted where it passes
pub count_next : (p : ℕ → Bool) (n count one : ℕ) → count ≡ length (filter p (range_with_len 0 n)) → one ≡ (if p n then 1 else 0) → count + one ≡ length (filter p (range_with_len 0 (n + 1)))
count_next p n count one so_far is =
    ap (λ k. k + one) so_far ∙ by (p n) refl
    ∙ sym (ap length (kept_next p n) ∙ length-append (filter p (range_with_len 0 n)) (filter p (n ∷ [])))
  where
    by : (b : Bool) → p n ≡ b → length (filter p (range_with_len 0 n)) + one ≡ length (filter p (range_with_len 0 n)) + length (filter p (n ∷ []))
    by true e = ap (λ k. length (filter p (range_with_len 0 n)) + k) (is ∙ ap (λ b. if b then 1 else 0) e ∙ sym (ap (λ b. length (cond b (n ∷ []) [])) e))
    by false e = ap (λ k. length (filter p (range_with_len 0 n)) + k) (is ∙ ap (λ b. if b then 1 else 0) e ∙ sym (ap (λ b. length (cond b (n ∷ []) [])) e))

-- at most one is counted
pub one_at_most : (b : Bool) (one : ℕ) → one ≡ (if b then 1 else 0) → one ≤ 1
one_at_most true one is = omega arith
one_at_most false one is = omega arith

-- is written where it passes
pub kept_written : (f : ℕ → List ℕ) (p : ℕ → Bool) (n : ℕ) (start text new : List ℕ) → text ≡ start ++ flat_map f (filter p (range_with_len 0 n)) → new ≡ text ++ (if p n then f n else [])
    → new ≡ start ++ flat_map f (filter p (range_with_len 0 (n + 1)))
kept_written f p n start text new before one =
    one ∙ ap (λ t. t ++ (if p n then f n else [])) before
    ∙ append_assoc start (flat_map f (filter p (range_with_len 0 n))) (if p n then f n else [])
    ∙ ap (λ t. start ++ (flat_map f (filter p (range_with_len 0 n)) ++ t)) (by (p n) refl)
    ∙ sym (ap (λ ns. start ++ flat_map f ns) (kept_next p n) ∙ ap (λ t. start ++ t) (flat_map-append f (filter p (range_with_len 0 n)) (filter p (n ∷ []))))
  where
    by : (b : Bool) → p n ≡ b → (if p n then f n else []) ≡ flat_map f (filter p (n ∷ []))
    by true e = ap (λ b. if b then f n else []) e ∙ sym (append-nil (f n)) ∙ sym (ap (λ b. flat_map f (cond b (n ∷ []) [])) e)
    by false e = ap (λ b. if b then f n else []) e ∙ sym (ap (λ b. flat_map f (cond b (n ∷ []) [])) e)
