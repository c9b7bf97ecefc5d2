-- A step along a row or a column of places: where it leads, and back.
use Rattle.std.proofs.Common.{◌≡◌, ℕ, ◌+◌, ◌-◌, ◌*◌, ◌/◌, ◌%◌, ◌<◌, ◌≤◌, Bool, true, false, ◌⊎◌, inl, inr, refl, sym, ap, ◌∙◌, arith}
use Rattle.std.specs.Prelude.{MatchBool}
use Rattle.std.proofs.lemmas.Bool.{false≢true, cases_lt, and_parts, and_from, leb-true, le-leb, ltb-true, lt-ltb}
use Rattle.std.proofs.lemmas.Bool.Decides.{nat_tests}
use Rattle.std.proofs.lemmas.Nat.{mod-mul-add, div-mul-add}
use Rattle.std.proofs.Math.Nat.{add-mod_right}
use Rattle.wfc_model.specs.Direction.{left_by, down_by, right_by, up_by}
use Rattle.wfc_places.specs.Steps.{IsStepFrom, place_number, is_there, step_end}

-- modulo a side that isn't passed
pub mod_low : (z n : ℕ) → z < n → z % n ≡ z
mod_low z n low = let e : 0 * n + z ≡ z = omega arith in ap (λ k. k % n) (sym e) ∙ mod-mul-add 0 n z low

-- modulo a side that is passed once
pub mod_once : (z n : ℕ) → n ≤ z → z < n + n → z % n ≡ z - n
mod_once z n low high = let e : 1 * n + (z - n) ≡ z = omega arith in ap (λ k. k % n) (sym e) ∙ mod-mul-add 1 n (z - n) (omega arith)

-- and one that is passed twice
mod_twice : (z n : ℕ) → n + n ≤ z → z < n + n + n → z % n ≡ z - (n + n)
mod_twice z n low high = let e : 2 * n + (z - (n + n)) ≡ z = omega arith in ap (λ k. k % n) (sym e) ∙ mod-mul-add 2 n (z - (n + n)) (omega arith)

-- s is one step from at, or would be but for a whole side
pub record IsStepped (count forth back at s : ℕ) : Type 0 where
  pub below : s < count
  pub apart : (s + back ≡ at + forth) ⊎ ((s + back + count ≡ at + forth) ⊎ (s + back ≡ at + forth + count))

pub stepped-is : (count forth back at : ℕ) → at < count → forth + back ≤ 1 → IsStepped count forth back at (step_end count forth back at)
stepped-is count forth back at inside one =
    let z = at + forth + count - back in
    elim (cases_lt z count) [
      | inl l ↦ let e = mod_low z count l in record { below = omega arith; apart = inr (inr (omega arith)) }
      | inr ge ↦ elim (cases_lt z (count + count)) [
        | inl l ↦ let e = mod_once z count ge l in record { below = omega arith; apart = inl (omega arith) }
        | inr more ↦ let e = mod_twice z count more (omega arith) in record { below = omega arith; apart = inr (inl (omega arith)) }
      ]
    ]

returned : (count forth back at s t : ℕ) → at < count → t < count
    → (s + back ≡ at + forth) ⊎ ((s + back + count ≡ at + forth) ⊎ (s + back ≡ at + forth + count))
    → (t + forth ≡ s + back) ⊎ ((t + forth + count ≡ s + back) ⊎ (t + forth ≡ s + back + count))
    → t ≡ at
returned count forth back at s t inside there (inl e) (inl g) = omega arith
returned count forth back at s t inside there (inl e) (inr (inl g)) = omega arith
returned count forth back at s t inside there (inl e) (inr (inr g)) = omega arith
returned count forth back at s t inside there (inr (inl e)) (inl g) = omega arith
returned count forth back at s t inside there (inr (inl e)) (inr (inl g)) = omega arith
returned count forth back at s t inside there (inr (inl e)) (inr (inr g)) = omega arith
returned count forth back at s t inside there (inr (inr e)) (inl g) = omega arith
returned count forth back at s t inside there (inr (inr e)) (inr (inl g)) = omega arith
returned count forth back at s t inside there (inr (inr e)) (inr (inr g)) = omega arith

-- a step forth and the same step back lead to where they began
pub stepped-stepped : (count forth back at : ℕ) → at < count → forth + back ≤ 1 → step_end count back forth (step_end count forth back at) ≡ at
stepped-stepped count forth back at inside one =
    let s = stepped-is count forth back at inside one in
    let t = stepped-is count back forth (step_end count forth back at) s.below (omega arith) in
    returned count forth back at (step_end count forth back at) (step_end count back forth (step_end count forth back at)) inside t.below s.apart t.apart

-- a step that stays inside without wrapping is a step
pub exact : (count forth back at s : ℕ) → IsStepped count forth back at s → is_there count false forth back at ≡ true → s + back ≡ at + forth
exact count forth back at s step there =
    let parts = and_parts _ _ there in
    let low = leb-true back (at + forth) parts.0 in
    let high = ltb-true (at + forth) (count + back) parts.1 in
    let below = step.below in
    elim step.apart [ inl e ↦ e | inr more ↦ elim more [ inl e ↦ omega arith | inr e ↦ omega arith ] ]

-- where a step is, the step back is too
pub there_again : (count : ℕ) (wrap : Bool) (forth back at : ℕ) → at < count → forth + back ≤ 1 → is_there count wrap forth back at ≡ true → is_there count wrap back forth (step_end count forth back at) ≡ true
there_again count true forth back at inside one there = refl
there_again count false forth back at inside one there =
    let e = exact count forth back at (step_end count forth back at) (stepped-is count forth back at inside one) there in
    and_from _ _ (le-leb forth (step_end count forth back at + back) (omega arith)) (lt-ltb (step_end count forth back at + back) (count + forth) (omega arith))

-- both ends are the same modulo the number of places
pub stepped_modulo : (count forth back at s : ℕ) → IsStepped count forth back at s → (at + forth) % count ≡ (s + back) % count
stepped_modulo count forth back at s step =
    elim step.apart [
      | inl e ↦ ap (λ k. k % count) (sym e)
      | inr more ↦ elim more [
        | inl e ↦ ap (λ k. k % count) (sym e) ∙ add-mod_right (s + back) count
        | inr e ↦ sym (add-mod_right (at + forth) count) ∙ ap (λ k. k % count) (sym e)
      ]
    ]

-- a step forth from a place that isn't the last, or along a side that wraps, is there
pub forth_there : (count : ℕ) (wrap : Bool) (at : ℕ) → (wrap ≡ true) ⊎ (at + 1 < count) → is_there count wrap 1 0 at ≡ true
forth_there count true at which = refl
forth_there count false at (inl e) = absurd (false≢true e)
forth_there count false at (inr l) = and_from _ _ (le-leb 0 (at + 1) (omega arith)) (lt-ltb (at + 1) (count + 0) (omega arith))

pub stay_there : (count : ℕ) (wrap : Bool) (at : ℕ) → at < count → is_there count wrap 0 0 at ≡ true
stay_there count true at inside = refl
stay_there count false at inside = and_from _ _ (le-leb 0 (at + 0) (omega arith)) (lt-ltb (at + 0) (count + 0) (omega arith))

-- no step leads nowhere else
pub stayed : (count at : ℕ) → at < count → step_end count 0 0 at ≡ at
stayed count at inside =
    let step = stepped-is count 0 0 at inside (omega arith) in
    let low = step.below in
    elim step.apart [ inl e ↦ omega arith | inr more ↦ elim more [ inl e ↦ omega arith | inr e ↦ omega arith ] ]

-- a step goes one column or one row at most
pub one_across : (d : ℕ) → right_by d + left_by d ≤ 1
one_across d = grind (arith, nat_tests)

pub one_down : (d : ℕ) → down_by d + up_by d ≤ 1
one_down d = grind (arith, nat_tests)

-- ---- a step along one side

-- what is one further along modulo a side is the same
mod_same : (count back s u : ℕ) → s < count → u < count → back ≤ 1 → (s + back) % count ≡ (u + back) % count → s ≡ u
mod_same count back s u below inside one same =
    elim (cases_lt (s + back) count) [
      | inl l ↦ elim (cases_lt (u + back) count) [
        | inl m ↦ let a = mod_low (s + back) count l in let b = mod_low (u + back) count m in omega arith
        | inr m ↦ let a = mod_low (s + back) count l in let b = mod_once (u + back) count m (omega arith) in omega arith
      ]
      | inr l ↦ elim (cases_lt (u + back) count) [
        | inl m ↦ let a = mod_once (s + back) count l (omega arith) in let b = mod_low (u + back) count m in omega arith
        | inr m ↦ let a = mod_once (s + back) count l (omega arith) in let b = mod_once (u + back) count m (omega arith) in omega arith
      ]
    ]

-- a step that is there leads forth and back by so much
pub step-apart : (wrap : Bool) (count forth back at : ℕ) → at < count → forth + back ≤ 1 → is_there count wrap forth back at ≡ true
    → MatchBool wrap ((at + forth) % count ≡ (step_end count forth back at + back) % count) (at + forth ≡ step_end count forth back at + back)
step-apart true count forth back at inside one there = stepped_modulo count forth back at (step_end count forth back at) (stepped-is count forth back at inside one)
step-apart false count forth back at inside one there = sym (exact count forth back at (step_end count forth back at) (stepped-is count forth back at inside one) there)

-- and what lies so far is where the step leads
pub apart-there : (wrap : Bool) (count forth back at u : ℕ) → at < count → u < count → forth + back ≤ 1
    → MatchBool wrap ((at + forth) % count ≡ (u + back) % count) (at + forth ≡ u + back) → is_there count wrap forth back at ≡ true
apart-there true count forth back at u inside other one apart = refl
apart-there false count forth back at u inside other one apart = and_from _ _ (le-leb back (at + forth) (omega (arith, apart))) (lt-ltb (at + forth) (count + back) (omega (arith, apart)))

pub apart-stepped : (wrap : Bool) (count forth back at u : ℕ) → at < count → u < count → forth + back ≤ 1
    → MatchBool wrap ((at + forth) % count ≡ (u + back) % count) (at + forth ≡ u + back) → step_end count forth back at ≡ u
apart-stepped true count forth back at u inside other one apart =
    let s = stepped-is count forth back at inside one in
    mod_same count back (step_end count forth back at) u s.below other (omega arith) (sym (stepped_modulo count forth back at (step_end count forth back at) s) ∙ apart)
apart-stepped false count forth back at u inside other one apart =
    let s = stepped-is count forth back at inside one in
    let low = s.below in
    let e = exact count forth back at (step_end count forth back at) s (apart-there false count forth back at u inside other one apart) in
    omega (arith, apart)

-- ---- a step of places

-- by its two sides
pub step_from : (wrap : Bool) (columns rows d x y u v : ℕ)
    → MatchBool wrap ((x + right_by d) % columns ≡ (u + left_by d) % columns) (x + right_by d ≡ u + left_by d)
    → MatchBool wrap ((y + down_by d) % rows ≡ (v + up_by d) % rows) (y + down_by d ≡ v + up_by d) → IsStepFrom wrap columns rows d x y u v
step_from true columns rows d x y u v across down = record { across = across; down = down }
step_from false columns rows d x y u v across down = record { across = across; down = down }

pub step_across : (wrap : Bool) (columns rows d x y u v : ℕ) → IsStepFrom wrap columns rows d x y u v
    → MatchBool wrap ((x + right_by d) % columns ≡ (u + left_by d) % columns) (x + right_by d ≡ u + left_by d)
step_across true columns rows d x y u v step = step.across
step_across false columns rows d x y u v step = step.across

pub step_down : (wrap : Bool) (columns rows d x y u v : ℕ) → IsStepFrom wrap columns rows d x y u v
    → MatchBool wrap ((y + down_by d) % rows ≡ (v + up_by d) % rows) (y + down_by d ≡ v + up_by d)
step_down true columns rows d x y u v step = step.down
step_down false columns rows d x y u v step = step.down

-- cells of one number are of one column and one row
pub same_column : (w x y u v : ℕ) → x < w → u < w → place_number w x y ≡ place_number w u v → x ≡ u
same_column w x y u v inside other same = sym (mod-mul-add y w x inside) ∙ ap (λ k. k % w) same ∙ mod-mul-add v w u other

pub same_row : (w x y u v : ℕ) → x < w → u < w → place_number w x y ≡ place_number w u v → y ≡ v
same_row w x y u v inside other same = sym (div-mul-add y w x inside) ∙ ap (λ k. k / w) same ∙ div-mul-add v w u other
