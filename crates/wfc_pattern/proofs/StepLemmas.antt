-- Windows at neighbouring places, and agreement in the opposite direction.
use Rattle.std.proofs.Common.{◌≡◌, ℕ, zero, suc, ◌+◌, ◌-◌, ◌%◌, ◌<◌, ◌≤◌, List, sym, ap, ◌∙◌, arith, refl}
use Rattle.std.proofs.lemmas.Bool.Decides.{nat_tests}
use Rattle.std.proofs.Math.Nat.{mod-add-mod, add-mod_right}
use Rattle.wfc_model.specs.Raster.{Raster, IsRaster, height_of, number_at}
use Rattle.wfc_model.specs.Window.{window}
use Rattle.wfc_model.proofs.SquareLemmas.{square-at}
use Rattle.wfc_model.specs.Direction.{left_by, down_by, right_by, up_by, opposite, IsStepModulo}
use Rattle.wfc_pattern.specs.Agreement.{Agrees, agrees}
use Rattle.wfc_pattern.proofs.AgreementLemmas.{everywhere, tested, same_test}

-- what is the same modulo a side with c more is the same modulo the side
cancelled : (w c s t : ℕ) → c ≤ w → (s + c) % w ≡ (t + c) % w → s % w ≡ t % w
cancelled w c s t small same =
    let s_is : s + w ≡ s + c + (w - c) = omega arith in
    let t_is : t + c + (w - c) ≡ t + w = omega arith in
    sym (add-mod_right s w)
    ∙ ap (λ k. k % w) s_is
    ∙ sym (mod-add-mod (s + c) w (w - c))
    ∙ ap (λ k. (k + (w - c)) % w) same
    ∙ mod-add-mod (t + c) w (w - c)
    ∙ ap (λ k. k % w) t_is
    ∙ add-mod_right t w

-- one step on a side and one step in a window lead to the same column or row
same_line : (w right left x u i a : ℕ) → right + left ≤ w → (x + right) % w ≡ (u + left) % w → a + right ≡ i + left → (x + i) % w ≡ (u + a) % w
same_line w right left x u i a small places numbers =
    let x_is : x + i + (right + left) ≡ x + right + (i + left) = omega arith in
    let u_is : u + left + (a + right) ≡ u + a + (right + left) = omega arith in
    cancelled w (right + left) (x + i) (u + a) small
    (ap (λ k. k % w) x_is
    ∙ sym (mod-add-mod (x + right) w (i + left))
    ∙ ap (λ k. (k + (i + left)) % w) places
    ∙ mod-add-mod (u + left) w (i + left)
    ∙ ap (λ k. (u + left + k) % w) (sym numbers)
    ∙ ap (λ k. k % w) u_is)

-- a step goes one column or one row at most
short_across : (direction w : ℕ) → 0 < w → right_by direction + left_by direction ≤ w
short_across direction w some = grind (arith, nat_tests)

short_down : (direction h : ℕ) → 0 < h → down_by direction + up_by direction ≤ h
short_down direction h some = grind (arith, nat_tests)

pub neighbours_agree : (m : Raster) (n x y u v direction : ℕ) → IsRaster m → IsStepModulo direction m.width (height_of m) x y u v → Agrees n (window m x y n) (window m u v n) direction
neighbours_agree m n x y u v direction raster step i j a b column row a_in b_in inner =
    let f : ℕ → ℕ → ℕ = λ i j. number_at m ((x + i) % m.width) ((y + j) % height_of m) in
    let g : ℕ → ℕ → ℕ = λ i j. number_at m ((u + i) % m.width) ((v + j) % height_of m) in
    let column_is = same_line m.width (right_by direction) (left_by direction) x u i a (short_across direction m.width raster.some_column) step.across inner.across in
    let row_is = same_line (height_of m) (down_by direction) (up_by direction) y v j b (short_down direction (height_of m) raster.some_row) step.down inner.down in
    square-at n f i j column row
    ∙ ap (λ k. number_at m k ((y + j) % height_of m)) column_is
    ∙ ap (number_at m ((u + a) % m.width)) row_is
    ∙ sym (square-at n g a b a_in b_in)

-- what the opposite direction goes
record IsOpposite (direction : ℕ) : Type 0 where
  left : left_by (opposite direction) ≡ right_by direction
  right : right_by (opposite direction) ≡ left_by direction
  up : up_by (opposite direction) ≡ down_by direction
  down : down_by (opposite direction) ≡ up_by direction

goes_back : (direction : ℕ) → direction < 4 → IsOpposite direction
goes_back zero four = record { left = refl; right = refl; up = refl; down = refl }
goes_back (suc zero) four = record { left = refl; right = refl; up = refl; down = refl }
goes_back (suc (suc zero)) four = record { left = refl; right = refl; up = refl; down = refl }
goes_back (suc (suc (suc zero))) four = record { left = refl; right = refl; up = refl; down = refl }
goes_back (suc (suc (suc (suc more)))) four = absurd (omega arith)

-- what agrees in a direction agrees the other way round in the opposite one, and back
turned_round : (n : ℕ) (p q : List ℕ) (direction : ℕ) → direction < 4 → Agrees n p q direction → Agrees n q p (opposite direction)
turned_round n p q direction four agree i j a b column row a_in b_in step =
    let back = goes_back direction four in
    sym (agree a b i j a_in b_in column row (record { across = omega (arith, step.across, back.left, back.right); down = omega (arith, step.down, back.up, back.down) }))

turned_back : (n : ℕ) (p q : List ℕ) (direction : ℕ) → direction < 4 → Agrees n q p (opposite direction) → Agrees n p q direction
turned_back n p q direction four agree i j a b column row a_in b_in step =
    let back = goes_back direction four in
    sym (agree a b i j a_in b_in column row (record { across = omega (arith, step.across, back.left, back.right); down = omega (arith, step.down, back.up, back.down) }))

pub opposite_agrees : (n : ℕ) (p q : List ℕ) (direction : ℕ) → direction < 4 → agrees n p q direction ≡ agrees n q p (opposite direction)
opposite_agrees n p q direction four =
    same_test n q p (opposite direction) (agrees n p q direction) (λ test. turned_round n p q direction four (everywhere n p q direction test)) (λ agree. tested n p q direction (turned_back n p q direction four agree))
