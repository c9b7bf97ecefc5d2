-- Turns and reflections of windows, one behind another.
use Rattle.std.proofs.Common.{◌≡◌, ℕ, zero, suc, ◌+◌, ◌-◌, ◌*◌, ◌/◌, ◌%◌, ◌<◌, ◌≤◌, List, length, refl, sym, subst, ap, ◌∙◌, arith, inl, inr}
use Rattle.std.proofs.lemmas.Bool.{cases_lt, cond-true, cond-false, lt-ltb, le-ltb}
use Rattle.wfc_model.specs.Image.{cell_at, image, reflected, rotated, after_turns}
use Rattle.wfc_model.proofs.SquareLemmas.{length-square, square-at, square-same, square-from}
use Rattle.wfc_symmetry.specs.Class.{action_behind, image_number}

-- what stands in a column and a row after a quarter turn, and after a reflection
cell-rotated : (n : ℕ) (v : List ℕ) (x y : ℕ) → x < n → y < n → cell_at n (rotated n v) x y ≡ cell_at n v (n - 1 - y) x
cell-rotated n v x y column row = square-at n (λ x y. cell_at n v (n - 1 - y) x) x y column row

cell-reflected : (n : ℕ) (v : List ℕ) (x y : ℕ) → x < n → y < n → cell_at n (reflected n v) x y ≡ cell_at n v (n - 1 - x) y
cell-reflected n v x y column row = square-at n (λ x y. cell_at n v (n - 1 - x) y) x y column row

-- the same from the other end
inside : (n x : ℕ) → x < n → n - 1 - x < n
inside n x below = omega arith

back : (n x : ℕ) → x < n → n - 1 - (n - 1 - x) ≡ x
back n x below = omega arith

-- two quarter turns
cell-half : (n : ℕ) (v : List ℕ) (x y : ℕ) → x < n → y < n → cell_at n (rotated n (rotated n v)) x y ≡ cell_at n v (n - 1 - x) (n - 1 - y)
cell-half n v x y column row =
    cell-rotated n (rotated n v) x y column row ∙ cell-rotated n v (n - 1 - y) x (inside n y row) column

-- two reflections are none
reflected-reflected : (n : ℕ) (v : List ℕ) → length v ≡ n * n → reflected n (reflected n v) ≡ v
reflected-reflected n v long =
    sym (square-from n (λ x y. cell_at n (reflected n v) (n - 1 - x) y) v long (λ x y column row.
    sym (cell-reflected n v (n - 1 - x) y (inside n x column) row ∙ ap (λ c. cell_at n v c y) (back n x column))))

-- four quarter turns are none
rotated-four : (n : ℕ) (v : List ℕ) → length v ≡ n * n → rotated n (rotated n (rotated n (rotated n v))) ≡ v
rotated-four n v long =
    sym (square-from n (λ x y. cell_at n (rotated n (rotated n (rotated n v))) (n - 1 - y) x) v long (λ x y column row.
    sym (cell-rotated n (rotated n (rotated n v)) (n - 1 - y) x (inside n y row) column
    ∙ cell-half n v (n - 1 - x) (n - 1 - y) (inside n x column) (inside n y row)
    ∙ ap (λ c. cell_at n v c (n - 1 - (n - 1 - y))) (back n x column)
    ∙ ap (λ r. cell_at n v x r) (back n y row))))

-- a quarter turn behind a reflection is the reflection behind three
rotated-reflected : (n : ℕ) (v : List ℕ) → rotated n (reflected n v) ≡ reflected n (rotated n (rotated n (rotated n v)))
rotated-reflected n v =
    square-same n (λ x y. cell_at n (reflected n v) (n - 1 - y) x) (λ x y. cell_at n (rotated n (rotated n (rotated n v))) (n - 1 - x) y) (λ x y column row.
    cell-reflected n v (n - 1 - y) x (inside n y row) column
    ∙ ap (λ c. cell_at n v c x) (back n y row)
    ∙ sym (cell-rotated n (rotated n (rotated n v)) (n - 1 - x) y (inside n x column) row
    ∙ cell-half n v (n - 1 - y) (n - 1 - x) (inside n y row) (inside n x column)
    ∙ ap (λ c. cell_at n v c (n - 1 - (n - 1 - x))) (back n y row)
    ∙ ap (λ r. cell_at n v y r) (back n x column)))

-- a turned window is as long as it was
length-after_turns : (n : ℕ) (v : List ℕ) (turns : ℕ) → length v ≡ n * n → length (after_turns n v turns) ≡ n * n
length-after_turns n v zero long = long
length-after_turns n v (suc turns) long = length-square n (λ x y. cell_at n (after_turns n v turns) (n - 1 - y) x)

-- turns behind turns
after_turns-after_turns : (n : ℕ) (v : List ℕ) (more turns : ℕ) → after_turns n (after_turns n v turns) more ≡ after_turns n v (more + turns)
after_turns-after_turns n v zero turns = ap (after_turns n v) (let k : turns ≡ 0 + turns = omega arith in k)
after_turns-after_turns n v (suc more) turns =
    ap (rotated n) (after_turns-after_turns n v more turns)
    ∙ ap (after_turns n v) (let k : suc (more + turns) ≡ suc more + turns = omega arith in k)

-- turns behind a reflection are the reflection behind three times as many
after_turns-reflected : (n : ℕ) (v : List ℕ) (turns : ℕ) → after_turns n (reflected n v) turns ≡ reflected n (after_turns n v (3 * turns))
after_turns-reflected n v zero = refl
after_turns-reflected n v (suc turns) =
    ap (rotated n) (after_turns-reflected n v turns)
    ∙ rotated-reflected n (after_turns n v (3 * turns))
    ∙ ap (λ k. reflected n (after_turns n v k)) (let k : suc (suc (suc (3 * turns))) ≡ 3 * suc turns = omega arith in k)

-- whole rounds change nothing
after_turns-rounds : (n : ℕ) (v : List ℕ) (rounds turns : ℕ) → length v ≡ n * n → after_turns n v (4 * rounds + turns) ≡ after_turns n v turns
after_turns-rounds n v zero turns long = ap (after_turns n v) (let k : 4 * 0 + turns ≡ turns = omega arith in k)
after_turns-rounds n v (suc rounds) turns long =
    ap (after_turns n v) (let k : 4 * suc rounds + turns ≡ suc (suc (suc (suc (4 * rounds + turns)))) = omega arith in k)
    ∙ rotated-four n (after_turns n v (4 * rounds + turns)) (length-after_turns n v (4 * rounds + turns) long)
    ∙ after_turns-rounds n v rounds turns long

-- so many turns as any number that differs by whole rounds
after_turns-same : (n : ℕ) (v : List ℕ) (k turns rounds : ℕ) → length v ≡ n * n → k ≡ 4 * rounds + turns → after_turns n v k ≡ after_turns n v turns
after_turns-same n v k turns rounds long same = ap (after_turns n v) same ∙ after_turns-rounds n v rounds turns long

-- the image that an action makes: so many turns, or a reflection behind them
image-after_turns : (n : ℕ) (v : List ℕ) (a : ℕ) → a < 4 → image n v (image_number a) ≡ after_turns n v a
image-after_turns n v zero below = refl
image-after_turns n v (suc zero) below = refl
image-after_turns n v (suc (suc zero)) below = refl
image-after_turns n v (suc (suc (suc zero))) below = refl
image-after_turns n v (suc (suc (suc (suc a)))) below = absurd (omega arith)

image-reflected : (n : ℕ) (v : List ℕ) (a : ℕ) → a < 4 → image n v (image_number (4 + a)) ≡ reflected n (after_turns n v a)
image-reflected n v zero below = refl
image-reflected n v (suc zero) below = refl
image-reflected n v (suc (suc zero)) below = refl
image-reflected n v (suc (suc (suc zero))) below = refl
image-reflected n v (suc (suc (suc (suc a)))) below = absurd (omega arith)

-- the action that one behind another is, in each of the four cases
behind-low-low : (a b : ℕ) → a < 4 → b < 4 → action_behind a b ≡ (a + b) % 4
behind-low-low a b in_a in_b = cond-true _ _ _ (lt-ltb b 4 in_b) ∙ omega arith

behind-high-low : (a b : ℕ) → a < 4 → b < 4 → action_behind (4 + a) b ≡ 4 + (a + b) % 4
behind-high-low a b in_a in_b = cond-true _ _ _ (lt-ltb b 4 in_b) ∙ omega arith

behind-low-high : (a b : ℕ) → a < 4 → b < 4 → action_behind a (4 + b) ≡ 4 + (b + 3 * a) % 4
behind-low-high a b in_a in_b = cond-false _ _ _ (le-ltb (4 + b) 4 (omega arith)) ∙ omega arith

behind-high-high : (a b : ℕ) → a < 4 → b < 4 → action_behind (4 + a) (4 + b) ≡ (b + 3 * a) % 4
behind-high-high a b in_a in_b = cond-false _ _ _ (le-ltb (4 + b) 4 (omega arith)) ∙ omega arith

-- so many turns, and the rounds among them
mod_rounds : (k : ℕ) → k ≡ 4 * (k / 4) + k % 4
mod_rounds k = omega arith

mod_below : (k : ℕ) → k % 4 < 4
mod_below k = omega arith

-- the image that an action makes of the image that another made is the one that they are joined to, in each of the four cases
image-low-low : (n a b : ℕ) (w : List ℕ) → length w ≡ n * n → a < 4 → b < 4
    → image n (image n w (image_number b)) (image_number a) ≡ image n w (image_number (action_behind a b))
image-low-low n a b w long in_a in_b =
    image-after_turns n (image n w (image_number b)) a in_a
    ∙ ap (λ v. after_turns n v a) (image-after_turns n w b in_b)
    ∙ after_turns-after_turns n w a b
    ∙ after_turns-same n w (a + b) ((a + b) % 4) ((a + b) / 4) long (mod_rounds (a + b))
    ∙ sym (image-after_turns n w ((a + b) % 4) (mod_below (a + b)))
    ∙ ap (λ k. image n w (image_number k)) (sym (behind-low-low a b in_a in_b))

image-high-low : (n a b : ℕ) (w : List ℕ) → length w ≡ n * n → a < 4 → b < 4
    → image n (image n w (image_number b)) (image_number (4 + a)) ≡ image n w (image_number (action_behind (4 + a) b))
image-high-low n a b w long in_a in_b =
    image-reflected n (image n w (image_number b)) a in_a
    ∙ ap (λ v. reflected n (after_turns n v a)) (image-after_turns n w b in_b)
    ∙ ap (reflected n) (after_turns-after_turns n w a b ∙ after_turns-same n w (a + b) ((a + b) % 4) ((a + b) / 4) long (mod_rounds (a + b)))
    ∙ sym (image-reflected n w ((a + b) % 4) (mod_below (a + b)))
    ∙ ap (λ k. image n w (image_number k)) (sym (behind-high-low a b in_a in_b))

-- turns behind a reflection of a turned window
after_turns-image : (n a b : ℕ) (w : List ℕ) → length w ≡ n * n → after_turns n (reflected n (after_turns n w b)) a ≡ reflected n (after_turns n w ((b + 3 * a) % 4))
after_turns-image n a b w long =
    after_turns-reflected n (after_turns n w b) a
    ∙ ap (reflected n) (after_turns-after_turns n w (3 * a) b
    ∙ after_turns-same n w (3 * a + b) ((b + 3 * a) % 4) ((b + 3 * a) / 4) long (omega arith))

image-low-high : (n a b : ℕ) (w : List ℕ) → length w ≡ n * n → a < 4 → b < 4
    → image n (image n w (image_number (4 + b))) (image_number a) ≡ image n w (image_number (action_behind a (4 + b)))
image-low-high n a b w long in_a in_b =
    image-after_turns n (image n w (image_number (4 + b))) a in_a
    ∙ ap (λ v. after_turns n v a) (image-reflected n w b in_b)
    ∙ after_turns-image n a b w long
    ∙ sym (image-reflected n w ((b + 3 * a) % 4) (mod_below (b + 3 * a)))
    ∙ ap (λ k. image n w (image_number k)) (sym (behind-low-high a b in_a in_b))

image-high-high : (n a b : ℕ) (w : List ℕ) → length w ≡ n * n → a < 4 → b < 4
    → image n (image n w (image_number (4 + b))) (image_number (4 + a)) ≡ image n w (image_number (action_behind (4 + a) (4 + b)))
image-high-high n a b w long in_a in_b =
    image-reflected n (image n w (image_number (4 + b))) a in_a
    ∙ ap (λ v. reflected n (after_turns n v a)) (image-reflected n w b in_b)
    ∙ ap (reflected n) (after_turns-image n a b w long)
    ∙ reflected-reflected n (after_turns n w ((b + 3 * a) % 4)) (length-after_turns n w ((b + 3 * a) % 4) long)
    ∙ sym (image-after_turns n w ((b + 3 * a) % 4) (mod_below (b + 3 * a)))
    ∙ ap (λ k. image n w (image_number k)) (sym (behind-high-high a b in_a in_b))

-- the same by an action that a number more than 3 is
abbrev AreJoined : ℕ → List ℕ → ℕ → ℕ → Type 0
AreJoined n w a b = image n (image n w (image_number b)) (image_number a) ≡ image n w (image_number (action_behind a b))

from_four : (a : ℕ) → 4 ≤ a → 4 + (a - 4) ≡ a
from_four a high = omega arith

pub image-behind : (n a b : ℕ) (w : List ℕ) → length w ≡ n * n → a < 8 → b < 8
    → image n (image n w (image_number b)) (image_number a) ≡ image n w (image_number (action_behind a b))
image-behind n a b w long in_a in_b = elim (cases_lt a 4) [
  | inl la ↦ elim (cases_lt b 4) [
    | inl lb ↦ image-low-low n a b w long la lb
    | inr hb ↦ subst (λ b. AreJoined n w a b) (from_four b hb) (image-low-high n a (b - 4) w long la (omega arith))
  ]
  | inr ha ↦ elim (cases_lt b 4) [
    | inl lb ↦ subst (λ a. AreJoined n w a b) (from_four a ha) (image-high-low n (a - 4) b w long (omega arith) lb)
    | inr hb ↦
        subst (λ a. AreJoined n w a b) (from_four a ha)
        (subst (λ b. AreJoined n w (4 + (a - 4)) b) (from_four b hb) (image-high-high n (a - 4) (b - 4) w long (omega arith) (omega arith)))
  ]
]

-- each action is undone by one: turns by the rest of the round, and a reflection behind turns by itself
pub action_undone : (a : ℕ) → a < 8 → (b : ℕ) × (b < 8) × (action_behind b a ≡ 0)
action_undone a below = elim (cases_lt a 4) [
  | inl low ↦ ((4 - a) % 4, omega arith, cond-true _ _ _ (lt-ltb a 4 low) ∙ omega arith)
  | inr high ↦ (a, below, cond-false _ _ _ (le-ltb a 4 high) ∙ omega arith)
]
