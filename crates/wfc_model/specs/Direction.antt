-- Directions: 0 is to the left, 1 down, 2 to the right and 3 up. A box adds 4 and 5, which lead from layer to layer.
use Rattle.std.specs.Prelude.{◌≡◌, ℕ, ◌+◌, ◌-◌, ◌%◌, ◌==◌, nat_lt, if◌then◌else◌}

-- how far a step in a direction goes to the left
abbrev pub left_by : ℕ → ℕ
left_by direction = if direction == 0 then 1 else 0

-- and down
abbrev pub down_by : ℕ → ℕ
down_by direction = if direction == 1 then 1 else 0

-- and to the right
abbrev pub right_by : ℕ → ℕ
right_by direction = if direction == 2 then 1 else 0

-- and up
abbrev pub up_by : ℕ → ℕ
up_by direction = if direction == 3 then 1 else 0

-- the direction that leads back: 0 and 2, 1 and 3, 4 and 5 are opposite
abbrev pub opposite : ℕ → ℕ
opposite direction = if nat_lt direction 4 then (direction + 2) % 4 else 9 - direction

-- (i, j) lies one step in the direction from (a, b)
pub record IsStep (direction a b i j : ℕ) : Type 0 where
  pub across : a + right_by direction ≡ i + left_by direction
  pub down : b + down_by direction ≡ j + up_by direction

-- and modulo the sides of a picture
pub record IsStepModulo (direction width height a b i j : ℕ) : Type 0 where
  pub across : (a + right_by direction) % width ≡ (i + left_by direction) % width
  pub down : (b + down_by direction) % height ≡ (j + up_by direction) % height
