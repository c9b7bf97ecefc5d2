-- The eight images of a window, in the order of the overlapping model of WaveFunctionCollapse (Maxim Gumin):
-- four turns, and each turn's reflection right behind it.
use Rattle.std.specs.Prelude.{ℕ, zero, suc, ◌+◌, ◌-◌, ◌*◌, ◌/◌, ◌%◌, ◌==◌, List, slice_index, if◌then◌else◌}
use Rattle.wfc_model.specs.Window.{square}

-- the number in column x of row y of a window that is n wide
abbrev pub cell_at : ℕ → List ℕ → ℕ → ℕ → ℕ
cell_at n w x y = slice_index w (y * n + x)

-- each row the other way round
abbrev pub reflected : ℕ → List ℕ → List ℕ
reflected n w = square n (λ x y. cell_at n w (n - 1 - x) y)

-- a quarter turn, counter-clockwise
abbrev pub rotated : ℕ → List ℕ → List ℕ
rotated n w = square n (λ x y. cell_at n w (n - 1 - y) x)

-- after so many quarter turns
abbrev pub after_turns : ℕ → List ℕ → ℕ → List ℕ
after_turns n w zero = w
after_turns n w (suc turns) = rotated n (after_turns n w turns)

-- image k: an even one is the window after half of k turns, an odd one is the reflection of the one before
abbrev pub image : ℕ → List ℕ → ℕ → List ℕ
image n w k = if k % 2 == 0 then after_turns n w (k / 2) else reflected n (after_turns n w (k / 2))
