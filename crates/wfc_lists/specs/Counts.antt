-- Tests, as what is counted.
use Rattle.std.specs.Prelude.{ℕ, Bool, ◌&&◌, ◌==◌, not, if◌then◌else◌}

-- 1 for a test that passes, else 0
abbrev pub one_if : Bool → ℕ
one_if b = if b then 1 else 0

-- the test that fails at one number more
abbrev pub but : (ℕ → Bool) → ℕ → ℕ → Bool
but p a x = p x && not (x == a)
