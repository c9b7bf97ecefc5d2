-- Steps along a row or a column of places, and the places counted row by row.
use Rattle.std.specs.Prelude.{ℕ, ◌+◌, ◌-◌, ◌*◌, ◌%◌, Bool, ◌&&◌, ◌||◌, nat_le, nat_lt, Option, None, Some, MatchBool, if◌then◌else◌}
use Rattle.wfc_model.specs.Direction.{IsStep, IsStepModulo}

-- the column or the row that a step forth or back along so many places leads to, modulo them
abbrev pub step_end : ℕ → ℕ → ℕ → ℕ → ℕ
step_end count forth back at = (at + forth + count - back) % count

-- whether the step leads to another that there is: modulo their number always, else not past either
-- end
abbrev pub is_there : ℕ → Bool → ℕ → ℕ → ℕ → Bool
is_there count wrap forth back at =
    wrap || (nat_le back (at + forth) && nat_lt (at + forth) (count + back))

-- the column or the row that a step leads to, if there is one
abbrev pub along : ℕ → Bool → ℕ → ℕ → ℕ → Option ℕ
along count wrap forth back at =
    if is_there count wrap forth back at then Some (step_end count forth back at) else None

-- the number of the place in a column and a row, counted row by row
abbrev pub place_number : ℕ → ℕ → ℕ → ℕ
place_number columns x y = y * columns + x

-- (u, v) lies one step in a direction from (x, y), and modulo so many columns and rows where these wrap
abbrev pub IsStepFrom : Bool → ℕ → ℕ → ℕ → ℕ → ℕ → ℕ → ℕ → Type 0
IsStepFrom wrap columns rows d x y u v = MatchBool wrap (IsStepModulo d columns rows x y u v) (IsStep d x y u v)
