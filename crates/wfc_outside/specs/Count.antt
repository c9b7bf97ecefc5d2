-- Counts of faults and of calls.
use Rattle.std.specs.Prelude.{◌≡◌, ℕ, ◌+◌, ◌-◌, ◌^◌, ◌<◌, ◌⊎◌, List, Contains, min, Result, MatchResult}

-- the count rose, or it stood where it can rise no further and stands there still
abbrev pub HasRisen : ℕ → ℕ → Type 0
HasRisen old new = (old < new) ⊎ ((old ≡ 2 ^ 64 - 1) × (new ≡ 2 ^ 64 - 1))

-- one more, or as before where the count can rise no further
abbrev pub next_count : ℕ → ℕ
next_count count = min (count + 1) (2 ^ 64 - 1)

-- after this many calls, the next one is listed
abbrev pub IsListedNext : List ℕ → ℕ → Type 0
IsListedNext listed calls = Contains listed (next_count calls)

-- a call's count of faults stands, and after a fault it is one higher
abbrev pub CountsFaults : {T E : Type 0} → ℕ → ℕ → Result T E → Type 0
CountsFaults old new result = MatchResult result (λ _. new ≡ old) (λ _. (new ≡ next_count old) × HasRisen old new)
