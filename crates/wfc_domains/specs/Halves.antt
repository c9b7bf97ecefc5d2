-- Entries of counters in two parts.
use Rattle.std.specs.Prelude.{ℕ, ◌+◌, ◌*◌, ◌/◌, ◌%◌, List, [], ◌∷◌}

-- the entry with this part alone: the part has the count, and 128 more where it is marked
abbrev pub narrow_entry : ℕ → ℕ
narrow_entry small = small % 128 + 32768 * (small / 128)

-- the entry with both parts, which is never marked: the small one and 255 times the large one
abbrev pub wide_entry : ℕ → ℕ → ℕ
wide_entry small large = small + 255 * large

-- the entries with these parts, with both where there is a large one
abbrev pub entries_from : List ℕ → List ℕ → List ℕ
entries_from [] large = []
entries_from (s ∷ small) [] = narrow_entry s ∷ entries_from small []
entries_from (s ∷ small) (l ∷ large) = wide_entry s l ∷ entries_from small large

-- the largest count that there is room for, with these large parts
abbrev pub limit_from : List ℕ → ℕ
limit_from [] = 127
limit_from (l ∷ large) = 32640
