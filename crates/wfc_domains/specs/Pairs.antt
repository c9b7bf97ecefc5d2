-- Two counts in a byte: that at an even place is its lower half.
use Rattle.std.specs.Prelude.{ℕ, ◌+◌, ◌*◌, ◌/◌, ◌%◌, ◌==◌, if◌then◌else◌, List, length, map, slice_index}
use Rattle.std.specs.List.{range_with_len}
use Rattle.wfc_domains.specs.declared.pairs.Pairs.TheInside.{Inside}

-- what one more at a place is in its byte
abbrev pub unit_at : ℕ → ℕ
unit_at i = if i % 2 == 0 then 1 else 16

-- the bits that the place has of its byte
abbrev pub mask_at : ℕ → ℕ
mask_at i = if i % 2 == 0 then 15 else 240

-- the half of a byte at a place
abbrev pub half_at : ℕ → ℕ → ℕ
half_at byte i = if i % 2 == 0 then byte % 16 else byte / 16 % 16

-- the entry of a half, which has the count, and 8 more where it is marked
abbrev pub half_entry : ℕ → ℕ
half_entry half = half % 8 + 32768 * (half / 8)

-- the entry at a place of bytes
abbrev pub paired_entry : List ℕ → ℕ → ℕ
paired_entry bytes i = half_entry (half_at (slice_index bytes (i / 2)) i)

-- the entries of bytes, two of each
abbrev pub paired_entries : List ℕ → List ℕ
paired_entries bytes = map (paired_entry bytes) (range_with_len 0 (2 * length bytes))

-- what contracts see of them
abbrev pub pairs_view : Inside → List ℕ
pairs_view a = paired_entries a.bytes.items
