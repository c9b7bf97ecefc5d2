-- Numbers of two bits, four in a byte.
use Rattle.std.specs.Prelude.{ℕ, ◌*◌, ◌/◌, ◌%◌, ◌^◌, ◌≤◌, List, length, map, slice_index, vec_capacity}
use Rattle.std.specs.List.{range_with_len}
use Rattle.wfc_log.specs.Numbered.{Packed}
use Rattle.wfc_log.specs.declared.tops.Tops.TheInside.{Inside}

-- the two bits of a byte at one of four places
abbrev pub top_at : ℕ → ℕ → ℕ
top_at byte place = byte / 2 ^ (2 * place) % 4

-- the two bits at an index of bytes, each of which has four places
abbrev pub top_in : List ℕ → ℕ → ℕ
top_in bytes i = top_at (slice_index bytes (i / 4)) (i % 4)

-- the first n of them
abbrev pub tops_in : ℕ → List ℕ → List ℕ
tops_in n bytes = map (top_in bytes) (range_with_len 0 n)

-- what contracts see of them
abbrev pub tops_view : Inside → Packed
tops_view a = record { room = a.room; limit = 4; numbers = tops_in a.len a.bytes.items }

-- each has its two bits, and there is room for so many
pub record AreTops (a : Inside) : Type 0 where
  pub enough : a.len ≤ 4 * length a.bytes.items
  pub bytes_fit : a.room ≤ 4 * vec_capacity a.bytes
