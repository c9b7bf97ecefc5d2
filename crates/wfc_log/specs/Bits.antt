-- Flags as bits.
use Rattle.std.specs.Prelude.{ℕ, ◌*◌, ◌/◌, ◌%◌, ◌==◌, ◌≤◌, Bool, List, length, map, slice_index}
use Rattle.std.specs.Int.{bit_at}
use Rattle.std.specs.List.{range_with_len}
use Rattle.wfc_log.specs.declared.bits.Bits.TheInside.{Inside}

-- whether a bit is set, where each byte has eight of them
abbrev pub bit_in : List ℕ → ℕ → Bool
bit_in bytes i = bit_at (slice_index bytes (i / 8)) (i % 8) == 1

-- the first n bits as flags
abbrev pub flags_in : ℕ → List ℕ → List Bool
flags_in n bytes = map (bit_in bytes) (range_with_len 0 n)

-- the flags that contracts see
abbrev pub flags_of_bits : Inside → List Bool
flags_of_bits a = flags_in a.len a.bytes.items

-- each flag has a bit
abbrev pub HasBits : Inside → Type 0
HasBits a = a.len ≤ 8 * length a.bytes.items
