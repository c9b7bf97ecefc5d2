-- What holds of the parts that numbers are kept in.
use Rattle.std.specs.Prelude.{◌≡◌, ◌≤◌, length, IsTrue, vec_len, vec_capacity}
use Rattle.wfc_log.specs.Numbered.{Packed, limit_of, packed_numbers}
use Rattle.wfc_log.specs.declared.packed.Numbers.TheInside.{Inside}

-- what contracts see of numbers
abbrev pub packed_view : Inside → Packed
packed_view a = record {
  room = a.room;
  limit = limit_of a.wide;
  numbers = packed_numbers a.wide a.lows.items a.bytes.items a.tops.numbers;
}

-- each number has three bytes, and two bits where they are wide, and there is room for so many
pub record ArePacked (a : Inside) : Type 0 where
  pub one_byte_each : vec_len a.bytes ≡ vec_len a.lows
  pub one_top_each : IsTrue a.wide → length a.tops.numbers ≡ vec_len a.lows
  pub lows_fit : a.room ≤ vec_capacity a.lows
  pub bytes_fit : a.room ≤ vec_capacity a.bytes
  pub tops_fit : IsTrue a.wide → a.room ≤ a.tops.room
