-- An index of sizes: which of them comes first in each block of FAN, in each block of these, and so on.
use Rattle.std.specs.Prelude.{◌≡◌, ℕ, ◌+◌, ◌-◌, ◌*◌, ◌/◌, ◌<◌, ◌≤◌, ◌^◌, List, length, nat_le, if◌then◌else◌, slice_index}
use Rattle.wfc_choose.specs.declared.index.TheConstants.{FAN}
use Rattle.wfc_problem.specs.declared.TheConstants.{MAX_PAIRS}

-- when a cell of this size comes: 2 first, 0 and 1 behind all that are open
abbrev pub time_of : ℕ → ℕ
time_of size = if nat_le 2 size then size - 2 else size + (2 ^ 16 - 2)

-- this entry is in the block
pub record IsInBlock (list : List ℕ) (block at : ℕ) : Type 0 where
  pub low : block * FAN ≤ at
  pub high : at < block * FAN + FAN
  pub within : at < length list

-- this size stands in the block, and none there comes before it
pub record IsLeastIn (list : List ℕ) (block size : ℕ) : Type 0 where
  pub at : ℕ
  pub inside : IsInBlock list block at
  pub stands : slice_index list at ≡ size
  pub least : (j : ℕ) → IsInBlock list block j → time_of size ≤ time_of (slice_index list j)

-- one list has for each block of another the size that comes first there
pub record IsSummary (below above : List ℕ) : Type 0 where
  pub long : length above ≡ (length below + (FAN - 1)) / FAN
  pub each : (block : ℕ) → block < length above → IsLeastIn below block (slice_index above block)

-- no entry comes before this one, and each before it in the list comes later
pub record IsFirst (list : List ℕ) (at : ℕ) : Type 0 where
  pub within : at < length list
  pub least : (j : ℕ) → j < length list → time_of (slice_index list at) ≤ time_of (slice_index list j)
  pub first : (j : ℕ) → j < at → time_of (slice_index list at) < time_of (slice_index list j)

-- of these sizes the lists of those that come first, one for each 32, 1,024 and 32,768 cells
pub record IsIndex (sizes of_32 of_1024 of_32768 : List ℕ) : Type 0 where
  pub limit : length sizes ≤ MAX_PAIRS
  pub blocks : IsSummary sizes of_32
  pub areas : IsSummary of_32 of_1024
  pub regions : IsSummary of_1024 of_32768
