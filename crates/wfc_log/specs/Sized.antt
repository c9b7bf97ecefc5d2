-- What holds of the parts that domains are kept in.
use Rattle.std.specs.Prelude.{◌≡◌, ℕ, ◌*◌, ◌<◌, ◌≤◌, ◌^◌, Bool, List, count_by, length, slice_index}
use Rattle.wfc_problem.specs.Network.{row_of}

-- each size is the number of flags set in its row
pub record AreSizes (n : ℕ) (flags : List Bool) (sizes : List ℕ) : Type 0 where
  pub rows : length flags ≡ length sizes * n
  pub small : n ≤ 2 ^ 12
  pub few : length flags < 2 ^ 32
  pub few_rows : length sizes < 2 ^ 32
  pub each : (c : ℕ) → c < length sizes → slice_index sizes c ≡ count_by (λ flag. flag) (row_of n flags c)
