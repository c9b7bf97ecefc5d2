use Rattle.std.proofs.Common.{ℕ, ◌<◌, ◌≤◌, get_or}
use Rattle.wfc_choose.proofs.scanning.first_open.Given as goal

-- no cell before this one is open
abbrev pub invariant-loop-cell : goal.invariant-loop-cell
invariant-loop-cell l = (c : ℕ) → c < l.cell → get_or l.sizes c 0 ≤ 1
