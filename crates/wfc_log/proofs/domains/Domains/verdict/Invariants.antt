use Rattle.std.proofs.Common.{◌<◌, ℕ}
use Rattle.wfc_log.specs.Domains.{size_of}
use Rattle.wfc_log.proofs.domains.Domains.verdict.Given as goal

abbrev pub invariant-loop-cell : goal.invariant-loop-cell
invariant-loop-cell l = (c : ℕ) → c < l.cell → 0 < size_of l.self c
