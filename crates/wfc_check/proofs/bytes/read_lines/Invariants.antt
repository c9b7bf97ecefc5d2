use Rattle.std.proofs.Common.{length}
use Rattle.wfc_check.proofs.BytesLemmas.{IsAhead}
use Rattle.wfc_check.proofs.bytes.read_lines.Given as goal

abbrev pub invariant-loop-end : goal.invariant-loop-end
invariant-loop-end l = IsAhead l.problem l.shape l.bytes l.rest l.reading

abbrev pub decreases-loop-end : goal.decreases-loop-end
decreases-loop-end l = length l.rest
