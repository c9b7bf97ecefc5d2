use Rattle.std.proofs.Common.{◌≡◌, ◌+◌, ◌%◌}
use Rattle.wfc_domains.proofs.HalfLemmas.{mapped_front}
use Rattle.wfc_domains.proofs.singles.mark_parts.Given as goal

abbrev pub invariant-loop-part : goal.invariant-loop-part
invariant-loop-part l = l.parts ≡ mapped_front (λ small. small % 128 + 128) l.part-index l.fn.parts
