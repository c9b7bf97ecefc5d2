use Rattle.std.proofs.Common.{◌-◌}
use Rattle.wfc_domains.specs.Changes.{marked_entry, AreChanged}
use Rattle.wfc_domains.specs.Pairs.{paired_entries}
use Rattle.wfc_domains.proofs.pairs.mark_halves.Given as goal

abbrev pub invariant-loop-place : goal.invariant-loop-place
invariant-loop-place l = AreChanged marked_entry (paired_entries l.fn.bytes) (paired_entries l.bytes) l.fn.start (l.place - l.fn.start)
