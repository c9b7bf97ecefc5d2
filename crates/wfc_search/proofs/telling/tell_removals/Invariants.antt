use Rattle.std.proofs.Common.{◌≡◌, false, take}
use Rattle.wfc_proof.specs.Journal.{after_lines}
use Rattle.wfc_search.specs.Telling.{removal_lines}
use Rattle.wfc_search.proofs.telling.tell_removals.Given as goal

-- the lines of the removals before this one were told
abbrev pub invariant-loop-removal : goal.invariant-loop-removal
invariant-loop-removal g l = record {
  told : g.J.Journal.seen l.journal ≡ after_lines (g.J.Journal.seen l.fn.journal) (removal_lines (take l.removal-index l.removals));
  going : (g.J.Journal.seen l.fn.journal).failed ≡ false;
}
