use Rattle.std.proofs.Common.{◌≡◌, false, take}
use Rattle.wfc_domains.specs.Store.{added_of}
use Rattle.wfc_proof.specs.Journal.{after_lines}
use Rattle.wfc_search.specs.Telling.{removal_lines}
use Rattle.wfc_search.proofs.telling.tell_added.Given as goal

-- the lines of the removals before this one were told
abbrev pub invariant-loop-index : goal.invariant-loop-index
invariant-loop-index g l = record {
  told : g.J.Journal.seen l.journal ≡ after_lines (g.J.Journal.seen l.fn.journal) (removal_lines (take l.index (added_of (g.S.Store.view l.store))));
  going : (g.J.Journal.seen l.fn.journal).failed ≡ false;
}
