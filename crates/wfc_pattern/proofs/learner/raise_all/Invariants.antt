use Rattle.std.proofs.Common.{◌≡◌, map, fold, take}
use Rattle.wfc_pattern.specs.Met.{noted_at}
use Rattle.wfc_pattern.specs.Tally.{recount, windows_of}
use Rattle.wfc_pattern.proofs.learner.raise_all.Given as goal

abbrev pub invariant-loop-at : goal.invariant-loop-at
invariant-loop-at l = record {
  raised : l.tally ≡ fold recount l.initial.tally (take l.at-index (map (noted_at l.initial.tally) l.places));
  windows : windows_of l.tally ≡ windows_of l.initial.tally;
}
