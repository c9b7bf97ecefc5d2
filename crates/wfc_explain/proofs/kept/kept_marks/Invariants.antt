-- The pins and bans before this one that are kept.
use Rattle.std.proofs.Common.{◌≡◌, take}
use Rattle.wfc_explain.specs.KeptLines.{kept_of}
use Rattle.wfc_explain.proofs.kept.kept_marks.Given as goal

abbrev pub invariant-loop-at : goal.invariant-loop-at
invariant-loop-at l = l.kept.items ≡ kept_of (take l.at l.keep) (take l.at l.marks)
