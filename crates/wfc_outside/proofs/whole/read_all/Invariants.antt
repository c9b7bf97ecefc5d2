-- The bytes so far are the first ones of the file, the folder is seen as at the entry, and no more were given.
use Rattle.std.proofs.Common.{◌≡◌, ◌+◌, ◌-◌, ◌≤◌, length}
use Rattle.wfc_outside.proofs.WholeLemmas.{IsFrontOf}
use Rattle.wfc_outside.proofs.whole.read_all.Given as goal

abbrev pub invariant-loop-bytes : goal.invariant-loop-bytes
invariant-loop-bytes g l = record {
  unchanged : g.F.Folder.seen l.folder ≡ g.F.Folder.seen l.initial.folder;
  within : length l.bytes.items ≤ l.limit;
  given : g.F.Folder.bytes_given l.folder ≤ g.F.Folder.bytes_given l.initial.folder + length l.bytes.items;
  front : IsFrontOf (g.F.Folder.seen l.initial.folder).contents l.name l.bytes.items;
}

abbrev pub decreases-loop-bytes : goal.decreases-loop-bytes
decreases-loop-bytes g l = l.limit + 1 - length l.bytes.items
