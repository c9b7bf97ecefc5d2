-- The bytes so far are a short line, and with what is left they make what was left at the entry.
use Rattle.std.proofs.Common.{◌≡◌, ◌+◌, ◌-◌, ◌≤◌, length}
use Rattle.wfc_check.specs.Stream.{IsShortLine, HasReadFile, HasGiven, stream_view}
use Rattle.wfc_check.proofs.stream.Stream.next_line.Given as goal

abbrev pub invariant-read : goal.invariant-read
invariant-read g l = record {
  folder : g.F.Folder.seen l.folder ≡ g.F.Folder.seen l.initial.folder;
  name : l.self.name ≡ l.initial.self.name;
  most : l.self.most ≡ l.initial.self.most;
  given : g.F.Folder.bytes_given l.folder + l.initial.self.at ≤ g.F.Folder.bytes_given l.initial.folder + l.self.at;
  line : IsShortLine l.line.items;
  steps : HasGiven (g.F.Folder.seen l.initial.folder).contents (stream_view l.initial.self) (stream_view l.self) l.line.items;
  keeps : HasReadFile (g.F.Folder.seen l.initial.folder).contents (stream_view l.initial.self) → HasReadFile (g.F.Folder.seen l.initial.folder).contents (stream_view l.self);
}

abbrev pub decreases-read : goal.decreases-read
decreases-read g l = 65 - length l.line.items
