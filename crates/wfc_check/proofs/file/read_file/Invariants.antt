-- Where the reading is, and what is left to the stream.
use Rattle.std.proofs.Common.{◌≡◌, ◌+◌, ◌≤◌}
use Rattle.wfc_check.specs.Stream.{stream_view}
use Rattle.wfc_check.proofs.FileLemmas.{IsAt}
use Rattle.wfc_check.proofs.file.read_file.Given as goal

abbrev pub invariant-lines : goal.invariant-lines
invariant-lines g l = record {
  folder : g.F.Folder.seen l.folder ≡ g.F.Folder.seen l.initial.folder;
  name : l.stream.name.now ≡ l.name;
  most : l.stream.most ≡ 4294967296;
  given : g.F.Folder.bytes_given l.folder ≤ g.F.Folder.bytes_given l.initial.folder + l.stream.at;
  at : IsAt l.problem l.shape (g.F.Folder.seen l.initial.folder).contents l.name (stream_view l.stream) l.reading;
}

abbrev pub decreases-lines : goal.decreases-lines
decreases-lines g l = l.stream.room
