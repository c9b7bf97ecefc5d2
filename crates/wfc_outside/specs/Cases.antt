-- Small cases without symmetry, for the laws.
use Rattle.std.specs.Prelude.{ℕ, Bool, true, List, [], ◌∷◌, codes, Option, Some, if◌then◌else◌}
use Rattle.std.specs.Str.{bytes_eq}
use Rattle.wfc_outside.specs.Folder.{File, FolderView}
use Rattle.wfc_outside.specs.MemoryFolder.{MemoryFolderView}
use Rattle.wfc_outside.specs.MemorySink.{MemorySinkView}
use Rattle.wfc_outside.specs.Sink.{SinkView}

-- three files, of which the first and the last have one name
abbrev pub three_files : List File
three_files =
    record { name = codes "a"; bytes = 5 ∷ 6 ∷ 7 ∷ [] }
    ∷ record { name = codes "b"; bytes = 8 ∷ [] } ∷ record { name = codes "a"; bytes = 9 ∷ [] }
    ∷ []

-- a folder with these contents, a count of the name `a`, and one of every other name
abbrev pub counting_folder : Option (List File) → ℕ → ℕ → FolderView
counting_folder contents of_a of_others = record {
  contents = contents;
  faults = λ name. if bytes_eq name (codes "a") then of_a else of_others;
}

-- a sink that took these bytes, finished or not, with this count
abbrev pub telling_sink : List ℕ → Bool → ℕ → SinkView
telling_sink bytes finished faults =
    record { told = Some (record { bytes = bytes; finished = finished }); faults = faults }

-- a folder in memory of two files that gives two bytes a call, and has given ten
abbrev pub two_kept : MemoryFolderView
two_kept = record {
  files = record { name = codes "a"; bytes = 5 ∷ 6 ∷ 7 ∷ []; faults = 3 }
      ∷ record { name = codes "b"; bytes = 8 ∷ []; faults = 4 } ∷ [];
  piece = 2;
  calls = 1;
  given = 10;
  failing = [];
}

-- a sink in memory of room for five bytes that took three and was finished, and takes two bytes a
-- call; its call 2 fails
abbrev pub three_taken : Bool → MemorySinkView
three_taken finish_fails = record {
  bytes = 5 ∷ 6 ∷ 7 ∷ [];
  finished = true;
  piece = 2;
  room = 5;
  calls = 1;
  failing = 2 ∷ [];
  finish_fails = finish_fails;
  faults = 3;
}
