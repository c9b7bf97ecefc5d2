-- What a folder in memory is seen as, and what its calls do to it.
use Rattle.std.specs.Prelude.{ℕ, ◌+◌, ◌-◌, ◌^◌, List, [], ◌∷◌, ◌++◌, Option, Some, map, min, length, if◌then◌else◌}
use Rattle.std.specs.Str.{bytes_eq}
use Rattle.wfc_outside.specs.Count.{next_count}
use Rattle.wfc_outside.specs.Folder.{File, FolderView, file_of}

-- a file in memory, with the count of its faults
pub record MemoryFile : Type 0 where
  pub name : List ℕ
  pub bytes : List ℕ
  pub faults : ℕ

-- a folder in memory: its files in the order in which they were added, how many bytes it gives in a call, how many
-- calls were made, how many bytes it has given, and which calls fail
pub record MemoryFolderView : Type 0 where
  pub files : List MemoryFile
  pub piece : ℕ
  pub calls : ℕ
  pub given : ℕ
  pub failing : List ℕ

-- a folder without files that was not called
abbrev pub fresh_folder : ℕ → MemoryFolderView
fresh_folder piece = record { files = []; piece = piece; calls = 0; given = 0; failing = [] }

-- a file without its count
abbrev pub told_file : MemoryFile → File
told_file file = record { name = file.name; bytes = file.bytes }

-- the count of the first file of that name, and 0 where there is none
abbrev pub faults_of : List MemoryFile → List ℕ → ℕ
faults_of [] name = 0
faults_of (file ∷ files) name = if bytes_eq file.name name then file.faults else faults_of files name

-- it tells its files
abbrev pub seen_folder : MemoryFolderView → FolderView
seen_folder folder = record { contents = Some (map told_file folder.files); faults = faults_of folder.files }

-- the bytes of the named file, if it is there
abbrev pub bytes_of : MemoryFolderView → List ℕ → Option (List ℕ)
bytes_of folder name = file_of (map told_file folder.files) name

-- the files with these bytes in place of those of that name, or at the end where the name isn't there
abbrev pub with_file : List MemoryFile → List ℕ → List ℕ → List MemoryFile
with_file [] name bytes = record { name = name; bytes = bytes; faults = 0 } ∷ []
with_file (file ∷ files) name bytes =
    if bytes_eq file.name name then record file { bytes = bytes } ∷ files else file ∷ with_file files name bytes

-- the files with one more fault of that name
abbrev pub with_fault : List MemoryFile → List ℕ → List MemoryFile
with_fault [] name = []
with_fault (file ∷ files) name =
    if bytes_eq file.name name then record file { faults = next_count file.faults } ∷ files
    else file ∷ with_fault files name

-- the folder after a file was added
abbrev pub after_adding : MemoryFolderView → List ℕ → List ℕ → MemoryFolderView
after_adding folder name bytes = record folder { files = with_file folder.files name bytes }

-- the folder after a call was listed to fail
abbrev pub folder_listing : MemoryFolderView → ℕ → MemoryFolderView
folder_listing folder call = record folder { failing = folder.failing ++ (call ∷ []) }

-- how many bytes of a file it gives from a place on into a buffer
abbrev pub given_count : MemoryFolderView → List ℕ → ℕ → List ℕ → ℕ
given_count folder file at buffer = min (min (length file - at) (length buffer)) folder.piece

-- the folder after a call for a file that isn't there
abbrev pub after_call : MemoryFolderView → MemoryFolderView
after_call folder = record folder { calls = next_count folder.calls }

-- the folder after a call that gave n bytes, which are counted no further than 2^64 - 1
abbrev pub after_giving : MemoryFolderView → ℕ → MemoryFolderView
after_giving folder n = record folder { calls = next_count folder.calls; given = min (folder.given + n) (2 ^ 64 - 1) }

-- the folder after a call that failed on this name
abbrev pub after_failed_call : MemoryFolderView → List ℕ → MemoryFolderView
after_failed_call folder name = record folder { calls = next_count folder.calls; files = with_fault folder.files name }
