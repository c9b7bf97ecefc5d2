-- What a stream over a folder may still give. Where the files aren't told that may be any bytes
-- behind those that it keeps.
use Rattle.std.specs.Prelude.{◌≡◌, ℕ, ◌+◌, ◌<◌, ◌≤◌, Bool, true, false, List, [], ◌∷◌, ◌++◌, length, take, drop, Option, None, Some}
use Rattle.wfc_outside.specs.Folder.{File, FolderView, file_of, IsMissing, IsFaultOf}
use Rattle.wfc_outside.specs.declared.whole.ReadFault.{ReadFault}
use Rattle.wfc_outside.specs.declared.whole.ReadFault.TheVariants.{Missing, Failed, TooLong, NoMemory}
use Rattle.wfc_check.specs.Lines.{HasNoLineFeed}
use Rattle.wfc_check.specs.declared.stream.Stream.{Stream}
use Rattle.wfc_check.specs.declared.stream.LineEnd.{LineEnd}
use Rattle.wfc_check.specs.declared.stream.LineEnd.TheVariants as line_end

-- a stream: its file, the bytes that it keeps, how many it read, and how many it may still give
pub record FileStreamView : Type 0 where
  pub name : List ℕ
  pub kept : List ℕ
  pub at : ℕ
  pub room : ℕ

-- a stream as contracts see it: of its piece of the file it keeps what it hasn't given yet
abbrev pub stream_view : Stream → FileStreamView
stream_view stream = record {
  name = stream.name.now;
  kept = drop stream.from (take stream.to stream.piece.items);
  at = stream.at;
  room = stream.room;
}

-- a stream that has read nothing
abbrev pub fresh_view : List ℕ → ℕ → FileStreamView
fresh_view name room = record { name = name; kept = []; at = 0; room = room }

-- why no more of the file is read: it is missing, a fault of it was counted, or memory ran out
abbrev pub CausesStop : List ℕ → FolderView → FolderView → ReadFault → Type 0
CausesStop name before after Missing = IsMissing before after name
CausesStop name before after Failed = IsFaultOf before after name
CausesStop name before after TooLong = ⊥
CausesStop name before after NoMemory = after ≡ before

-- where the files are told, this stands behind the first bytes of the named one
abbrev pub IsBehind : Option (List File) → List ℕ → ℕ → List ℕ → Type 0
IsBehind None name at behind = Unit {0}
IsBehind (Some files) name at behind = (file : List ℕ) × (file_of files name ≡ Some file) × (behind ≡ drop at file)

-- these bytes of the file are left to the stream
pub record IsLeft (contents : Option (List File)) (stream : FileStreamView) (left : List ℕ) : Type 0 where
  pub behind : List ℕ
  pub is : left ≡ stream.kept ++ behind
  pub told : IsBehind contents stream.name stream.at behind

-- some bytes of the file are left to the stream
abbrev pub HasLeft : Option (List File) → FileStreamView → Type 0
HasLeft contents stream = (left : List ℕ) × IsLeft contents stream left

-- a stream that keeps a byte has read its file
abbrev pub HasReadFile : Option (List File) → FileStreamView → Type 0
HasReadFile contents stream = 0 < length stream.kept → HasLeft contents stream

-- the stream gave these bytes: before what is left now they were left
pub record HasGiven (contents : Option (List File)) (old new : FileStreamView) (bytes : List ℕ) : Type 0 where
  pub room : old.room ≡ new.room + length bytes
  pub back : (left : List ℕ) → IsLeft contents new left → IsLeft contents old (bytes ++ left)

-- the stream gave bytes, and something is left
pub record Gave (contents : Option (List File)) (old new : FileStreamView) (bytes : List ℕ) : Type 0 where
  pub steps : HasGiven contents old new bytes
  pub left : HasReadFile contents old → HasLeft contents new

-- behind these bytes, which are all that may be given, there are more
pub record IsOver (contents : Option (List File)) (old : FileStreamView) (bytes : List ℕ) : Type 0 where
  pub room : old.room ≡ length bytes
  pub more : HasReadFile contents old → (left : List ℕ) × (0 < length left) × IsLeft contents old (bytes ++ left)

-- the stream gave bytes that it kept
pub record HasGivenKept (old new : FileStreamView) (bytes : List ℕ) : Type 0 where
  pub name : new.name ≡ old.name
  pub at : new.at ≡ old.at
  pub room : old.room ≡ new.room + length bytes
  pub kept : old.kept ≡ bytes ++ new.kept

-- a line that isn't longer than is kept
pub record IsShortLine (line : List ℕ) : Type 0 where
  pub plain : HasNoLineFeed line
  pub short : length line ≤ 64

-- bytes without a line's end, one more than a line may have
pub record IsLongLine (line : List ℕ) : Type 0 where
  pub plain : HasNoLineFeed line
  pub long : length line ≡ 65

-- bytes that were kept came to a line, and behind them its end or not
pub record Gathering (old new : FileStreamView) (before after end : List ℕ) : Type 0 where
  pub bytes : List ℕ
  pub plain : HasNoLineFeed bytes
  pub line : after ≡ before ++ bytes
  pub passes : HasGivenKept old new (bytes ++ end)

-- bytes that were kept came to a line: up to its end, or, where none was found, all of them up to one more than a line may have
abbrev pub GathersLine : FileStreamView → FileStreamView → List ℕ → List ℕ → Bool → Type 0
GathersLine old new before after true = Gathering old new before after (10 ∷ []) × (length after ≤ 64)
GathersLine old new before after false =
    Gathering old new before after [] × (length before < length after) × (length after ≤ 65)

-- the stream gave a line up to its end
abbrev pub EndsLine : Option (List File) → FileStreamView → FileStreamView → List ℕ → LineEnd → Type 0
EndsLine contents old new line line_end.Feed = IsShortLine line × Gave contents old new (line ++ 10 ∷ [])
EndsLine contents old new line line_end.Long = IsLongLine line × Gave contents old new line
EndsLine contents old new line line_end.End = IsShortLine line × (length line ≤ old.room) × IsLeft contents old line
EndsLine contents old new line line_end.Over = IsShortLine line × IsOver contents old line
