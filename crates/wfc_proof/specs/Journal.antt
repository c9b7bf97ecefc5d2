-- What a journal is seen as, and what a line does to it.
use Rattle.std.specs.Prelude.{◌≡◌, ℕ, ◌+◌, ◌-◌, ◌<◌, ◌≤◌, Bool, true, false, List, [], ◌∷◌, ◌++◌, length, map, take, Option, None, ⊤}
use Rattle.std.specs.List.{range_with_len}
use Rattle.std.specs.Option.{option_map}
use Rattle.std.specs.Borrow.{GName}
use Rattle.wfc_outside.specs.Count.{HasRisen}
use Rattle.wfc_outside.specs.Sink.{Taken}
use Rattle.wfc_proof.specs.declared.Line.{Line}
use Rattle.wfc_proof.specs.declared.Line.TheVariants.{Remove, Span, Try, Empty, End, Found, Out}

-- a line that is a span doesn't end before it begins; any other line is whole
abbrev pub IsWhole : Line → Type 0
IsWhole (Remove cell value dir) = ⊤
IsWhole (Span cell first last dir) = first ≤ last
IsWhole (Try cell value) = ⊤
IsWhole (Empty cell) = ⊤
IsWhole End = ⊤
IsWhole Found = ⊤
IsWhole Out = ⊤

-- the lines that a line counts as: a span as the removals of its values, in rising order, and any other line as itself
abbrev pub counted_as : Line → List Line
counted_as (Remove cell value dir) = Remove cell value dir ∷ []
counted_as (Span cell first last dir) = map (λ value. Remove cell value dir) (range_with_len first (last + 1 - first))
counted_as (Try cell value) = Try cell value ∷ []
counted_as (Empty cell) = Empty cell ∷ []
counted_as End = End ∷ []
counted_as Found = Found ∷ []
counted_as Out = Out ∷ []

-- the sink that a journal writes into: the name of the reference to it, and what it took before the
-- first line, where that is told
pub record Target : Type 0 where
  pub name : GName
  pub before : Option Taken

-- a journal: the lines handed to it, where they are told, whether it refused one, the count of its
-- faults, and its sink, if it has one
pub record JournalView : Type 0 where
  pub lines : Option (List Line)
  pub failed : Bool
  pub faults : ℕ
  pub target : Option Target

-- a journal that tells nothing and never fails
abbrev pub quiet : JournalView
quiet = record { lines = None; failed = false; faults = 0; target = None }

-- the journal after it took these lines
abbrev pub after_lines : JournalView → List Line → JournalView
after_lines journal lines = record journal { lines = option_map (λ (told : List Line). told ++ lines) journal.lines }

-- the journal after it took a line
abbrev pub after_line : JournalView → Line → JournalView
after_line journal line = after_lines journal (counted_as line)

-- the line was handed over and refused, and a fault was counted
pub record IsRefused (old new : JournalView) (line : Line) : Type 0 where
  pub handed : new.lines ≡ (after_line old line).lines
  pub failed : new.failed ≡ true
  pub counted : HasRisen old.faults new.faults
  pub target : new.target ≡ old.target

-- some of these lines were handed over from the first on, the last of them was refused, and a fault was counted
pub record IsCutOff (old new : JournalView) (lines : List Line) : Type 0 where
  pub count : ℕ
  pub some : 0 < count
  pub within : count ≤ length lines
  pub handed : new.lines ≡ (after_lines old (take count lines)).lines
  pub failed : new.failed ≡ true
  pub counted : HasRisen old.faults new.faults
  pub target : new.target ≡ old.target
