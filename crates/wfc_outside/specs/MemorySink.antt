-- What a sink in memory is seen as, and what its calls do to it.
use Rattle.std.specs.Prelude.{ℕ, ◌<◌, ◌≤◌, Bool, true, false, if◌then◌else◌, List, [], length, min, ◌-◌, Some, ◌∷◌, ◌++◌, ◌⊎◌}
use Rattle.wfc_outside.specs.Count.{next_count, IsListedNext}
use Rattle.wfc_outside.specs.Sink.{Taken, SinkView, with_bytes}

-- a sink in memory: what it took and whether that is finished, how many bytes it takes in a call and has room for
-- in all, how many calls were made, which calls fail, whether each finishing fails, and the count of its faults
pub record MemorySinkView : Type 0 where
  pub bytes : List ℕ
  pub finished : Bool
  pub piece : ℕ
  pub room : ℕ
  pub calls : ℕ
  pub failing : List ℕ
  pub finish_fails : Bool
  pub faults : ℕ

-- a sink that took nothing and was not called
abbrev pub fresh_sink : ℕ → ℕ → MemorySinkView
fresh_sink piece room = record {
  bytes = [];
  finished = false;
  piece = piece;
  room = room;
  calls = 0;
  failing = [];
  finish_fails = false;
  faults = 0;
}

-- what it took
abbrev pub taken_of : MemorySinkView → Taken
taken_of sink = record { bytes = sink.bytes; finished = sink.finished }

-- it tells what it took
abbrev pub seen_sink : MemorySinkView → SinkView
seen_sink sink = record { told = Some (taken_of sink); faults = sink.faults }

-- its next call is listed to fail, or it has no room for any of the bytes
abbrev pub IsToFail : MemorySinkView → List ℕ → Type 0
IsToFail sink bytes = IsListedNext sink.failing sink.calls ⊎ ((0 < length bytes) × (sink.room ≤ length sink.bytes))

-- the sink after a call was listed to fail
abbrev pub sink_listing : MemorySinkView → ℕ → MemorySinkView
sink_listing sink call = record sink { failing = sink.failing ++ (call ∷ []) }

-- how many of these bytes it takes in a call that doesn't fail
abbrev pub taken_count : MemorySinkView → List ℕ → ℕ
taken_count sink bytes = min (min (length bytes) sink.piece) (sink.room - length sink.bytes)

-- the sink after a call that took these bytes
abbrev pub after_taking : MemorySinkView → List ℕ → MemorySinkView
after_taking sink bytes = record sink {
  bytes = (with_bytes (taken_of sink) bytes).bytes;
  finished = (with_bytes (taken_of sink) bytes).finished;
  calls = next_count sink.calls;
}

-- the sink after a call of `write` that failed
abbrev pub after_failing : MemorySinkView → MemorySinkView
after_failing sink = record sink { calls = next_count sink.calls; faults = next_count sink.faults }

-- the sink whose every later finishing fails
abbrev pub sink_failing_finish : MemorySinkView → MemorySinkView
sink_failing_finish sink = record sink { finish_fails = true }

-- the sink after it was asked to finish
abbrev pub after_finishing : MemorySinkView → MemorySinkView
after_finishing sink =
    if sink.finish_fails then record sink { faults = next_count sink.faults }
    else record sink { finished = true }
