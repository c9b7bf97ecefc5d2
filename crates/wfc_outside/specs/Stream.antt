-- What a sink over a writer is seen as.
use Rattle.std.specs.Prelude.{ℕ, None}
use Rattle.wfc_outside.specs.Sink.{SinkView}

-- a sink over a writer: the writer, and the count of its faults
pub record StreamView (W : Type 0) : Type 0 where
  pub writer : W
  pub faults : ℕ

-- it tells nothing of the bytes
abbrev pub seen_stream : {W : Type 0} → StreamView W → SinkView
seen_stream stream = record { told = None; faults = stream.faults }
