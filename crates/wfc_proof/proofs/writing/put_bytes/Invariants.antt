-- The sink has taken the bytes before the place, and nothing else happened to it.
use Rattle.std.proofs.Common.{length, ◌-◌, ◌≡◌, ◌≤◌, take}
use Rattle.wfc_outside.specs.Sink.{after_bytes}
use Rattle.wfc_proof.proofs.writing.put_bytes.Given as goal

abbrev pub invariant-loop-done : goal.invariant-loop-done
invariant-loop-done g l = record {
  inside : l.done ≤ length l.bytes;
  taken : g.S.Sink.seen l.sink ≡ after_bytes (g.S.Sink.seen l.initial.sink) (take l.done l.bytes);
}

abbrev pub decreases-loop-done : goal.decreases-loop-done
decreases-loop-done g l = length l.bytes - l.done
