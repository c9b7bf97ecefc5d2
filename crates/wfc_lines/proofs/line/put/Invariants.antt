-- The sink has taken the parts so far.
use Rattle.std.proofs.Common.{◌≡◌, take}
use Rattle.std.specs.List.{flat_map}
use Rattle.wfc_outside.specs.Sink.{after_bytes}
use Rattle.wfc_lines.proofs.line.put.Given as goal

abbrev pub invariant-loop-part : goal.invariant-loop-part
invariant-loop-part g l = g.E.Sink.seen l.err ≡ after_bytes (g.E.Sink.seen l.initial.err) (flat_map (λ part. part.now) (take l.part-index l.parts))
