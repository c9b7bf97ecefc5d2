-- What is left of the lines is their text, and what becomes of it becomes of all.
use Rattle.std.proofs.Common.{◌≡◌, true, length, None, Result}
use Rattle.wfc_outside.specs.Sink.{SinkView, Puts}
use Rattle.wfc_outside.specs.declared.SinkFault.{SinkFault}
use Rattle.wfc_proof.specs.Spans.{is_kept}
use Rattle.wfc_proof.specs.Telling.{text_of}
use Rattle.wfc_proof.specs.Upgrade.{lines_in, spans_left}
use Rattle.wfc_proof.proofs.upgrading.upgrade_lines.Given as goal

abbrev pub invariant-lines : goal.invariant-lines
invariant-lines g l = record {
  whole : text_of (lines_in l.format l.rest) ≡ l.rest;
  kept : is_kept l.kept ≡ true;
  puts : (new : SinkView) (result : Result (Unit {0}) SinkFault) → Puts (g.S.Sink.seen l.sink) new (text_of (spans_left l.kept (lines_in l.format l.rest))) result
      → Puts (g.S.Sink.seen l.initial.sink) new (text_of (spans_left None (lines_in l.format l.bytes))) result;
}

abbrev pub decreases-lines : goal.decreases-lines
decreases-lines g l = length l.rest
