-- What becomes of the removals that are left becomes of all.
use Rattle.std.proofs.Common.{◌+◌, ◌-◌, ◌≤◌, Result}
use Rattle.wfc_outside.specs.Sink.{SinkView}
use Rattle.wfc_proof.specs.Telling.{PutsCounted}
use Rattle.wfc_proof.specs.declared.Line.{Line}
use Rattle.wfc_proof.specs.declared.Line.TheVariants.{Span}
use Rattle.wfc_proof.proofs.writing.put_span.Given as goal

abbrev pub invariant-loop-next : goal.invariant-loop-next
invariant-loop-next g l = record {
  inside : l.next ≤ l.last + 1;
  rest : (new : SinkView) (result : Result (Unit {0}) Line) → PutsCounted (g.S.Sink.seen l.sink) new (Span l.cell l.next l.last l.dir) result
      → PutsCounted (g.S.Sink.seen l.initial.sink) new (Span l.cell l.first l.last l.dir) result;
}

abbrev pub decreases-loop-next : goal.decreases-loop-next
decreases-loop-next g l = l.last + 1 - l.next
