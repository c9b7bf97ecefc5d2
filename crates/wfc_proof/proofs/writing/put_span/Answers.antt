use Rattle.std.proofs.Common.{◌≡◌, ◌+◌, ◌-◌, Ok, Err, Result, sym, subst, arith}
use Rattle.wfc_proof.specs.Telling.{PutsCounted}
use Rattle.wfc_proof.specs.declared.Line.{Line}
use Rattle.wfc_proof.specs.declared.Line.TheVariants.{Span}
use Rattle.wfc_proof.proofs.PutLemmas.{counted_none, counted_on, counted_cut, removals_keep}
use Rattle.wfc_proof.proofs.writing.put_span.Goals as goal

pub loop-next-preserved : goal.loop-next-preserved
loop-next-preserved g c = record {
  inside = omega (arith, c.loop-next-test.true);
  rest = λ new result later. c.loop-next.invariant.rest new result
      (counted_on (g.S.Sink.seen c.loop-next.sink) (g.S.Sink.seen c.write_line.new.sink) new c.args.cell c.loop-next.next c.args.last c.args.dir result (omega (arith, c.loop-next-test.true)) c.in-Ok.ensures.put later);
}

pub returns-in-Err : goal.returns-in-Err
returns-in-Err g c = record {
  put = c.loop-next.invariant.rest (g.S.Sink.seen c.write_line.new.sink) (Err (Span c.args.cell c.loop-next.next c.args.last c.args.dir))
      (counted_cut (g.S.Sink.seen c.loop-next.sink) (g.S.Sink.seen c.write_line.new.sink) c.args.cell c.loop-next.next c.args.last c.args.dir (omega (arith, c.loop-next-test.true)) c.in-Err.ensures.put);
  format = removals_keep c.args.cell c.args.dir (omega (arith, c.ranges.cell.fits)) (omega (arith, c.ranges.dir.fits)) c.args.first (c.args.last + 1 - c.args.first) (omega (arith, c.ranges.last.fits, c.requires.whole));
}

pub returns : goal.returns
returns g c =
    let sink = g.S.Sink.seen c.loop-next.sink in
    let last : c.loop-next.next ≡ c.args.last + 1 = omega (arith, c.loop-next.invariant.inside, c.loop-next-test.false) in
    let none : PutsCounted sink sink (Span c.args.cell c.loop-next.next c.args.last c.args.dir) (let r : Result (Unit {0}) Line = Ok (record {}) in r) =
    subst (λ n. PutsCounted sink sink (Span c.args.cell n c.args.last c.args.dir) (let r : Result (Unit {0}) Line = Ok (record {}) in r)) (sym last) (counted_none {T = Unit {0}} sink c.args.cell c.args.last c.args.dir (record {})) in
    record {
      put = c.loop-next.invariant.rest sink (Ok (record {})) none;
      format = removals_keep c.args.cell c.args.dir (omega (arith, c.ranges.cell.fits)) (omega (arith, c.ranges.dir.fits)) c.args.first (c.args.last + 1 - c.args.first) (omega (arith, c.ranges.last.fits, c.requires.whole));
    }
