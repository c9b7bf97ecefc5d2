use Rattle.std.proofs.Common.{◌*◌, arith, rules, inl}
use Rattle.std.proofs.lemmas.Result.{err_from_is_err_and}
use Rattle.wfc_ppm.specs.Fault.{plain_fault}
use Rattle.wfc_ppm.specs.Reading.{plain_pixels}
use Rattle.wfc_ppm.proofs.PlainPixelLemmas.{plain-more, fault-next, fault-here}
use Rattle.wfc_ppm.proofs.plain.plain_pixels.Goals as goal

pub returns-in_err-colour-clause-fault : goal.returns-in_err-colour-clause-fault
returns-in_err-colour-clause-fault c =
    let p = err_from_is_err_and c.from_residual-in_err-colour.result c.from_residual-in_err-colour.ensures.1 in
    rw (p.1, p.2)
    (inl (fault-here c.args.total c.args.maxval (c.args.count * 3) c.args.count c.loop-index.index c.loop-index.rest.now (plain_fault c.args.total c.args.maxval (c.args.count * 3) 0 c.args.count c.args.text.now) c.in_err-colour.field-0.0 c.loop-index-test.true c.loop-index.invariant.fault c.in_err-colour.ensures.fault))

pub loop-index-preserved : goal.loop-index-preserved
loop-index-preserved c = record {
  pixels = plain-more c.args.count c.loop-index.index c.loop-index.pixels.items c.push.new.self.items (plain_pixels c.args.count c.args.text.now) c.loop-index.rest.now c.in_ok-colour.behind.now c.in_ok-colour.colour c.loop-index-test.true c.loop-index.invariant.pixels c.in_ok-colour.ensures.colour c.in_ok-colour.ensures.rest (search rules);
  fault = fault-next c.args.total c.args.maxval (c.args.count * 3) c.args.count c.loop-index.index c.loop-index.rest.now c.in_ok-colour.behind.now (plain_fault c.args.total c.args.maxval (c.args.count * 3) 0 c.args.count c.args.text.now) c.loop-index-test.true c.loop-index.invariant.fault c.in_ok-colour.ensures.right c.in_ok-colour.ensures.rest;
  part = omega (arith, c.in_ok-colour.ensures.shorter, c.loop-index.invariant.part);
}
