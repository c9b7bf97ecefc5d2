use Rattle.std.proofs.Common.{◌∙◌, sym, ap, arith, take}
use Rattle.wfc_check.specs.Entries.{TrailView}
use Rattle.wfc_check.proofs.Taken.{spanning_on, spanning_refused}
use Rattle.wfc_check.proofs.nodes.remove_span.Goals as goal

pub returns-in-Some : goal.returns-in-Some
returns-in-Some c =
    let here = c.loop-value.trail in
    let back = c.back_to.ensures.front ∙ ap (λ m. let t : TrailView = record here { entries = take m here.entries } in t) c.len-mark.ensures.value in
    record {
      taken = spanning_refused c.args.trail.now here c.back_to.new.self c.args.cell c.args.first c.loop-value.value c.args.last c.args.dir c.in-Some.reject c.loop-value.invariant
          (omega (arith, c.loop-value-test.true, c.from-value-end.ensures)) (sym c.removal_fault.ensures.value ∙ c.in-Some.is) back;
    }

pub loop-value-preserved : goal.loop-value-preserved
loop-value-preserved c =
    spanning_on c.args.trail.now c.loop-value.trail c.remove.new.self c.args.cell c.args.first c.loop-value.value c.args.last c.args.dir c.loop-value.invariant
    (omega (arith, c.loop-value-test.true, c.from-value-end.ensures)) (sym c.removal_fault.ensures.value ∙ c.in-None.is) c.remove.ensures.more
