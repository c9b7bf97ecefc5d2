-- The first cell that has such a direction is where the test first fails.
use Rattle.std.proofs.Common.{arith, ap, sym, ◌∙◌}
use Rattle.wfc_problem.specs.Network.{Network}
use Rattle.wfc_problem.proofs.Faults.{back_at, back_none}
use Rattle.wfc_problem.proofs.checks.check_ways_back.Goals as goal

pub returns-in-Some : goal.returns-in-Some
returns-in-Some c =
    let same = ap (λ (P : Network). P.cells) c.parts.view_is in
    record {
      value =
          sym (back_at c.args.parts.now c.loop-cell.cell c.in-Some.dir (omega arith) c.loop-cell.invariant (sym c.first_one_way.ensures.value ∙ c.in-Some.is));
    }

pub returns : goal.returns
returns c =
    let same = ap (λ (P : Network). P.cells) c.parts.view_is in
    record {
      value =
          sym (back_none c.args.parts.now (λ k l. c.loop-cell.invariant k (omega arith)));
    }
