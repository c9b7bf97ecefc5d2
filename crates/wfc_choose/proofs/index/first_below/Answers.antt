use Rattle.std.proofs.Common.{arith}
use Rattle.wfc_choose.proofs.IndexLemmas.{first_down}
use Rattle.wfc_choose.proofs.index.first_below.Goals as goal

pub returns-then-below-at : goal.returns-then-below-at
returns-then-below-at c =
    record {
      first = first_down c.args.below.now c.args.above.now c.args.block c.loop-at.at c.requires.summary c.requires.above (λ k. (c.type_inv.below k).fits)
          (record { low = omega arith; high = omega arith; within = omega arith }) c.if-below-at.true c.loop-at.invariant;
    }
