use Rattle.std.proofs.Common.{ℕ, ◌/◌, subst, arith}
use Rattle.wfc_choose.specs.Index.{IsLeastIn}
use Rattle.wfc_choose.specs.declared.index.TheConstants.{FAN}
use Rattle.wfc_choose.proofs.IndexLemmas.{summary_falls, summary_same, summary_stays, summary_with, set_back}
use Rattle.wfc_choose.proofs.index.mend.Goals as goal

pub returns-then-time_of-clause-summary : goal.returns-then-time_of-clause-summary
returns-then-time_of-clause-summary c =
    summary_falls c.args.below.now c.args.above.now c.args.at c.args.was c.requires.at_in c.requires.before (omega (arith, c.time_of.ensures.value, c.time_of-2.ensures.value))

pub returns-then-time_of-clause-mended : goal.returns-then-time_of-clause-mended
returns-then-time_of-clause-mended c = set_back c.args.above.now _ _

pub returns-then-time_of-2-clause-summary : goal.returns-then-time_of-2-clause-summary
returns-then-time_of-2-clause-summary c =
    summary_stays c.args.below.now c.args.above.now c.args.at c.args.was c.requires.at_in c.requires.before
    (omega (arith, c.time_of.ensures.value, c.time_of-2.ensures.value)) (omega (arith, c.time_of-3.ensures.value, c.time_of-4.ensures.value))

pub returns-then-least-old-clause-summary : goal.returns-then-least-old-clause-summary
returns-then-least-old-clause-summary c =
    summary_same c.args.below.now c.args.above.now c.args.at c.args.was c.requires.at_in c.requires.before
    (subst (λ (n : ℕ). IsLeastIn c.args.below.now (c.args.at / FAN) n) c.if-least-old.true c.least_of-least.ensures.least)

pub returns-clause-summary : goal.returns-clause-summary
returns-clause-summary c = summary_with c.args.below.now c.args.above.now c.args.at c.args.was _ c.requires.at_in c.requires.before c.least_of-least.ensures.least

pub returns-clause-mended : goal.returns-clause-mended
returns-clause-mended c = set_back c.args.above.now _ _
