use Rattle.std.proofs.Common.{◌∙◌, sym, ap}
use Rattle.wfc_check.proofs.Branches.{resumes, waits_same}
use Rattle.wfc_check.proofs.trail.BranchTrail.close.Goals as goal

pub returns-then-entry-clause-some : goal.returns-then-entry-clause-some
returns-then-entry-clause-some c =
    resumes c.args.self.now c.loop-entry.self _ c.in-Some.entry c.loop-entry.invariant.waiting c.in-Some.ensures.last c.if-entry.true c.in-Some.ensures.stood

pub loop-entry-preserved : goal.loop-entry-preserved
loop-entry-preserved c = record {
  same = ap (λ t. t.problem) (sym c.in-Some.ensures.last) ∙ c.loop-entry.invariant.same;
  waiting = waits_same c.args.self.now c.loop-entry.self _ c.in-Some.entry c.loop-entry.invariant.waiting c.in-Some.ensures.last c.if-entry.false;
}
