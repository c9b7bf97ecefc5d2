use Rattle.std.proofs.Common.{◌≡◌, ◌+◌, ◌∙◌, arith}
use Rattle.wfc_pattern.specs.Tally.{total}
use Rattle.wfc_pattern.proofs.MetLemmas.{raised_more, total_raised}
use Rattle.wfc_pattern.proofs.learner.raise_all.Goals as goal

pub raise-requires-clause-fits : goal.raise-requires-clause-fits
raise-requires-clause-fits c =
    let so_far : total c.loop-at.tally ≡ total c.args.tally.now + c.loop-at.at-index = total_raised c.args.tally.now c.loop-at.tally c.args.places.now c.loop-at.at-index (omega arith) c.loop-at.invariant.raised in
    omega arith

pub loop-at-preserved : goal.loop-at-preserved
loop-at-preserved c = record {
  raised = raised_more c.args.tally.now c.loop-at.tally c.raise.new.self c.args.places.now c.loop-at.at-index (omega arith) c.loop-at.invariant.raised c.loop-at.invariant.windows c.raise.ensures.raised;
  windows = c.raise.ensures.windows ∙ c.loop-at.invariant.windows;
}
