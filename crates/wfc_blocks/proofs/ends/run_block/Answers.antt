use Rattle.std.proofs.Common.{subst}
use Rattle.wfc_problem.specs.Network.{Network}
use Rattle.wfc_runs.specs.Runs.{IsLegalEnd}
use Rattle.wfc_runs.proofs.CallerLemmas.{ran_end}
use Rattle.wfc_blocks.proofs.BlockEndLemmas.{answers_block_end}
use Rattle.wfc_blocks.proofs.ends.run_block.Goals as goal

pub shown_end-requires-clause-legal : goal.shown_end-requires-clause-legal
shown_end-requires-clause-legal g c =
    (c.args.marks.now, subst (λ (P : Network). IsLegalEnd P c.in_ok-ran.ran.end) c.in_ok-problem.ensures.value c.in_ok-ran.ensures.legal)

pub returns-clause-ends : goal.returns-clause-ends
returns-clause-ends g c =
    answers_block_end c.args.patterns.now c.args.marks.now c.args.block c.in_ok-problem.problem _ c.args.budget c.args.seed c.in_ok-ran.ran.end c.shown_end.result c.in_ok-problem.ensures.value
    (ran_end c.in_ok-problem.problem _ c.args.budget c.args.seed c.in_ok-ran.ran c.in_ok-ran.ensures.ran) c.shown_end.ensures.shown
