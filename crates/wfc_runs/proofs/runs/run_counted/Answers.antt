use Rattle.std.proofs.Common.{refl, subst, ◌∙◌}
use Rattle.wfc_problem.specs.Network.{IsProblem}
use Rattle.wfc_runs.proofs.RunLemmas.{answers_legal, answers_ran}
use Rattle.wfc_runs.proofs.runs.run_counted.Goals as goal

pub returns-clause-ran : goal.returns-clause-ran
returns-clause-ran g c =
    let made = c.in_ok-search.ensures in
    answers_ran c.args.problem.now _ _ _ c.args.budget _ c.args.seed _ _ c.seeded_outcome-outcome.result c.ran_of.result (c.seeded_outcome-outcome.ensures.end.1 0).1 made.problem made.rule made.budget made.standing made.retractions refl refl
    c.ran_of.ensures.end c.ran_of.ensures.retractions

pub returns-clause-legal : goal.returns-clause-legal
returns-clause-legal g c =
    let made = c.in_ok-search.ensures in
    answers_legal c.args.problem.now (subst IsProblem (made.ready.problem ∙ made.problem) made.ready.keeps.sound.problem) _ _ _ _ (returns-clause-ran g c)
