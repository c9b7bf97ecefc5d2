use Rattle.std.proofs.Common.{refl}
use Rattle.wfc_runs.proofs.RunLemmas.{begun_ends}
use Rattle.wfc_runs.proofs.runs.outcome_counted.Goals as goal

pub returns : goal.returns
returns g c =
    let made = c.in_ok-search.ensures in
    record { ends = begun_ends c.args.problem.now _ _ _ c.args.budget _ c.args.seed _ _ c.seeded_outcome.result (c.seeded_outcome.ensures.end.1 0).1 made.problem made.rule made.budget made.standing made.retractions refl refl }
