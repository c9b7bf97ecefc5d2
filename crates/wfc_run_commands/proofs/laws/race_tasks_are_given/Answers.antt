use Rattle.std.proofs.Common.{subst, ◌≡◌}
use Rattle.wfc_problem.specs.Network.{Network}
use Rattle.wfc_run_commands.proofs.RacingLemmas.{given_race, race_given}
use Rattle.wfc_run_commands.proofs.laws.race_tasks_are_given.Goals as goal
use Rattle.wfc_run_commands.specs.RaceGiven.{IsRaceTask}
use Rattle.wfc_run_commands.specs.RaceTask.{race}

pub returns-clause-task : goal.returns-clause-task
returns-clause-task c kinds asked files P = (
  λ is.
      let given = race_given kinds asked files (race P) is in
      let same : given.0 ≡ P = cc (given.1) in
      subst (λ (q : Network). IsRaceTask kinds asked files q) same given.2,
  given_race kinds asked files P,
)
