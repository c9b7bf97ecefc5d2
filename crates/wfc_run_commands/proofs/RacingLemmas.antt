-- What `race` comes to.
use Rattle.std.proofs.Common.{List, Ok, ◌∙◌, ◌≡◌}
use Rattle.wfc_choose.specs.declared.RuleKind.{RuleKind}
use Rattle.wfc_outside.specs.Folder.{File}
use Rattle.wfc_plan.proofs.CallerLemmas.{choosers_given, done_is, given_choosers, ok_step, outcome_on, outcome_parts, step_ok, unless_above, within_limit}
use Rattle.wfc_plan.specs.Kinds.{enough}
use Rattle.wfc_plan.specs.Plan.{Plan, and_then, done, outcome, step}
use Rattle.wfc_problem.specs.Network.{Network}
use Rattle.wfc_run_commands.specs.RaceGiven.{IsRaceTask}
use Rattle.wfc_run_commands.specs.RaceTask.{RaceTask, race, race_fits, race_plan, race_product}
use Rattle.wfc_run_commands.specs.declared.racing.TheConstants.{MAX_RACE}
use Rattle.wfc_task.proofs.CallerLemmas.{given_posed, posed_given}
use Rattle.wfc_task.specs.Posed.{posed_plan}
use Rattle.wfc_words.specs.RequestView.{RequestView}

-- what follows a problem in `race`, what follows its measure, and what follows its choosers
abbrev pub behind_measure : Network → Unit {0} → Plan RaceTask
behind_measure P given = done (race P)

abbrev pub behind_raced : RequestView → Network → Plan RaceTask
behind_raced asked P = and_then (step (race_fits asked.seeds P)) (behind_measure P)

abbrev pub behind_racer : RequestView → Plan RaceTask
behind_racer asked = and_then (posed_plan asked) (behind_raced asked)

pub race_given : (kinds : List RuleKind) (asked : RequestView) (files : List File) (task : RaceTask) → outcome (race_plan kinds asked) files ≡ Ok task
    → (P : Network) × (race P ≡ task) × IsRaceTask kinds asked files P
race_given kinds asked files task is =
    let found = outcome_parts (step (enough asked.seeds kinds asked.rule)) (λ _. behind_racer asked) files task is in
    let made = outcome_parts (posed_plan asked) (behind_raced asked) files task found.2 in
    let P = made.0 in
    let measured = outcome_parts (step (race_fits asked.seeds P)) (behind_measure P) files task made.2 in (
      P,
      done_is _ task files measured.2,
      record {
        choosers = choosers_given asked.seeds kinds asked.rule found.0 (step_ok (enough asked.seeds kinds asked.rule) files found.0 found.1);
        posed = posed_given asked files P made.1;
        fits = unless_above (race_product asked.seeds P) MAX_RACE _ measured.0 (step_ok (race_fits asked.seeds P) files measured.0 measured.1);
      },
    )

pub given_race : (kinds : List RuleKind) (asked : RequestView) (files : List File) (P : Network) → IsRaceTask kinds asked files P → outcome (race_plan kinds asked) files ≡ Ok (race P)
given_race kinds asked files P task =
    outcome_on (step (enough asked.seeds kinds asked.rule)) (λ _. behind_racer asked) files tt
    (ok_step (enough asked.seeds kinds asked.rule) files tt (given_choosers asked.seeds kinds asked.rule task.choosers))
    ∙ outcome_on (posed_plan asked) (behind_raced asked) files P (given_posed asked files P task.posed)
    ∙ outcome_on (step (race_fits asked.seeds P)) (behind_measure P) files tt
    (ok_step (race_fits asked.seeds P) files tt (within_limit (race_product asked.seeds P) MAX_RACE _ task.fits))
