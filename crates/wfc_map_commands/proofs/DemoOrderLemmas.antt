-- What `demo` comes to, and its first fault.
use Rattle.std.proofs.Common.{List, Ok, [], ◌≡◌}
use Rattle.wfc_choose.specs.declared.RuleKind.{RuleKind}
use Rattle.wfc_choose.specs.declared.RuleKind.TheVariants.{Fewest}
use Rattle.wfc_map_commands.specs.DemoOrder.{demo_order}
use Rattle.wfc_map_commands.specs.DemoTask.{DemoTask, demo, demo_plan}
use Rattle.wfc_map_commands.specs.Demonstration.{demo_patterns, demo_problem}
use Rattle.wfc_outside.specs.Folder.{File}
use Rattle.wfc_plan.proofs.CallerLemmas.{Faults, faults_choosers, faults_first, faults_none, given_choosers, ok_step, outcome_on}
use Rattle.wfc_plan.specs.Kinds.{HasChoosers, enough}
use Rattle.wfc_plan.specs.Order.{IsFirstFault}
use Rattle.wfc_plan.specs.Plan.{Plan, done, outcome, step}
use Rattle.wfc_plan.specs.Stages.{IsChooserFault}
use Rattle.wfc_words.specs.RequestView.{RequestView}

-- what `demo` comes to
pub given_demo : (kinds : List RuleKind) (asked : RequestView) (files : List File) → HasChoosers 1 kinds Fewest → outcome (demo_plan kinds asked) files ≡ Ok (demo (demo_patterns asked.number) (demo_problem asked.number))
given_demo kinds asked files there =
    outcome_on (step (enough 1 kinds Fewest)) (λ _. let end : Plan DemoTask = done (demo (demo_patterns asked.number) (demo_problem asked.number)) in end) files tt (ok_step (enough 1 kinds Fewest) files tt (given_choosers 1 kinds Fewest there))

-- ---- `demo`

pub faults_demo : (kinds : List RuleKind) (asked : RequestView) (files : List File) → Faults (demo_plan kinds asked) files (IsFirstFault (demo_order kinds))
faults_demo kinds asked files =
    faults_first (step (enough 1 kinds Fewest)) (λ _. let end : Plan DemoTask = done (demo (demo_patterns asked.number) (demo_problem asked.number)) in end) files (IsChooserFault 1 kinds Fewest) []
    (faults_choosers 1 kinds Fewest files) (λ _ found. faults_none (demo (demo_patterns asked.number) (demo_problem asked.number)) files)
