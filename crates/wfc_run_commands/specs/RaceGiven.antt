-- The task of `race` over files that are told, in the subject's words.
use Rattle.std.specs.Prelude.{List, ◌≤◌}
use Rattle.wfc_choose.specs.declared.RuleKind.{RuleKind}
use Rattle.wfc_outside.specs.Folder.{File}
use Rattle.wfc_plan.specs.Kinds.{HasChoosers}
use Rattle.wfc_problem.specs.Network.{Network}
use Rattle.wfc_run_commands.specs.RaceTask.{race_product}
use Rattle.wfc_run_commands.specs.declared.racing.TheConstants.{MAX_RACE}
use Rattle.wfc_task.specs.Posed.{Posed}
use Rattle.wfc_words.specs.RequestView.{RequestView}

-- for each seed a chooser goes by the rule, the problem is that of the request, and the race isn't too large
pub record IsRaceTask (kinds : List RuleKind) (asked : RequestView) (files : List File) (P : Network) : Type 0 where
  pub choosers : HasChoosers asked.seeds kinds asked.rule
  pub posed : Posed asked files P
  pub fits : race_product asked.seeds P ≤ MAX_RACE
