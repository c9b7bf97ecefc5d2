use Rattle.std.proofs.Common.{List}
use Rattle.wfc_box_commands.proofs.CallerLemmas.{faults_box_check, faults_box_fill, faults_box_refute}
use Rattle.wfc_choose.specs.declared.RuleKind.{RuleKind}
use Rattle.wfc_cli.proofs.laws.commands_refuse_in_order.Goals as goal
use Rattle.wfc_cli.specs.Commands.{command_of}
use Rattle.wfc_grow_command.proofs.CallerLemmas.{faults_grow}
use Rattle.wfc_map_commands.proofs.CallerLemmas.{faults_demo, faults_domains, faults_fill, faults_learn}
use Rattle.wfc_outside.specs.Folder.{File}
use Rattle.wfc_plan.proofs.CallerLemmas.{Faults, made_in_order}
use Rattle.wfc_plan.specs.Order.{IsFirstFault}
use Rattle.wfc_proof_commands.proofs.CallerLemmas.{faults_check, faults_refute, faults_upgrade}
use Rattle.wfc_run_commands.proofs.CallerLemmas.{faults_explain, faults_race}
use Rattle.wfc_words.specs.RequestView.{RequestView}
use Rattle.wfc_words.specs.declared.kinds.CommandKind.{CommandKind}
use Rattle.wfc_words.specs.declared.kinds.CommandKind.TheVariants as commands

-- the first fault of each command
faults_of : (kind : CommandKind) (kinds : List RuleKind) (asked : RequestView) (files : List File)
    → Faults ((command_of kind).plan kinds asked) files (IsFirstFault ((command_of kind).order kinds asked files))
faults_of commands.Learn kinds asked files = faults_learn asked files
faults_of commands.Fill kinds asked files = faults_fill kinds asked files
faults_of commands.Domains kinds asked files = faults_domains asked files
faults_of commands.Demo kinds asked files = faults_demo kinds asked files
faults_of commands.Refute kinds asked files = faults_refute kinds asked files
faults_of commands.Check kinds asked files = faults_check asked files
faults_of commands.Upgrade kinds asked files = faults_upgrade asked files
faults_of commands.Race kinds asked files = faults_race kinds asked files
faults_of commands.Explain kinds asked files = faults_explain kinds asked files
faults_of commands.Grow kinds asked files = faults_grow kinds asked files
faults_of commands.BoxFill kinds asked files = faults_box_fill kinds asked files
faults_of commands.BoxRefute kinds asked files = faults_box_refute kinds asked files
faults_of commands.BoxCheck kinds asked files = faults_box_check asked files

pub returns-clause-refused : goal.returns-clause-refused
returns-clause-refused c = faults_of

pub returns-clause-made : goal.returns-clause-made
returns-clause-made c = λ kind kinds asked files.
    made_in_order ((command_of kind).plan kinds asked) files ((command_of kind).order kinds asked files) (faults_of kind kinds asked files)
