-- The commands.
use Rattle.std.specs.Prelude.{List, Result}
use Rattle.wfc_box_commands.specs.BoxFillCommand.{box_fill_command}
use Rattle.wfc_box_commands.specs.BoxProofCommands.{box_check_command, box_refute_command}
use Rattle.wfc_choose.specs.Pick.{Rule}
use Rattle.wfc_grow_command.specs.GrowCommand.{grow_command}
use Rattle.wfc_map_commands.specs.DemoCommand.{demo_command}
use Rattle.wfc_map_commands.specs.DomainsCommand.{domains_command}
use Rattle.wfc_map_commands.specs.FillCommand.{fill_command}
use Rattle.wfc_map_commands.specs.LearnCommand.{learn_command}
use Rattle.wfc_outside.specs.Folder.{File, FolderView}
use Rattle.wfc_outside.specs.Sink.{SinkView}
use Rattle.wfc_plan.specs.Plan.{Plan, outcome}
use Rattle.wfc_plan.specs.declared.fault.Fault.{Fault}
use Rattle.wfc_proof_commands.specs.CheckCommand.{check_command}
use Rattle.wfc_proof_commands.specs.RefuteCommand.{refute_command}
use Rattle.wfc_proof_commands.specs.UpgradeCommand.{upgrade_command}
use Rattle.wfc_reply.specs.Choosers.{kinds_of}
use Rattle.wfc_reply.specs.Command.{Command}
use Rattle.wfc_reply.specs.Ending.{EndsAs}
use Rattle.wfc_reply.specs.Reply.{Answered}
use Rattle.wfc_reply.specs.declared.reply.CommandVerdict.{CommandVerdict}
use Rattle.wfc_reply.specs.declared.reply.Stop.{Stop}
use Rattle.wfc_run_commands.specs.ExplainCommand.{explain_command}
use Rattle.wfc_run_commands.specs.RaceCommand.{race_command}
use Rattle.wfc_words.specs.RequestView.{RequestView}
use Rattle.wfc_words.specs.declared.kinds.CommandKind.{CommandKind}
use Rattle.wfc_words.specs.declared.kinds.CommandKind.TheVariants as commands

-- the command of each kind
abbrev pub command_of : CommandKind → Command
command_of commands.Learn = learn_command
command_of commands.Fill = fill_command
command_of commands.Domains = domains_command
command_of commands.Demo = demo_command
command_of commands.Refute = refute_command
command_of commands.Check = check_command
command_of commands.Upgrade = upgrade_command
command_of commands.Race = race_command
command_of commands.Explain = explain_command
command_of commands.Grow = grow_command
command_of commands.BoxFill = box_fill_command
command_of commands.BoxRefute = box_refute_command
command_of commands.BoxCheck = box_check_command

-- the command of a request
abbrev pub asked_command : RequestView → Command
asked_command asked = command_of asked.command

-- its plan, where these are the rules of the choosers
abbrev pub plan_of : List Rule → (asked : RequestView) → Plan (asked_command asked).Task
plan_of rules asked = (asked_command asked).plan (kinds_of rules) asked

-- what it may answer to its task
abbrev pub AnswersTask : List Rule → (asked : RequestView) → (asked_command asked).Task → Answered → Type 0
AnswersTask rules asked = (asked_command asked).Answers rules asked

-- its task over these files
abbrev pub task_of : List Rule → (asked : RequestView) → List File → Result (asked_command asked).Task Fault
task_of rules asked files = outcome (plan_of rules asked) files

-- the command of a request may end so
abbrev pub EndsAsked : List Rule → RequestView → FolderView → FolderView → SinkView → SinkView → Result CommandVerdict Stop
    → Type 0
EndsAsked rules asked before after old new ended = EndsAs (asked_command asked) rules asked before after old new ended
