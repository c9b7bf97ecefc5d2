-- What a call promises of `refute` and `check`, whose maps are of windows or of tiles.
use Rattle.std.proofs.Common.{List, refl}
use Rattle.wfc_choose.specs.declared.RuleKind.{RuleKind}
use Rattle.wfc_outside.specs.Folder.{File}
use Rattle.wfc_plan.proofs.CallerLemmas.{Faults}
use Rattle.wfc_plan.specs.Order.{IsFirstFault}
use Rattle.wfc_problem.specs.Network.{Network}
use Rattle.wfc_proof_commands.proofs.CheckLemmas as checking
use Rattle.wfc_proof_commands.proofs.CheckLemmas.{IsKnown}
use Rattle.wfc_proof_commands.proofs.CheckOrderLemmas as checked
use Rattle.wfc_proof_commands.proofs.ProofKindLemmas.{flat_is}
use Rattle.wfc_proof_commands.proofs.RefuteLemmas as refuting
use Rattle.wfc_proof_commands.proofs.RefuteOrderLemmas as refuted
use Rattle.wfc_proof_commands.proofs.ShapeLemmas.{command_shape}
use Rattle.wfc_proof_commands.specs.CheckClaims.{CheckPromise}
use Rattle.wfc_proof_commands.specs.CheckCommand.{check_command}
use Rattle.wfc_proof_commands.specs.CheckOrder.{check_order}
use Rattle.wfc_proof_commands.specs.CheckTask.{check_plan}
use Rattle.wfc_proof_commands.specs.Checking.{flat_proofs}
use Rattle.wfc_proof_commands.specs.RefuteClaims.{RefutePromise}
use Rattle.wfc_proof_commands.specs.RefuteCommand.{refute_command}
use Rattle.wfc_proof_commands.specs.RefuteOrder.{refute_order}
use Rattle.wfc_proof_commands.specs.RefuteTask.{refute_plan}
use Rattle.wfc_reply.proofs.CallerLemmas.{CameTo, EndsSo}
use Rattle.wfc_reply.specs.Asking.{IsCommand}
use Rattle.wfc_reply.specs.Call.{Call}
use Rattle.wfc_task.proofs.CallerLemmas.{TakesSides, command_bridged, flat_problem}
use Rattle.wfc_task.specs.MapKind.{IsMapProblem}
use Rattle.wfc_task.specs.Maps.{flat_maps}
use Rattle.wfc_task.specs.Posed.{Posed}
use Rattle.wfc_words.specs.RequestView.{RequestView}
use Rattle.wfc_words.specs.declared.kinds.CommandKind.{CommandKind}
use Rattle.wfc_words.specs.declared.kinds.CommandKind.TheVariants as commands

-- what is known of the problem of a command with sides
flat_known : (command : CommandKind) → TakesSides command → (call : Call) (asked : RequestView) (files : List File) → IsCommand command call asked files → (P : Network) (posed : Posed asked files P) → IsMapProblem flat_maps asked files P posed
flat_known command sides call asked files is P posed = flat_problem asked files P posed (command_bridged command call.words asked files P posed sides is.given.spelled is.command_is)

-- and with its shape
shaped : (command : CommandKind) → TakesSides command → (call : Call) (asked : RequestView) (files : List File) → IsCommand command call asked files → (P : Network) (posed : Posed asked files P) → IsKnown flat_proofs asked files P posed
shaped command sides call asked files is P posed = record { maps = flat_known command sides call asked files is P posed; shape = command_shape command call asked files sides is }

sides_of_refute : TakesSides commands.Refute
sides_of_refute = record { model = refl; width = refl; height = refl }

sides_of_check : TakesSides commands.Check
sides_of_check = record { model = refl; width = refl; height = refl }

-- ---- `refute`

pub faults_refute : (kinds : List RuleKind) (asked : RequestView) (files : List File) → Faults (refute_plan flat_proofs kinds asked) files (IsFirstFault (refute_order flat_proofs kinds asked files))
faults_refute = refuted.faults_refute flat_proofs flat_is

pub refute_ends : EndsSo commands.Refute refute_command
refute_ends = refuting.refute_ends flat_proofs flat_is commands.Refute (flat_known commands.Refute sides_of_refute)

pub refute_promise : (call : Call) (asked : RequestView) (files : List File) → IsCommand commands.Refute call asked files → CameTo refute_command call asked files → RefutePromise flat_proofs call asked files
refute_promise = refuting.refute_promise flat_proofs flat_is commands.Refute (flat_known commands.Refute sides_of_refute)

-- ---- `check`

pub faults_check : (asked : RequestView) (files : List File) → Faults (check_plan flat_proofs asked) files (IsFirstFault (check_order flat_proofs asked files))
faults_check = checked.faults_check flat_proofs flat_is

pub check_ends : EndsSo commands.Check check_command
check_ends = checking.check_ends flat_proofs flat_is commands.Check (shaped commands.Check sides_of_check)

pub check_promise : (call : Call) (asked : RequestView) (files : List File) → IsCommand commands.Check call asked files → CameTo check_command call asked files → CheckPromise flat_proofs call asked files
check_promise = checking.check_promise flat_proofs flat_is commands.Check (shaped commands.Check sides_of_check)
