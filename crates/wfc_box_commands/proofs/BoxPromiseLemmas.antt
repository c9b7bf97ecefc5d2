-- What a call promises of `box-fill`, `box-refute` and `box-check`: what is proved of `fill`, `refute` and `check`, at boxes.
use Rattle.std.proofs.Common.{List, refl, subst, sym}
use Rattle.wfc_box_commands.proofs.BoxFillGivenLemmas.{box_fill_given}
use Rattle.wfc_box_commands.proofs.BoxKindLemmas.{TakesBox, box_is, box_known, box_shaped}
use Rattle.wfc_box_commands.specs.BoxFillCommand.{BoxFillAnswers, box_fill_command}
use Rattle.wfc_box_commands.specs.BoxMaps.{OfBox, box_maps}
use Rattle.wfc_box_commands.specs.BoxProofCommands.{box_check_command, box_refute_command}
use Rattle.wfc_box_commands.specs.BoxProofs.{box_proofs}
use Rattle.wfc_choose.specs.declared.RuleKind.{RuleKind}
use Rattle.wfc_map_commands.proofs.CallerLemmas.{HasFilled, filled_with, map_ends, map_promise}
use Rattle.wfc_map_commands.specs.FillClaims.{FillPromise}
use Rattle.wfc_outside.specs.Folder.{File}
use Rattle.wfc_plan.proofs.CallerLemmas.{Faults}
use Rattle.wfc_plan.specs.Order.{IsFirstFault}
use Rattle.wfc_problem.specs.Network.{Network}
use Rattle.wfc_proof_commands.proofs.CheckLemmas as checking
use Rattle.wfc_proof_commands.proofs.CheckLemmas.{IsKnown}
use Rattle.wfc_proof_commands.proofs.CheckOrderLemmas as checked
use Rattle.wfc_proof_commands.proofs.RefuteLemmas as refuting
use Rattle.wfc_proof_commands.proofs.RefuteOrderLemmas as refuted
use Rattle.wfc_proof_commands.specs.CheckClaims.{CheckPromise}
use Rattle.wfc_proof_commands.specs.CheckOrder.{check_order}
use Rattle.wfc_proof_commands.specs.CheckTask.{check_plan}
use Rattle.wfc_proof_commands.specs.RefuteClaims.{RefutePromise}
use Rattle.wfc_proof_commands.specs.RefuteOrder.{refute_order}
use Rattle.wfc_proof_commands.specs.RefuteTask.{refute_plan}
use Rattle.wfc_reply.proofs.CallerLemmas.{CameTo, EndsSo, HasAnswered}
use Rattle.wfc_reply.specs.Asking.{IsCommand}
use Rattle.wfc_reply.specs.Call.{Call}
use Rattle.wfc_reply.specs.Choosers.{kinds_of}
use Rattle.wfc_reply.specs.Reply.{Answered}
use Rattle.wfc_task.specs.MapKind.{IsMapProblem}
use Rattle.wfc_words.specs.RequestView.{RequestView}
use Rattle.wfc_words.specs.declared.kinds.CommandKind.{CommandKind}

-- the first faults of the commands that refute and check
pub faults_box_refute : (kinds : List RuleKind) (asked : RequestView) (files : List File) → Faults (refute_plan box_proofs kinds asked) files (IsFirstFault (refute_order box_proofs kinds asked files))
faults_box_refute = refuted.faults_refute box_proofs box_is

pub faults_box_check : (asked : RequestView) (files : List File) → Faults (check_plan box_proofs asked) files (IsFirstFault (check_order box_proofs asked files))
faults_box_check = checked.faults_check box_proofs box_is

-- ---- of commands that have words for the sides of a box

module _ (kind : CommandKind) (has_sides : TakesBox kind) where
  known_box : (call : Call) (asked : RequestView) (files : List File) → IsCommand kind call asked files → (P : Network) (posed : OfBox asked files P) → IsMapProblem box_maps asked files P posed
  known_box = box_known kind has_sides

  -- what `box-fill` answered
  box_filled_by : (call : Call) (asked : RequestView) (files : List File) (answered : Answered) → IsCommand kind call asked files → HasAnswered box_fill_command call.rules asked files answered
      → HasFilled box_maps call.rules asked files answered
  box_filled_by call asked files answered is has =
      let given = box_fill_given (kinds_of call.rules) asked files has.task has.is in
      filled_with box_maps call.rules asked files answered (record { chooser = given.chooser; P = given.P; posed = given.posed; layout = given.form; laid = given.laid })
      (subst (λ task. BoxFillAnswers call.rules asked task answered) (sym given.is) has.answers)

  pub fill_ends_of : EndsSo kind box_fill_command
  fill_ends_of = map_ends box_maps kind box_fill_command known_box box_filled_by (λ rules asked files. refl) (λ asked. refl)

  -- all that `box-fill` promises
  pub fill_promise_of : (call : Call) (asked : RequestView) (files : List File) → IsCommand kind call asked files → CameTo box_fill_command call asked files → FillPromise box_maps call asked files
  fill_promise_of = map_promise box_maps kind box_fill_command known_box box_filled_by

  pub refute_ends_of : EndsSo kind box_refute_command
  refute_ends_of = refuting.refute_ends box_proofs box_is kind known_box

  -- all that `box-refute` promises
  pub refute_promise_of : (call : Call) (asked : RequestView) (files : List File) → IsCommand kind call asked files → CameTo box_refute_command call asked files → RefutePromise box_proofs call asked files
  refute_promise_of = refuting.refute_promise box_proofs box_is kind known_box

  -- what is known of the problem and of the shape of `box-check`
  known_check : (call : Call) (asked : RequestView) (files : List File) → IsCommand kind call asked files → (P : Network) (posed : OfBox asked files P) → IsKnown box_proofs asked files P posed
  known_check call asked files is P posed = record { maps = known_box call asked files is P posed; shape = box_shaped kind has_sides call asked files is }

  pub check_ends_of : EndsSo kind box_check_command
  check_ends_of = checking.check_ends box_proofs box_is kind known_check

  -- all that `box-check` promises
  pub check_promise_of : (call : Call) (asked : RequestView) (files : List File) → IsCommand kind call asked files → CameTo box_check_command call asked files → CheckPromise box_proofs call asked files
  check_promise_of = checking.check_promise box_proofs box_is kind known_check
