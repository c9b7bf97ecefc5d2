-- How a call of each command of boxes ends, and what it promises.
use Rattle.std.proofs.Common.{List, refl}
use Rattle.wfc_box_commands.proofs.BoxKindLemmas.{TakesBox}
use Rattle.wfc_box_commands.proofs.BoxPromiseLemmas.{check_ends_of, check_promise_of, fill_ends_of, fill_promise_of, refute_ends_of, refute_promise_of}
use Rattle.wfc_box_commands.specs.BoxFillCommand.{box_fill_command}
use Rattle.wfc_box_commands.specs.BoxMaps.{box_maps}
use Rattle.wfc_box_commands.specs.BoxProofCommands.{box_check_command, box_refute_command}
use Rattle.wfc_box_commands.specs.BoxProofs.{box_proofs}
use Rattle.wfc_map_commands.specs.FillClaims.{FillPromise}
use Rattle.wfc_outside.specs.Folder.{File}
use Rattle.wfc_proof_commands.specs.CheckClaims.{CheckPromise}
use Rattle.wfc_proof_commands.specs.RefuteClaims.{RefutePromise}
use Rattle.wfc_reply.proofs.CallerLemmas.{CameTo, EndsSo}
use Rattle.wfc_reply.specs.Asking.{IsCommand}
use Rattle.wfc_reply.specs.Call.{Call}
use Rattle.wfc_words.specs.RequestView.{RequestView}
use Rattle.wfc_words.specs.declared.kinds.CommandKind.TheVariants as commands

-- each has words for the sides of a box
fill_sides : TakesBox commands.BoxFill
fill_sides = record { width = refl; height = refl; depth = refl }

refute_sides : TakesBox commands.BoxRefute
refute_sides = record { width = refl; height = refl; depth = refl }

check_sides : TakesBox commands.BoxCheck
check_sides = record { width = refl; height = refl; depth = refl }

pub box_fill_ends : EndsSo commands.BoxFill box_fill_command
box_fill_ends = fill_ends_of commands.BoxFill fill_sides

pub box_fill_promise : (call : Call) (asked : RequestView) (files : List File) → IsCommand commands.BoxFill call asked files → CameTo box_fill_command call asked files → FillPromise box_maps call asked files
box_fill_promise = fill_promise_of commands.BoxFill fill_sides

pub box_refute_ends : EndsSo commands.BoxRefute box_refute_command
box_refute_ends = refute_ends_of commands.BoxRefute refute_sides

pub box_refute_promise : (call : Call) (asked : RequestView) (files : List File) → IsCommand commands.BoxRefute call asked files → CameTo box_refute_command call asked files → RefutePromise box_proofs call asked files
box_refute_promise = refute_promise_of commands.BoxRefute refute_sides

pub box_check_ends : EndsSo commands.BoxCheck box_check_command
box_check_ends = check_ends_of commands.BoxCheck check_sides

pub box_check_promise : (call : Call) (asked : RequestView) (files : List File) → IsCommand commands.BoxCheck call asked files → CameTo box_check_command call asked files → CheckPromise box_proofs call asked files
box_check_promise = check_promise_of commands.BoxCheck check_sides
