-- The commands `box-refute` and `box-check`: those of refutations, of boxes.
use Rattle.wfc_box_commands.specs.BoxProofs.{box_proofs}
use Rattle.wfc_proof_commands.specs.CheckCommand.{checks}
use Rattle.wfc_proof_commands.specs.RefuteCommand.{refutes}
use Rattle.wfc_reply.specs.Command.{Command}

-- the command that refutes problems of boxes
abbrev pub box_refute_command : Command
box_refute_command = refutes box_proofs

-- the command that checks refutations of problems of boxes
abbrev pub box_check_command : Command
box_check_command = checks box_proofs
