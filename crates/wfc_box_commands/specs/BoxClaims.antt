-- What the commands of boxes promise, in the words of their subject: what `fill`, `refute` and `check` promise, of boxes.
use Rattle.wfc_box_commands.specs.BoxMaps.{box_maps}
use Rattle.wfc_box_commands.specs.BoxProofs.{box_proofs}
use Rattle.wfc_map_commands.specs.FillClaims.{FillPromise}
use Rattle.wfc_proof_commands.specs.CheckClaims.{CheckPromise}
use Rattle.wfc_proof_commands.specs.RefuteClaims.{RefutePromise}
use Rattle.wfc_reply.specs.Asking.{Promises}
use Rattle.wfc_reply.specs.Call.{Call}
use Rattle.wfc_words.specs.declared.kinds.CommandKind.TheVariants as commands

-- the box that is written is legal, and no box is where none is written; it is that of the run
abbrev pub BoxFillPromises : Call → Type 0
BoxFillPromises call = Promises commands.BoxFill (FillPromise box_maps) call

-- what is written is a refutation, so that no box is legal, or tells the run
abbrev pub BoxRefutePromises : Call → Type 0
BoxRefutePromises call = Promises commands.BoxRefute (RefutePromise box_proofs) call

-- what is accepted is a refutation, so that no box is legal, and what isn't is none
abbrev pub BoxCheckPromises : Call → Type 0
BoxCheckPromises call = Promises commands.BoxCheck (CheckPromise box_proofs) call
