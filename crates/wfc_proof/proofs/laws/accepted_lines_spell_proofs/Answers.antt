use Rattle.wfc_proof.proofs.Told.{lines_close, lines_ended, lines_go}
use Rattle.wfc_proof.proofs.laws.accepted_lines_spell_proofs.Goals as goal

pub returns : goal.returns
returns c = record { closed = lines_close; ended = lines_ended; going = lines_go }
