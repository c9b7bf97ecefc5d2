use Rattle.wfc_proof.proofs.Sound.{closes_none, closed_none}
use Rattle.wfc_proof.proofs.laws.proofs_are_sound.Goals as goal

pub returns : goal.returns
returns c = record { within = closes_none; base = closed_none }
