use Rattle.wfc_tileset.proofs.AllowedLemmas.{allowed_declared}
use Rattle.wfc_tileset.proofs.laws.declared_pairs_are_allowed.Goals as goal

pub returns : goal.returns
returns c = record { declared = allowed_declared }
