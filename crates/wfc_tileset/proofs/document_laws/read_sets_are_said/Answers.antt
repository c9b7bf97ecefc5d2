use Rattle.wfc_tileset.proofs.SaidLemmas.{one_is_said, said_is_read}
use Rattle.wfc_tileset.proofs.SaysLemmas.{document_says}
use Rattle.wfc_tileset.proofs.document_laws.read_sets_are_said.Goals as goal

pub returns : goal.returns
returns c = record { said = document_says; read = said_is_read; one = one_is_said }
