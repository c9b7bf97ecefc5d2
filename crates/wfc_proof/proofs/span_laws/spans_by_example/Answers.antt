use Rattle.std.proofs.Common.{refl}
use Rattle.wfc_proof.proofs.span_laws.spans_by_example.Goals as goal

pub returns : goal.returns
returns c = record { joined = refl; another_cell = refl; another_direction = refl; a_gap = refl; backwards = refl; between = refl }
