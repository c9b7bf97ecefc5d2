use Rattle.wfc_proof.proofs.PutLemmas.{alone_cut}
use Rattle.wfc_proof.proofs.writing.put_alone.Goals as goal

pub returns-in-Err : goal.returns-in-Err
returns-in-Err g c = record { put = alone_cut _ _ c.args.line c.requires.alone c.in-Err.ensures.put }
