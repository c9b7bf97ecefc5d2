use Rattle.std.proofs.Common.{refl}
use Rattle.wfc_proof_commands.proofs.CheckingLemmas.{refutation_found}
use Rattle.wfc_proof_commands.proofs.checking.refutation.Goals as goal

pub returns : goal.returns
returns g c = record {
  goes = refutation_found c.args.shape.now c.args.request.now c.args.problem.now _ _ c.args.shape.now c.refutation_name-name.result.now c.check.result c.found_in.result refl c.refutation_name-name.ensures.value
      c.check.ensures.answer c.found_in.ensures.value;
}
