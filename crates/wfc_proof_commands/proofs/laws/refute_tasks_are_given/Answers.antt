use Rattle.std.proofs.Common.{subst, ◌≡◌}
use Rattle.wfc_problem.specs.Network.{Network}
use Rattle.wfc_proof_commands.proofs.ProofKindLemmas.{flat_is}
use Rattle.wfc_proof_commands.proofs.RefutingLemmas.{given_refute, refute_given}
use Rattle.wfc_proof_commands.proofs.laws.refute_tasks_are_given.Goals as goal
use Rattle.wfc_proof_commands.specs.Checking.{flat_proofs}
use Rattle.wfc_proof_commands.specs.RefuteGiven.{IsRefuteTask}
use Rattle.wfc_proof_commands.specs.RefuteTask.{refute}

pub returns : goal.returns
returns c = record {
  task = λ kinds asked files P. (
    λ is.
        let given = refute_given flat_proofs flat_is kinds asked files (refute P) is in
        let same : given.0 ≡ P = cc (given.1) in
        subst (λ (q : Network). IsRefuteTask flat_proofs kinds asked files q) same given.2,
    given_refute flat_proofs flat_is kinds asked files P,
  );
}
