use Rattle.std.proofs.Common.{Option, subst, ◌≡◌}
use Rattle.wfc_check.specs.declared.fault.CheckFault.{CheckFault}
use Rattle.wfc_proof_commands.proofs.ProofKindLemmas.{flat_is}
use Rattle.wfc_proof_commands.proofs.CheckingLemmas.{check_given, given_check}
use Rattle.wfc_proof_commands.proofs.laws.check_tasks_are_given.Goals as goal
use Rattle.wfc_proof_commands.specs.Checking.{flat_proofs}
use Rattle.wfc_proof_commands.specs.CheckGiven.{IsCheckTask}
use Rattle.wfc_proof_commands.specs.CheckTask.{check}

pub returns : goal.returns
returns c = record {
  task = λ asked files found. (
    λ is.
        let given = check_given flat_proofs flat_is asked files (check found) is in
        let same : given.0 ≡ found = cc (given.1) in
        subst (λ (f : Option CheckFault). IsCheckTask flat_proofs asked files f) same given.2,
    given_check flat_proofs flat_is asked files found,
  );
}
