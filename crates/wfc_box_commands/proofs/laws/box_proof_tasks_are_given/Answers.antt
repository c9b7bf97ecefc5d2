use Rattle.std.proofs.Common.{Option, subst, ◌≡◌}
use Rattle.wfc_box_commands.proofs.BoxKindLemmas.{box_is}
use Rattle.wfc_box_commands.proofs.laws.box_proof_tasks_are_given.Goals as goal
use Rattle.wfc_box_commands.specs.BoxProofs.{box_proofs}
use Rattle.wfc_check.specs.declared.fault.CheckFault.{CheckFault}
use Rattle.wfc_problem.specs.Network.{Network}
use Rattle.wfc_proof_commands.proofs.CheckingLemmas.{check_given, given_check}
use Rattle.wfc_proof_commands.proofs.RefutingLemmas.{given_refute, refute_given}
use Rattle.wfc_proof_commands.specs.CheckGiven.{IsCheckTask}
use Rattle.wfc_proof_commands.specs.CheckTask.{check}
use Rattle.wfc_proof_commands.specs.RefuteGiven.{IsRefuteTask}
use Rattle.wfc_proof_commands.specs.RefuteTask.{refute}

pub returns-clause-refute : goal.returns-clause-refute
returns-clause-refute c = λ kinds asked files P. (
  λ is.
      let given = refute_given box_proofs box_is kinds asked files (refute P) is in
      let same : given.0 ≡ P = cc (given.1) in
      subst (λ (q : Network). IsRefuteTask box_proofs kinds asked files q) same given.2,
  given_refute box_proofs box_is kinds asked files P,
)

pub returns-clause-check : goal.returns-clause-check
returns-clause-check c = λ asked files found. (
  λ is.
      let given = check_given box_proofs box_is asked files (check found) is in
      let same : given.0 ≡ found = cc (given.1) in
      subst (λ (f : Option CheckFault). IsCheckTask box_proofs asked files f) same given.2,
  given_check box_proofs box_is asked files found,
)
