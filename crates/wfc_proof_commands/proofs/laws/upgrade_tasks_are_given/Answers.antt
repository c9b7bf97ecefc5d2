use Rattle.std.proofs.Common.{List, subst, ℕ, ◌≡◌}
use Rattle.wfc_problem.specs.Network.{Network}
use Rattle.wfc_proof_commands.proofs.UpgradingLemmas.{given_upgrade, upgrade_given}
use Rattle.wfc_proof_commands.proofs.laws.upgrade_tasks_are_given.Goals as goal
use Rattle.wfc_proof_commands.specs.UpgradeGiven.{IsUpgradeTask}
use Rattle.wfc_proof_commands.specs.UpgradeTask.{upgrade}

pub returns : goal.returns
returns c = record {
  task = λ asked files P bytes. (
    λ is.
        let given = upgrade_given asked files (upgrade P bytes) is in
        let same : given.0 ≡ P = cc (given.2) in
        let bytes_same : given.1 ≡ bytes = cc (given.2) in
        subst (λ (q : Network). IsUpgradeTask asked files q bytes) same (subst (λ (b : List ℕ). IsUpgradeTask asked files given.0 b) bytes_same given.3),
    given_upgrade asked files P bytes,
  );
}
