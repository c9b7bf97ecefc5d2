use Rattle.std.proofs.lemmas.Result.{err_from_is_err_and}
use Rattle.wfc_proof_commands.proofs.UpgradeLemmas.{upgrade_ended}
use Rattle.wfc_proof_commands.proofs.upgrade_command.upgrade.Goals as goal
use Rattle.wfc_proof_commands.specs.UpgradeCommand.{UpgradeAnswers}
use Rattle.wfc_proof_commands.specs.UpgradeTask.{upgrade_plan}
use Rattle.wfc_reply.proofs.CallerLemmas.{put_none}

pub returns-in_err-upgrading : goal.returns-in_err-upgrading
returns-in_err-upgrading g c =
    let p = err_from_is_err_and c.from_residual.result c.from_residual.ensures.1 in
    record { ends = rw (p.1, p.2) (put_none (upgrade_plan c.args.request.now) (UpgradeAnswers c.args.request.now) _ _ _ c.in_err-upgrading.field-0.0 c.in_err-upgrading.ensures.goes) }

pub returns : goal.returns
returns g c = record {
  ends = upgrade_ended c.args.request.now _ _ _ _ c.in_ok-upgrading.upgrading.problem c.in_ok-upgrading.upgrading.refutation.items c.answer.result
      c.in_ok-upgrading.ensures.goes c.answer.ensures.upgrades;
}
