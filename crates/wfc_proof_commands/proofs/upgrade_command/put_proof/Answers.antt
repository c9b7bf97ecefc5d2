use Rattle.std.proofs.Common.{ap, refl, ◌∙◌}
use Rattle.std.proofs.lemmas.Result.{err_from_is_err_and}
use Rattle.wfc_outside.proofs.CallerLemmas.{fault_behind}
use Rattle.wfc_outside.specs.Sink.{after_finish}
use Rattle.wfc_proof.specs.Upgrade.{upgraded_text}
use Rattle.wfc_proof_commands.proofs.upgrade_command.put_proof.Goals as goal

pub returns-in_err-upgrade : goal.returns-in_err-upgrade
returns-in_err-upgrade g c =
    let p = err_from_is_err_and c.from_residual.result c.from_residual.ensures.1 in
    record { put = rw (p.1, p.2) c.in_err-upgrade.ensures.put }

pub returns-in_err-finish : goal.returns-in_err-finish
returns-in_err-finish g c =
    let p = err_from_is_err_and c.from_residual-in_err-finish.result c.from_residual-in_err-finish.ensures.1 in
    record {
      put = rw (p.1, p.2) (fault_behind _ _ _ (upgraded_text c.args.problem.now c.args.shape c.args.bytes.now) c.in_ok-upgrade.ensures.put c.in_err-finish.ensures.finished);
    }

pub returns : goal.returns
returns g c = record { put = (refl, c.in_ok-finish.ensures.finished ∙ ap after_finish c.in_ok-upgrade.ensures.put) }
