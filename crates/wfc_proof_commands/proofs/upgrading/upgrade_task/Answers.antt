use Rattle.std.proofs.Common.{List, ℕ}
use Rattle.std.proofs.lemmas.Result.{err_from_is_err_and}
use Rattle.wfc_plan.proofs.CallerLemmas.{goes_done, goes_on, goes_out}
use Rattle.wfc_plan.specs.Plan.{Plan, done}
use Rattle.wfc_proof_commands.proofs.UpgradingLemmas.{behind_upgraded_problem}
use Rattle.wfc_proof_commands.proofs.upgrading.upgrade_task.Goals as goal
use Rattle.wfc_proof_commands.specs.UpgradeTask.{UpgradeTask, refutation_file_plan, upgrade}
use Rattle.wfc_task.specs.Posed.{posed_plan}

pub returns-in_err-problem-clause-goes : goal.returns-in_err-problem-clause-goes
returns-in_err-problem-clause-goes g c =
    let p = err_from_is_err_and c.from_residual.result c.from_residual.ensures.1 in
    let asked = c.args.request.now in
    rw (p.1, p.2) (goes_out (posed_plan asked) (behind_upgraded_problem asked) _ _ _ c.in_err-problem.ensures.goes)

pub returns-in_err-refutation-clause-goes : goal.returns-in_err-refutation-clause-goes
returns-in_err-refutation-clause-goes g c =
    let p = err_from_is_err_and c.from_residual-in_err-refutation.result c.from_residual-in_err-refutation.ensures.1 in
    let asked = c.args.request.now in
    let P = c.in_ok-problem.problem in
    rw (p.1, p.2) (goes_on (posed_plan asked) (behind_upgraded_problem asked) _ _ _ _ _ c.in_ok-problem.ensures.goes
    (goes_out (refutation_file_plan asked) (λ (bytes : List ℕ). let end : Plan UpgradeTask = done (upgrade P bytes) in end) _ _ _ c.in_err-refutation.ensures.goes))

pub returns-clause-goes : goal.returns-clause-goes
returns-clause-goes g c =
    let asked = c.args.request.now in
    let P = c.in_ok-problem.problem in
    goes_on (posed_plan asked) (behind_upgraded_problem asked) _ _ _ _ _ c.in_ok-problem.ensures.goes
    (goes_on (refutation_file_plan asked) (λ (bytes : List ℕ). let end : Plan UpgradeTask = done (upgrade P bytes) in end) _ _ _ _ _ c.in_ok-refutation.ensures.goes goes_done)
