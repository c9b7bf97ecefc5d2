use Rattle.std.proofs.Common.{Option}
use Rattle.std.proofs.lemmas.Result.{err_from_is_err_and}
use Rattle.wfc_check.specs.declared.fault.CheckFault.{CheckFault}
use Rattle.wfc_plan.proofs.CallerLemmas.{goes_done, goes_on, goes_out}
use Rattle.wfc_plan.specs.Plan.{Plan, done}
use Rattle.wfc_proof_commands.proofs.CheckingLemmas.{behind_checked_problem}
use Rattle.wfc_proof_commands.proofs.checking.check_task.Goals as goal
use Rattle.wfc_proof_commands.specs.CheckTask.{CheckTask, check}
use Rattle.wfc_proof_commands.specs.Checking.{flat_proofs, refutation_plan, shape_asked}
use Rattle.wfc_task.specs.Posed.{posed_plan}

pub returns-in_err-problem : goal.returns-in_err-problem
returns-in_err-problem g c =
    let p = err_from_is_err_and c.from_residual.result c.from_residual.ensures.1 in
    let asked = c.args.request.now in
    record { goes = rw (p.1, p.2) (goes_out (posed_plan asked) (behind_checked_problem flat_proofs asked) _ _ _ c.in_err-problem.ensures.goes) }

pub returns-in_err-found : goal.returns-in_err-found
returns-in_err-found g c =
    let p = err_from_is_err_and c.from_residual-in_err-found.result c.from_residual-in_err-found.ensures.1 in
    let asked = c.args.request.now in
    let P = c.in_ok-problem.problem in
    record {
      goes = rw (p.1, p.2) (goes_on (posed_plan asked) (behind_checked_problem flat_proofs asked) _ _ _ _ _ c.in_ok-problem.ensures.goes
          (goes_out (refutation_plan (shape_asked asked) asked P) (λ (found : Option CheckFault). let end : Plan CheckTask = done (check found) in end) _ _ _ (rw c.shape-shape.ensures.value at c.in_err-found.ensures.goes)));
    }

pub returns : goal.returns
returns g c =
    let asked = c.args.request.now in
    let P = c.in_ok-problem.problem in
    record {
      goes = goes_on (posed_plan asked) (behind_checked_problem flat_proofs asked) _ _ _ _ _ c.in_ok-problem.ensures.goes
          (goes_on (refutation_plan (shape_asked asked) asked P) (λ (found : Option CheckFault). let end : Plan CheckTask = done (check found) in end) _ _ _ _ _ (rw c.shape-shape.ensures.value at c.in_ok-found.ensures.goes) goes_done);
    }
