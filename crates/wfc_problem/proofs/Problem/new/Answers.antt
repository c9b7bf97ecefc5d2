-- Parts are a problem exactly where they have no fault.
use Rattle.std.proofs.Common.{◌≡◌, rules, refl, sym}
use Rattle.std.specs.Result.{result_err}
use Rattle.wfc_problem.specs.Fault.{problem_fault_of}
use Rattle.wfc_problem.proofs.Faults.{problem_from, ok_problem}
use Rattle.wfc_problem.proofs.Problem.new.Goals as goal

pub returns-in_err-check-clause-problem : goal.returns-in_err-check-clause-problem
returns-in_err-check-clause-problem c =
    let named : result_err c.from_residual.result ≡ problem_fault_of c.args.parts = search rules in
    ok_problem c.args.parts c.from_residual.result named

pub from_known-requires : goal.from_known-requires
from_known-requires c = record { problem = problem_from c.args.parts (sym c.in_ok-check.ensures.value) }

pub returns-clause-problem : goal.returns-clause-problem
returns-clause-problem c = ((λ _. problem_from c.args.parts (sym c.in_ok-check.ensures.value)), (λ _. refl))
