use Rattle.std.proofs.Common.{subst, sym}
use Rattle.wfc_map_commands.proofs.fill_command.answer.Goals as goal
use Rattle.wfc_map_commands.specs.Held.{problem_in}
use Rattle.wfc_problem.specs.Assignment.{IsLegalAssignment}
use Rattle.wfc_runs.specs.Runs.{IsLegalEnd}

pub map_answer-requires-clause-legal : goal.map_answer-requires-clause-legal
map_answer-requires-clause-legal g c =
    let legal = subst (IsLegalEnd c.problem_in-problem.result.now) c.in-Map.is c.in_ok-ran.ensures.legal in
    subst (IsLegalAssignment (problem_in c.args.filled.now)) (sym (rw c.in-Map.is at c.deref.ensures.value)) (subst (λ P. IsLegalAssignment P c.in-Map.assignment.items) c.problem_in-problem.ensures.value legal)
