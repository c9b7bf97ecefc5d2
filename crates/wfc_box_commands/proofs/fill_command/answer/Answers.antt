use Rattle.std.proofs.Common.{subst, sym}
use Rattle.wfc_box_commands.proofs.fill_command.answer.Goals as goal
use Rattle.wfc_problem.specs.Assignment.{IsLegalAssignment}
use Rattle.wfc_runs.specs.Runs.{IsLegalEnd}

pub box_answer-requires-clause-legal : goal.box_answer-requires-clause-legal
box_answer-requires-clause-legal g c =
    let legal = subst (IsLegalEnd c.args.filling.now.problem) c.in-Map.is c.in_ok-ran.ensures.legal in
    subst (IsLegalAssignment c.args.filling.now.problem) (sym (rw c.in-Map.is at c.deref.ensures.value)) legal
