use Rattle.std.proofs.Common.{subst}
use Rattle.wfc_outside.specs.Gives.{Gives}
use Rattle.wfc_plan.specs.declared.fault.Refusal.TheVariants.{NoMemory}
use Rattle.wfc_task.proofs.LessonLemmas.{posed_result}
use Rattle.wfc_task.proofs.steps.problem_of_lines.Goals as goal
use Rattle.wfc_task.specs.Steps.{problem_of_lines}
use Rattle.wfc_words.specs.RequestView.{RequestView}

pub returns-clause-posed : goal.returns-clause-posed
returns-clause-posed c =
    let taught = c.args.taught.now in
    posed_result c.args.request.now taught.patterns taught.palette c.args.lines.now _ c.requires.patterns
    (subst (λ (asked : RequestView). Gives NoMemory (λ made. made) c.posed_for.result (problem_of_lines asked taught.patterns taught.palette c.args.lines.now)) c.request.view_is c.posed_for.ensures.exact)
