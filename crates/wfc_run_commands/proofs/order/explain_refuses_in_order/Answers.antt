use Rattle.wfc_plan.proofs.CallerLemmas.{made_in_order}
use Rattle.wfc_run_commands.proofs.ExplainOrderLemmas.{faults_explain}
use Rattle.wfc_run_commands.proofs.order.explain_refuses_in_order.Goals as goal
use Rattle.wfc_run_commands.specs.ExplainOrder.{explain_order}
use Rattle.wfc_run_commands.specs.ExplainTask.{explain_plan}

pub returns-clause-refused : goal.returns-clause-refused
returns-clause-refused c = faults_explain

pub returns-clause-made : goal.returns-clause-made
returns-clause-made c = λ kinds asked files. made_in_order (explain_plan kinds asked) files (explain_order kinds asked files) (faults_explain kinds asked files)
