use Rattle.wfc_run_commands.proofs.ExplainGivenLemmas.{explain_given}
use Rattle.wfc_run_commands.proofs.ExplainTaskLemmas.{given_explain}
use Rattle.wfc_run_commands.proofs.laws.explain_tasks_are_given.Goals as goal

pub returns-clause-task : goal.returns-clause-task
returns-clause-task c kinds asked files task = (explain_given kinds asked files task, given_explain kinds asked files task)
