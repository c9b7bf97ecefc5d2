use Rattle.wfc_grow_command.proofs.GrowGivenLemmas.{given_grow, grow_given}
use Rattle.wfc_grow_command.proofs.laws.grow_tasks_are_given.Goals as goal

pub returns-clause-task : goal.returns-clause-task
returns-clause-task c = λ kinds asked files task. (λ is. grow_given kinds asked files task is, λ given. given_grow kinds asked files task given)
