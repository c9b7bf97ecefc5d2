use Rattle.wfc_box_commands.proofs.BoxFillGivenLemmas.{box_fill_given, given_box_fill}
use Rattle.wfc_box_commands.proofs.laws.box_fill_tasks_are_given.Goals as goal

pub returns : goal.returns
returns c = record { task = λ kinds asked files task. (box_fill_given kinds asked files task, given_box_fill kinds asked files task) }
