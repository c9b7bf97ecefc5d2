use Rattle.wfc_task.proofs.LessonLemmas.{made_small}
use Rattle.wfc_task.proofs.steps.numbered_picture.Goals as goal

pub returns-clause-small : goal.returns-clause-small
returns-clause-small c = made_small c.args.symbols.now c.args.width c.in_ok-index.field-0 c.in_ok-index.ensures.exact c.requires.limit
