use Rattle.wfc_check.proofs.FileLemmas.{answers_refutation, answers_none}
use Rattle.wfc_check.proofs.file.check.Goals as goal

pub returns-clause-refutation : goal.returns-clause-refutation
returns-clause-refutation g c = answers_refutation c.args.problem.now c.read_file.ensures.problem c.args.shape.now c.args.name.now _ _ c.read_file.result c.read_file.ensures.answer

pub returns-clause-sound : goal.returns-clause-sound
returns-clause-sound g c = answers_none c.args.problem.now c.read_file.ensures.problem c.args.shape.now c.args.name.now _ _ c.read_file.result c.read_file.ensures.answer
