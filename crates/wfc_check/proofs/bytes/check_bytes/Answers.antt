use Rattle.wfc_check.proofs.BytesLemmas.{answer_refutation, answer_none}
use Rattle.wfc_check.proofs.bytes.check_bytes.Goals as goal

pub returns-clause-refutation : goal.returns-clause-refutation
returns-clause-refutation c = answer_refutation c.args.problem.now c.read_lines.ensures.problem c.args.shape.now c.args.bytes.now c.read_lines.result c.read_lines.ensures.exact

pub returns-clause-sound : goal.returns-clause-sound
returns-clause-sound c = answer_none c.args.problem.now c.read_lines.ensures.problem c.args.shape.now c.args.bytes.now c.read_lines.result c.read_lines.ensures.exact
