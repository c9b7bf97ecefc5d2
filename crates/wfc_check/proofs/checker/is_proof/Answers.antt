use Rattle.wfc_check.proofs.Proved.{answer_spelled, answer_sound}
use Rattle.wfc_check.proofs.checker.is_proof.Goals as goal

pub returns-clause-spelled : goal.returns-clause-spelled
returns-clause-spelled c = answer_spelled c.args.problem.now c.are_ended.ensures.problem c.args.lines.now c.are_ended.result c.are_ended.ensures.exact

pub returns-clause-sound : goal.returns-clause-sound
returns-clause-sound c = answer_sound c.args.problem.now c.are_ended.ensures.problem c.args.lines.now c.are_ended.result c.are_ended.ensures.exact
