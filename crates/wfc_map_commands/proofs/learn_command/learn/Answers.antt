use Rattle.std.proofs.Common.{Err, Ok, refl}
use Rattle.std.proofs.lemmas.Result.{err_from_is_err_and}
use Rattle.wfc_map_commands.proofs.HeldLemmas.{learn_said}
use Rattle.wfc_map_commands.proofs.learn_command.learn.Goals as goal
use Rattle.wfc_map_commands.specs.LearnCommand.{LearnAnswers}
use Rattle.wfc_map_commands.specs.LearnTask.{learn_plan, learned_by}
use Rattle.wfc_reply.proofs.CallerLemmas.{ends_by}

pub returns-in_err-learned : goal.returns-in_err-learned
returns-in_err-learned g c =
    let p = err_from_is_err_and c.from_residual.result c.from_residual.ensures.1 in
    record { ends = rw (p.1, p.2) (ends_by (learn_plan c.args.request.now) LearnAnswers _ _ (Err c.in_err-learned.field-0.0) _ c.in_err-learned.ensures.goes refl) }

pub returns-in_err-answer : goal.returns-in_err-answer
returns-in_err-answer g c =
    let p = err_from_is_err_and c.from_residual-in_err-answer.result c.from_residual-in_err-answer.ensures.1 in
    record { ends = rw (p.1, p.2) (ends_by (learn_plan c.args.request.now) LearnAnswers _ _ (Ok (learned_by c.in_ok-learned.learned)) _ c.in_ok-learned.ensures.goes refl) }

pub returns : goal.returns
returns g c = record {
  ends = ends_by (learn_plan c.args.request.now) LearnAnswers _ _ (Ok (learned_by c.in_ok-learned.learned)) _ c.in_ok-learned.ensures.goes (learn_said c.in_ok-learned.learned _ c.in_ok-answer.ensures.answers);
}
