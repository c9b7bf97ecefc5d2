use Rattle.std.proofs.Common.{Some, ap, refl, true, ◌∙◌}
use Rattle.std.proofs.lemmas.Result.{err_from_is_err_and}
use Rattle.wfc_map_commands.proofs.WalkLemmas.{steps_answer, walk_begun}
use Rattle.wfc_map_commands.proofs.domains_command.domains.Goals as goal
use Rattle.wfc_map_commands.specs.DomainsAnswer.{root_verdict, steps_text}
use Rattle.wfc_map_commands.specs.DomainsCommand.{DomainsAnswers}
use Rattle.wfc_map_commands.specs.DomainsTask as task
use Rattle.wfc_outside.proofs.CallerLemmas.{fault_behind}
use Rattle.wfc_outside.specs.Sink.{after_finish}
use Rattle.wfc_reply.proofs.CallerLemmas.{put_cut, put_none, put_short, put_whole}

pub returns-in_err-stepping : goal.returns-in_err-stepping
returns-in_err-stepping g c =
    let p = err_from_is_err_and c.from_residual.result c.from_residual.ensures.1 in
    record { ends = rw (p.1, p.2) (put_none (task.domains_plan c.args.request.now) DomainsAnswers _ _ _ c.in_err-stepping.field-0.0 c.in_err-stepping.ensures.goes) }

pub returns-in_err-walk : goal.returns-in_err-walk
returns-in_err-walk g c =
    let p = err_from_is_err_and c.from_residual-in_err-walk.result c.from_residual-in_err-walk.ensures.1 in record {
      ends = rw (p.1, p.2) (put_short (task.domains_plan c.args.request.now) DomainsAnswers _ _ _ (task.domains c.in_ok-stepping.stepping.problem c.in_ok-stepping.stepping.steps.items) _
          c.in_ok-stepping.ensures.goes refl);
    }

pub returns-in_err-put_blocks : goal.returns-in_err-put_blocks
returns-in_err-put_blocks g c =
    let p = err_from_is_err_and c.from_residual-in_err-put_blocks.result c.from_residual-in_err-put_blocks.ensures.1 in
    let P = c.in_ok-stepping.stepping.problem in
    let lines = c.in_ok-stepping.stepping.steps.items in
    record {
      ends = rw (p.1, p.2) (put_cut (task.domains_plan c.args.request.now) DomainsAnswers _ _ _ _ (task.domains P lines) (root_verdict P) (Some (steps_text P lines)) true
          c.in_ok-stepping.ensures.goes refl (rw c.deref.ensures.value at c.in_err-put_blocks.ensures.put));
    }

pub returns-in_err-finish : goal.returns-in_err-finish
returns-in_err-finish g c =
    let p = err_from_is_err_and c.from_residual-in_err-finish.result c.from_residual-in_err-finish.ensures.1 in
    let P = c.in_ok-stepping.stepping.problem in
    let lines = c.in_ok-stepping.stepping.steps.items in
    record {
      ends = rw (p.1, p.2) (put_cut (task.domains_plan c.args.request.now) DomainsAnswers _ _ _ _ (task.domains P lines) (root_verdict P) (Some (steps_text P lines)) true
          c.in_ok-stepping.ensures.goes refl (fault_behind _ _ _ (steps_text P lines) (rw c.deref.ensures.value at c.in_ok-put_blocks.ensures.put) c.in_err-finish.ensures.finished));
    }

pub returns : goal.returns
returns g c =
    let P = c.in_ok-stepping.stepping.problem in
    let lines = c.in_ok-stepping.stepping.steps.items in
    record {
      ends = put_whole (task.domains_plan c.args.request.now) DomainsAnswers _ _ _ _ (task.domains P lines) c.verdict-verdict.result (Some (steps_text P lines))
          c.in_ok-stepping.ensures.goes
          (steps_answer P c.in_ok-walk.walk.engine.problem lines c.verdict-verdict.result c.in_ok-walk.ensures.opened.problem (c.verdict-verdict.ensures.value (walk_begun _ _ _ _ c.in_ok-walk.ensures.opened c.in_ok-walk.ensures.none)))
          (c.in_ok-finish.ensures.finished ∙ ap after_finish (rw c.deref.ensures.value at c.in_ok-put_blocks.ensures.put));
    }
