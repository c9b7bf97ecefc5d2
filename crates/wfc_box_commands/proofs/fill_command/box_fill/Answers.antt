use Rattle.std.proofs.Common.{refl, ◌∙◌}
use Rattle.std.proofs.lemmas.Result.{err_from_is_err_and}
use Rattle.wfc_box_commands.proofs.fill_command.box_fill.Goals as goal
use Rattle.wfc_box_commands.specs.BoxFillCommand.{BoxFillAnswers}
use Rattle.wfc_box_commands.specs.BoxFillTask.{box_fill_plan, box_filled}
use Rattle.wfc_reply.proofs.CallerLemmas.{ends_answered, ends_exhausted, ends_fault, ends_short}

pub returns-in_err-kinds : goal.returns-in_err-kinds
returns-in_err-kinds g c =
    let p = err_from_is_err_and c.from_residual.result c.from_residual.ensures.1 in
    record { ends = rw (p.1, p.2) (ends_short _ _ _ _ refl) }

pub returns-in_err-filling : goal.returns-in_err-filling
returns-in_err-filling g c =
    let p = err_from_is_err_and c.from_residual-in_err-filling.result c.from_residual-in_err-filling.ensures.1 in
    let kinds = c.deref-2.ensures.value ∙ (rw c.deref.ensures.value at c.in_ok-kinds.ensures.value) in
    record { ends = rw (p.1, p.2) (ends_fault _ _ (λ kinds. box_fill_plan kinds c.args.request.now) (λ rules. BoxFillAnswers rules c.args.request.now) _ _ c.in_err-filling.field-0.0 kinds c.in_err-filling.ensures.goes) }

pub returns-in_err-answer : goal.returns-in_err-answer
returns-in_err-answer g c =
    let p = err_from_is_err_and c.from_residual-in_err-answer.result c.from_residual-in_err-answer.ensures.1 in
    let kinds = c.deref-2.ensures.value ∙ (rw c.deref.ensures.value at c.in_ok-kinds.ensures.value) in
    record {
      ends = rw (p.1, p.2) (ends_exhausted _ _ (λ kinds. box_fill_plan kinds c.args.request.now) (λ rules. BoxFillAnswers rules c.args.request.now) _ _ (box_filled c.in_ok-filling.filling) _ kinds c.in_ok-filling.ensures.goes refl);
    }

pub returns : goal.returns
returns g c =
    let kinds = c.deref-2.ensures.value ∙ (rw c.deref.ensures.value at c.in_ok-kinds.ensures.value) in
    record {
      ends = ends_answered _ _ (λ kinds. box_fill_plan kinds c.args.request.now) (λ rules. BoxFillAnswers rules c.args.request.now) _ _ (box_filled c.in_ok-filling.filling) _ kinds c.in_ok-filling.ensures.goes c.in_ok-answer.ensures.answers;
    }
