use Rattle.std.proofs.Common.{refl, ◌∙◌}
use Rattle.std.proofs.lemmas.Result.{err_from_is_err_and}
use Rattle.wfc_map_commands.proofs.HeldLemmas.{fill_said}
use Rattle.wfc_map_commands.proofs.fill_command.fill_sample.Goals as goal
use Rattle.wfc_map_commands.specs.FillCommand.{FillAnswers}
use Rattle.wfc_map_commands.specs.FillTask.{fill_plan, filled_by}
use Rattle.wfc_reply.proofs.CallerLemmas.{ends_answered, ends_exhausted, ends_fault, ends_short}

pub returns-in_err-kinds : goal.returns-in_err-kinds
returns-in_err-kinds g c =
    let p = err_from_is_err_and c.from_residual.result c.from_residual.ensures.1 in
    record { ends = rw (p.1, p.2) (ends_short _ _ _ _ refl) }

pub returns-in_err-filled : goal.returns-in_err-filled
returns-in_err-filled g c =
    let p = err_from_is_err_and c.from_residual-in_err-filled.result c.from_residual-in_err-filled.ensures.1 in
    let kinds = c.deref-2.ensures.value ∙ (rw c.deref.ensures.value at c.in_ok-kinds.ensures.value) in
    record { ends = rw (p.1, p.2) (ends_fault _ _ (λ kinds. fill_plan kinds c.args.request.now) (λ rules. FillAnswers rules c.args.request.now) _ _ c.in_err-filled.field-0.0 kinds c.in_err-filled.ensures.goes) }

pub returns-in_err-answer : goal.returns-in_err-answer
returns-in_err-answer g c =
    let p = err_from_is_err_and c.from_residual-in_err-answer.result c.from_residual-in_err-answer.ensures.1 in
    let kinds = c.deref-2.ensures.value ∙ (rw c.deref.ensures.value at c.in_ok-kinds.ensures.value) in
    record {
      ends = rw (p.1, p.2) (ends_exhausted _ _ (λ kinds. fill_plan kinds c.args.request.now) (λ rules. FillAnswers rules c.args.request.now) _ _ (filled_by c.args.request.now c.in_ok-filled.filled) _ kinds c.in_ok-filled.ensures.goes refl);
    }

pub returns : goal.returns
returns g c =
    let kinds = c.deref-2.ensures.value ∙ (rw c.deref.ensures.value at c.in_ok-kinds.ensures.value) in
    record {
      ends = ends_answered _ _ (λ kinds. fill_plan kinds c.args.request.now) (λ rules. FillAnswers rules c.args.request.now) _ _ (filled_by c.args.request.now c.in_ok-filled.filled) _ kinds c.in_ok-filled.ensures.goes
          (fill_said _ c.args.request.now c.in_ok-filled.filled _ c.in_ok-answer.ensures.answers);
    }
