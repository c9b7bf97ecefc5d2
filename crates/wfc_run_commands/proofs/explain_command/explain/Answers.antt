use Rattle.std.proofs.Common.{ap, inl, refl, ◌∙◌}
use Rattle.std.proofs.lemmas.Result.{err_from_is_err_and}
use Rattle.wfc_plan.proofs.CallerLemmas.{behind_choosers, step_out}
use Rattle.wfc_plan.specs.Kinds.{enough}
use Rattle.wfc_reply.proofs.CallerLemmas.{ends_fault, ends_short, ends_with}
use Rattle.wfc_run_commands.proofs.explain_command.explain.Goals as goal
use Rattle.wfc_run_commands.specs.ExplainCommand.{ExplainAnswers}
use Rattle.wfc_run_commands.specs.ExplainTask.{explain_plan, explain_plan_by}
use Rattle.wfc_run_commands.specs.declared.explaining.TheConstants.{EXPLAIN_CHOOSERS}
use Rattle.wfc_words.specs.RequestView.{RequestView}

pub returns-in_err-kinds : goal.returns-in_err-kinds
returns-in_err-kinds g c =
    let p = err_from_is_err_and c.from_residual.result c.from_residual.ensures.1 in
    record { ends = rw (p.1, p.2) (ends_short _ _ _ _ refl) }

pub returns-in_err-enough : goal.returns-in_err-enough
returns-in_err-enough g c =
    let p = err_from_is_err_and c.from_residual-in_err-enough.result c.from_residual-in_err-enough.ensures.1 in
    let kinds = c.deref-2.ensures.value ∙ (rw c.deref.ensures.value at c.in_ok-kinds.ensures.value) in
    let asked = c.args.request.now in
    record {
      ends = rw (p.1, p.2) (ends_fault _ _ (λ kinds. explain_plan kinds asked) (λ rules. ExplainAnswers rules asked) _ _ _ kinds
          (step_out (enough EXPLAIN_CHOOSERS c.deref-2.result.now asked.rule) (λ _. explain_plan_by asked.source asked) _ _
          (inl (c.in_err-enough.ensures.exact ∙ ap (λ (r : RequestView). enough EXPLAIN_CHOOSERS c.deref-2.result.now r.rule) c.request.view_is))));
    }

pub returns : goal.returns
returns g c =
    let kinds = c.deref-2.ensures.value ∙ (rw c.deref.ensures.value at c.in_ok-kinds.ensures.value) in
    let asked = c.args.request.now in
    let rest = rw (ap (λ (r : RequestView). r.source) c.request.view_is) at c.explain_by.ensures.ends in
    record {
      ends = ends_with _ _ (λ kinds. explain_plan kinds asked) (λ rules. ExplainAnswers rules asked) _ _ rest.ended _ kinds
          (behind_choosers EXPLAIN_CHOOSERS EXPLAIN_CHOOSERS c.deref-2.result.now c.request.inside.rule asked.rule (explain_plan_by asked.source asked) _ _ _ _ c.in_ok-enough.ensures.exact refl
          (ap (λ (r : RequestView). r.rule) c.request.view_is) rest.goes)
          rest.replied;
    }
