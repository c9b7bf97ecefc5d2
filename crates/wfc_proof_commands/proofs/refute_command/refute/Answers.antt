use Rattle.std.proofs.Common.{List, ap, refl, subst, sym, ◌∙◌}
use Rattle.std.proofs.lemmas.Result.{err_from_is_err_and}
use Rattle.wfc_choose.specs.declared.RuleKind.{RuleKind}
use Rattle.wfc_plan.specs.Kinds.{HasChoosers}
use Rattle.wfc_proof_commands.proofs.RefuteEndLemmas.{refute_done, refute_none, refute_short, refute_stopped, refute_unfinished}
use Rattle.wfc_proof_commands.proofs.refute_command.refute.Goals as goal
use Rattle.wfc_proof_commands.specs.Checking.{flat_proofs}
use Rattle.wfc_reply.proofs.CallerLemmas.{put_exhausted}
use Rattle.wfc_reply.specs.Outcomes.{refute_verdict}
use Rattle.wfc_words.specs.RequestView.{RequestView}

pub returns-in_err-kinds : goal.returns-in_err-kinds
returns-in_err-kinds g c =
    let p = err_from_is_err_and c.from_residual.result c.from_residual.ensures.1 in
    record { ends = rw (p.1, p.2) (put_exhausted _ _ _ _ _ refl) }

pub returns-in_err-problem : goal.returns-in_err-problem
returns-in_err-problem g c =
    let p = err_from_is_err_and c.from_residual-in_err-problem.result c.from_residual-in_err-problem.ensures.1 in
    let kinds = c.deref-2.ensures.value ∙ (rw c.deref.ensures.value at c.in_ok-kinds.ensures.value) in
    record { ends = rw (p.1, p.2) (refute_none flat_proofs _ c.args.request.now _ _ _ _ c.in_err-problem.field-0.0 kinds c.in_err-problem.ensures.goes) }

pub first_chooser-requires : goal.first_chooser-requires
first_chooser-requires g c =
    let kinds = c.deref-2.ensures.value ∙ (rw c.deref.ensures.value at c.in_ok-kinds.ensures.value) in
    record {
      there = subst (λ (ks : List RuleKind). HasChoosers 1 ks c.request.inside.rule) kinds
          (subst (λ (r : RequestView). HasChoosers 1 c.deref-2.result.now r.rule) (sym c.request.view_is) c.in_ok-problem.ensures.chooser);
    }

pub returns-in_err-chooser : goal.returns-in_err-chooser
returns-in_err-chooser g c =
    let p = err_from_is_err_and c.from_residual-in_err-chooser.result c.from_residual-in_err-chooser.ensures.1 in
    let kinds = c.deref-2.ensures.value ∙ (rw c.deref.ensures.value at c.in_ok-kinds.ensures.value) in
    record { ends = rw (p.1, p.2) (refute_short flat_proofs _ c.args.request.now _ _ _ _ c.in_ok-problem.problem _ kinds c.in_ok-problem.ensures.goes refl) }

pub returns-in_err-outcome : goal.returns-in_err-outcome
returns-in_err-outcome g c =
    let p = err_from_is_err_and c.from_residual-in_err-outcome.result c.from_residual-in_err-outcome.ensures.1 in
    let kinds = c.deref-2.ensures.value ∙ (rw c.deref.ensures.value at c.in_ok-kinds.ensures.value) in
    record {
      ends = rw (p.1, p.2) (refute_stopped flat_proofs _ c.args.request.now _ _ _ _ _ c.in_ok-problem.problem _ c.request.inside.rule _ c.in_err-outcome.field-0.0 kinds c.in_ok-problem.ensures.goes (ap (λ (r : RequestView). r.rule) c.request.view_is)
          c.in_ok-chooser.ensures.first c.writing_of-writing.ensures.value c.in_err-outcome.ensures.puts);
    }

pub returns-in_err-finish : goal.returns-in_err-finish
returns-in_err-finish g c =
    let p = err_from_is_err_and c.from_residual-in_err-finish.result c.from_residual-in_err-finish.ensures.1 in
    let kinds = c.deref-2.ensures.value ∙ (rw c.deref.ensures.value at c.in_ok-kinds.ensures.value) in
    record {
      ends = rw (p.1, p.2) (refute_unfinished flat_proofs _ c.args.request.now _ _ _ _ _ _ c.in_ok-problem.problem _ c.request.inside.rule c.in_ok-outcome.outcome kinds c.in_ok-problem.ensures.goes (ap (λ (r : RequestView). r.rule) c.request.view_is)
          c.in_ok-chooser.ensures.first (rw c.writing_of-writing.ensures.value at c.in_ok-outcome.ensures.puts) c.in_err-finish.ensures.finished);
    }

pub returns : goal.returns
returns g c =
    let kinds = c.deref-2.ensures.value ∙ (rw c.deref.ensures.value at c.in_ok-kinds.ensures.value) in
    record {
      ends = refute_done flat_proofs _ c.args.request.now _ _ _ _ _ _ c.in_ok-problem.problem _ c.request.inside.rule c.in_ok-outcome.outcome _ kinds c.in_ok-problem.ensures.goes (ap (λ (r : RequestView). r.rule) c.request.view_is)
          c.in_ok-chooser.ensures.first (rw c.writing_of-writing.ensures.value at c.in_ok-outcome.ensures.puts)
          c.in_ok-finish.ensures.finished (c.refute_verdict.ensures.value ∙ ap (λ (r : RequestView). refute_verdict r.budget c.in_ok-outcome.outcome) c.request.view_is);
    }
