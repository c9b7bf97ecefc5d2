use Rattle.std.proofs.Common.{refl, subst, ◌∙◌}
use Rattle.std.proofs.lemmas.Result.{err_from_is_err_and}
use Rattle.wfc_grow_command.proofs.GrowEndLemmas.{grow_none, grow_on}
use Rattle.wfc_grow_command.proofs.grow_command.grow.Goals as goal
use Rattle.wfc_grow_command.specs.declared.growing.TheConstants.{GROW_CHOOSERS}
use Rattle.wfc_plan.specs.Kinds.{HasChoosers}
use Rattle.wfc_reply.proofs.CallerLemmas.{put_exhausted}

pub returns-in_err-kinds : goal.returns-in_err-kinds
returns-in_err-kinds g c =
    let p = err_from_is_err_and c.from_residual.result c.from_residual.ensures.1 in
    record { ends = rw (p.1, p.2) (put_exhausted _ _ _ _ _ refl) }

pub returns-in_err-growing : goal.returns-in_err-growing
returns-in_err-growing g c =
    let p = err_from_is_err_and c.from_residual-in_err-growing.result c.from_residual-in_err-growing.ensures.1 in
    let kinds = c.deref-2.ensures.value ∙ (rw c.deref.ensures.value at c.in_ok-kinds.ensures.value) in
    record { ends = rw (p.1, p.2) (grow_none _ c.args.request.now _ _ _ _ c.in_err-growing.field-0.0 kinds c.in_err-growing.ensures.goes) }

pub grown_from-requires-clause-choosers : goal.grown_from-requires-clause-choosers
grown_from-requires-clause-choosers g c =
    let kinds = c.deref-2.ensures.value ∙ (rw c.deref.ensures.value at c.in_ok-kinds.ensures.value) in
    subst (λ ks. HasChoosers GROW_CHOOSERS ks c.args.request.now.rule) kinds c.in_ok-growing.ensures.choosers

pub returns : goal.returns
returns g c =
    let kinds = c.deref-2.ensures.value ∙ (rw c.deref.ensures.value at c.in_ok-kinds.ensures.value) in
    record { ends = grow_on _ c.args.request.now _ _ _ _ _ _ _ kinds c.in_ok-growing.ensures.goes (c.grown_from.ensures.ends _) }
