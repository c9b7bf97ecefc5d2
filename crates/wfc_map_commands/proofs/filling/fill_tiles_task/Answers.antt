use Rattle.std.proofs.Common.{ap, inl, refl, subst, ◌∙◌}
use Rattle.std.proofs.lemmas.Result.{err_from_is_err_and}
use Rattle.wfc_map_commands.proofs.FillGivenLemmas.{tiles_fill}
use Rattle.wfc_map_commands.proofs.filling.fill_tiles_task.Goals as goal
use Rattle.wfc_map_commands.specs.FillTask.{fill_plan_by}
use Rattle.wfc_plan.proofs.CallerLemmas.{behind_choosers, step_out}
use Rattle.wfc_plan.specs.Kinds.{HasChoosers, enough}
use Rattle.wfc_words.specs.RequestView.{RequestView}

pub returns-in_err-enough-clause-goes : goal.returns-in_err-enough-clause-goes
returns-in_err-enough-clause-goes g c =
    let p = err_from_is_err_and c.from_residual.result c.from_residual.ensures.1 in
    let asked = c.args.request.now in
    let as_asked = ap (λ (r : RequestView). enough 1 c.args.kinds.now r.rule) c.request.view_is in
    rw (p.1, p.2) (step_out (enough 1 c.args.kinds.now asked.rule) (λ _. fill_plan_by asked.source asked) _ _ (inl (c.in_err-enough.ensures.exact ∙ as_asked)))

pub returns-in_err-filling-clause-goes : goal.returns-in_err-filling-clause-goes
returns-in_err-filling-clause-goes g c =
    let p = err_from_is_err_and c.from_residual-in_err-filling.result c.from_residual-in_err-filling.ensures.1 in
    let asked = c.args.request.now in
    rw (p.1, p.2) (behind_choosers 1 1 c.args.kinds.now c.request.inside.rule asked.rule (fill_plan_by asked.source asked) _ _ _ _ c.in_ok-enough.ensures.exact refl (ap (λ (r : RequestView). r.rule) c.request.view_is)
    (rw (tiles_fill asked.source asked c.requires.tiles) c.in_err-filling.ensures.goes))

pub returns-clause-goes : goal.returns-clause-goes
returns-clause-goes g c =
    let asked = c.args.request.now in
    behind_choosers 1 1 c.args.kinds.now c.request.inside.rule asked.rule (fill_plan_by asked.source asked) _ _ _ _ c.in_ok-enough.ensures.exact refl (ap (λ (r : RequestView). r.rule) c.request.view_is)
    (rw (tiles_fill asked.source asked c.requires.tiles) c.in_ok-filling.ensures.goes)

pub returns-clause-chooser : goal.returns-clause-chooser
returns-clause-chooser g c = subst (λ (r : RequestView). HasChoosers 1 c.args.kinds.now r.rule) c.request.view_is c.in_ok-enough.ensures.there
