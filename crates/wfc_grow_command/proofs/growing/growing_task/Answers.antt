use Rattle.std.proofs.Common.{ap, inl, refl, subst, sym, ◌∙◌}
use Rattle.std.proofs.lemmas.Result.{err_from_is_err_and}
use Rattle.wfc_grow_command.proofs.GrowGivenLemmas.{behind_enough, behind_layout, behind_lesson, behind_lines}
use Rattle.wfc_grow_command.proofs.growing.growing_task.Goals as goal
use Rattle.wfc_grow_command.specs.declared.growing.TheConstants.{GROW_CHOOSERS}
use Rattle.wfc_plan.proofs.CallerLemmas.{behind_choosers, goes_done, goes_on, goes_out, step_on, step_out}
use Rattle.wfc_plan.specs.Kinds.{HasChoosers, enough}
use Rattle.wfc_task.proofs.CallerLemmas.{goes_by_request}
use Rattle.wfc_task.specs.SamplePlans.{pins_plan, sample_plan}
use Rattle.wfc_task.specs.Steps.{sample_layout}
use Rattle.wfc_words.specs.RequestView.{RequestView}

pub returns-in_err-enough-clause-goes : goal.returns-in_err-enough-clause-goes
returns-in_err-enough-clause-goes g c =
    let p = err_from_is_err_and c.from_residual.result c.from_residual.ensures.1 in
    let asked = c.args.request.now in
    let as_asked = ap (λ (r : RequestView). enough GROW_CHOOSERS c.args.kinds.now r.rule) c.request.view_is in
    rw (p.1, p.2) (step_out (enough GROW_CHOOSERS c.args.kinds.now asked.rule) (λ _. behind_enough asked) _ _ (inl (c.in_err-enough.ensures.exact ∙ as_asked)))

pub returns-in_err-taught-clause-goes : goal.returns-in_err-taught-clause-goes
returns-in_err-taught-clause-goes g c =
    let p = err_from_is_err_and c.from_residual-in_err-taught.result c.from_residual-in_err-taught.ensures.1 in
    let asked = c.args.request.now in
    rw (p.1, p.2) (behind_choosers GROW_CHOOSERS GROW_CHOOSERS c.args.kinds.now c.request.inside.rule asked.rule (behind_enough asked) _ _ _ _ c.in_ok-enough.ensures.exact refl (ap (λ (r : RequestView). r.rule) c.request.view_is)
    (goes_out (sample_plan asked) (behind_lesson asked) _ _ _ c.in_err-taught.ensures.goes))

pub returns-in_err-layout-clause-goes : goal.returns-in_err-layout-clause-goes
returns-in_err-layout-clause-goes g c =
    let p = err_from_is_err_and c.from_residual-in_err-layout.result c.from_residual-in_err-layout.ensures.1 in
    let asked = c.args.request.now in
    rw (p.1, p.2) (behind_choosers GROW_CHOOSERS GROW_CHOOSERS c.args.kinds.now c.request.inside.rule asked.rule (behind_enough asked) _ _ _ _ c.in_ok-enough.ensures.exact refl (ap (λ (r : RequestView). r.rule) c.request.view_is)
    (goes_on (sample_plan asked) (behind_lesson asked) _ _ _ _ _ c.in_ok-taught.ensures.goes
    (step_out (sample_layout c.in_ok-taught.taught.kind asked) (behind_layout asked c.in_ok-taught.taught) _ _ (inl c.in_err-layout.ensures.exact))))

pub returns-in_err-lines-clause-goes : goal.returns-in_err-lines-clause-goes
returns-in_err-lines-clause-goes g c =
    let p = err_from_is_err_and c.from_residual-in_err-lines.result c.from_residual-in_err-lines.ensures.1 in
    let asked = c.args.request.now in
    let lesson = c.in_ok-taught.taught in
    rw (p.1, p.2) (behind_choosers GROW_CHOOSERS GROW_CHOOSERS c.args.kinds.now c.request.inside.rule asked.rule (behind_enough asked) _ _ _ _ c.in_ok-enough.ensures.exact refl (ap (λ (r : RequestView). r.rule) c.request.view_is)
    (goes_on (sample_plan asked) (behind_lesson asked) _ _ _ _ _ c.in_ok-taught.ensures.goes
    (step_on (sample_layout lesson.kind asked) (behind_layout asked lesson) _ _ _ _ (inl c.in_ok-layout.ensures.exact)
    (goes_out (pins_plan asked.pins) (behind_lines lesson c.in_ok-layout.layout) _ _ _ (rw c.pins.ensures.value at c.in_err-lines.ensures.goes)))))

pub returns-clause-goes : goal.returns-clause-goes
returns-clause-goes g c =
    let asked = c.args.request.now in
    let lesson = c.in_ok-taught.taught in
    behind_choosers GROW_CHOOSERS GROW_CHOOSERS c.args.kinds.now c.request.inside.rule asked.rule (behind_enough asked) _ _ _ _ c.in_ok-enough.ensures.exact refl (ap (λ (r : RequestView). r.rule) c.request.view_is)
    (goes_on (sample_plan asked) (behind_lesson asked) _ _ _ _ _ c.in_ok-taught.ensures.goes
    (step_on (sample_layout lesson.kind asked) (behind_layout asked lesson) _ _ _ _ (inl c.in_ok-layout.ensures.exact)
    (goes_on (pins_plan asked.pins) (behind_lines lesson c.in_ok-layout.layout) _ _ _ _ _ (rw c.pins.ensures.value at c.in_ok-lines.ensures.goes) goes_done)))

pub returns-clause-choosers : goal.returns-clause-choosers
returns-clause-choosers g c = subst (λ (r : RequestView). HasChoosers GROW_CHOOSERS c.args.kinds.now r.rule) c.request.view_is c.in_ok-enough.ensures.there

pub returns-clause-growing : goal.returns-clause-growing
returns-clause-growing g c =
    let by = goes_by_request c.args.request.now c.in_ok-taught.taught _ _ c.in_ok-taught.ensures.goes in
    record { lesson = c.in_ok-taught.ensures.lesson; side = by.side; apart = by.apart; layout = sym c.in_ok-layout.ensures.exact }
