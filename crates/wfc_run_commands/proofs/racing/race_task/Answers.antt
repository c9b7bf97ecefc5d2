use Rattle.std.proofs.Common.{ap, inl, subst, ◌∙◌}
use Rattle.std.proofs.lemmas.Result.{err_from_is_err_and}
use Rattle.wfc_plan.proofs.CallerLemmas.{goes_done, goes_on, goes_out, step_on, step_out}
use Rattle.wfc_plan.specs.Kinds.{HasChoosers, enough}
use Rattle.wfc_run_commands.proofs.RacingLemmas.{behind_measure, behind_raced, behind_racer}
use Rattle.wfc_run_commands.proofs.racing.race_task.Goals as goal
use Rattle.wfc_run_commands.specs.RaceTask.{race_fits}
use Rattle.wfc_task.specs.Posed.{posed_plan}
use Rattle.wfc_words.specs.RequestView.{RequestView}

pub returns-in_err-enough-clause-goes : goal.returns-in_err-enough-clause-goes
returns-in_err-enough-clause-goes g c =
    let p = err_from_is_err_and c.from_residual.result c.from_residual.ensures.1 in
    let asked = c.args.request.now in
    let as_asked = ap (λ (r : RequestView). enough r.seeds c.args.kinds.now r.rule) c.request.view_is in
    rw (p.1, p.2) (step_out (enough asked.seeds c.args.kinds.now asked.rule) (λ _. behind_racer asked) _ _ (inl (c.in_err-enough.ensures.exact ∙ as_asked)))

pub returns-in_err-problem-clause-goes : goal.returns-in_err-problem-clause-goes
returns-in_err-problem-clause-goes g c =
    let p = err_from_is_err_and c.from_residual-in_err-problem.result c.from_residual-in_err-problem.ensures.1 in
    let asked = c.args.request.now in
    let as_asked = ap (λ (r : RequestView). enough r.seeds c.args.kinds.now r.rule) c.request.view_is in
    rw (p.1, p.2) (step_on (enough asked.seeds c.args.kinds.now asked.rule) (λ _. behind_racer asked) _ _ _ _ (inl (c.in_ok-enough.ensures.exact ∙ as_asked))
    (goes_out (posed_plan asked) (behind_raced asked) _ _ _ c.in_err-problem.ensures.goes))

pub returns-in_err-race_fits-clause-goes : goal.returns-in_err-race_fits-clause-goes
returns-in_err-race_fits-clause-goes g c =
    let p = err_from_is_err_and c.from_residual-in_err-race_fits.result c.from_residual-in_err-race_fits.ensures.1 in
    let asked = c.args.request.now in
    let P = c.in_ok-problem.problem in
    let as_asked = ap (λ (r : RequestView). enough r.seeds c.args.kinds.now r.rule) c.request.view_is in
    let measured = ap (λ (r : RequestView). race_fits r.seeds P) c.request.view_is in
    rw (p.1, p.2) (step_on (enough asked.seeds c.args.kinds.now asked.rule) (λ _. behind_racer asked) _ _ _ _ (inl (c.in_ok-enough.ensures.exact ∙ as_asked))
    (goes_on (posed_plan asked) (behind_raced asked) _ _ _ _ _ c.in_ok-problem.ensures.goes
    (step_out (race_fits asked.seeds P) (behind_measure P) _ _ (inl (c.in_err-race_fits.ensures.exact ∙ measured)))))

pub returns-clause-goes : goal.returns-clause-goes
returns-clause-goes g c =
    let asked = c.args.request.now in
    let P = c.in_ok-problem.problem in
    let as_asked = ap (λ (r : RequestView). enough r.seeds c.args.kinds.now r.rule) c.request.view_is in
    let measured = ap (λ (r : RequestView). race_fits r.seeds P) c.request.view_is in
    step_on (enough asked.seeds c.args.kinds.now asked.rule) (λ _. behind_racer asked) _ _ _ _ (inl (c.in_ok-enough.ensures.exact ∙ as_asked))
    (goes_on (posed_plan asked) (behind_raced asked) _ _ _ _ _ c.in_ok-problem.ensures.goes
    (step_on (race_fits asked.seeds P) (behind_measure P) _ _ _ _ (inl (c.in_ok-race_fits.ensures.exact ∙ measured)) goes_done))

pub returns-clause-choosers : goal.returns-clause-choosers
returns-clause-choosers g c = subst (λ (r : RequestView). HasChoosers r.seeds c.args.kinds.now r.rule) c.request.view_is c.in_ok-enough.ensures.there
