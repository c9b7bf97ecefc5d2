use Rattle.std.proofs.Common.{refl}
use Rattle.std.proofs.lemmas.Result.{err_from_is_err_and}
use Rattle.wfc_plan.proofs.CallerLemmas.{goes_on, goes_out, step_out}
use Rattle.wfc_reply.proofs.CallerLemmas.{ends_by}
use Rattle.wfc_run_commands.proofs.ExplainGivenLemmas.{behind_lesson, behind_lines, behind_sample_pins}
use Rattle.wfc_run_commands.proofs.ExplainGoesLemmas.{lines_learned, sample_explained}
use Rattle.wfc_run_commands.proofs.explain_command.explain_sample.Goals as goal
use Rattle.wfc_run_commands.specs.ExplainTask.{explain_sample_plan, lines_plan, pins_of_sample}
use Rattle.wfc_task.specs.SamplePlans.{sample_plan}

pub returns-in_err-taught : goal.returns-in_err-taught
returns-in_err-taught g c =
    let p = err_from_is_err_and c.from_residual.result c.from_residual.ensures.1 in
    let goes = goes_out (sample_plan c.args.request.now) (behind_lesson c.args.request.now) _ _ _ c.in_err-taught.ensures.goes in
    record { ends = rw (p.1, p.2) (ends_by (explain_sample_plan c.args.request.now) _ _ _ _ _ goes refl) }

pub returns-in_err-lines : goal.returns-in_err-lines
returns-in_err-lines g c =
    let p = err_from_is_err_and c.from_residual-in_err-lines.result c.from_residual-in_err-lines.ensures.1 in
    let asked = c.args.request.now in
    let goes = goes_on (sample_plan asked) (behind_lesson asked) _ _ _ _ _ c.in_ok-taught.ensures.goes
    (goes_out (lines_plan asked) (behind_lines asked c.in_ok-taught.taught) _ _ _ c.in_err-lines.ensures.goes) in
    record { ends = rw (p.1, p.2) (ends_by (explain_sample_plan asked) _ _ _ _ _ goes refl) }

pub returns-in_err-pins : goal.returns-in_err-pins
returns-in_err-pins g c =
    let p = err_from_is_err_and c.from_residual-in_err-pins.result c.from_residual-in_err-pins.ensures.1 in
    let asked = c.args.request.now in
    let lines = c.in_ok-lines.lines.items in
    let goes = lines_learned asked _ _ _ _ _ lines _ c.in_ok-taught.ensures.goes c.in_ok-lines.ensures.goes
    (step_out (pins_of_sample asked c.in_ok-taught.taught lines) (behind_sample_pins lines) _ _ (rw c.deref.ensures.value at c.in_err-pins.ensures.exact)) in
    record { ends = rw (p.1, p.2) (ends_by (explain_sample_plan asked) _ _ _ _ _ goes refl) }

pub returns-in_err-answer : goal.returns-in_err-answer
returns-in_err-answer g c =
    let p = err_from_is_err_and c.from_residual-in_err-answer.result c.from_residual-in_err-answer.ensures.1 in
    let goes = sample_explained c.args.request.now _ _ _ _ _ _ c.in_ok-taught.ensures.goes c.in_ok-lines.ensures.goes (rw c.deref.ensures.value at c.in_ok-pins.ensures.exact) in
    record { ends = rw (p.1, p.2) (ends_by (explain_sample_plan c.args.request.now) _ _ _ _ _ goes refl) }

pub returns : goal.returns
returns g c =
    let goes = sample_explained c.args.request.now _ _ _ _ _ _ c.in_ok-taught.ensures.goes c.in_ok-lines.ensures.goes (rw c.deref.ensures.value at c.in_ok-pins.ensures.exact) in
    record { ends = ends_by (explain_sample_plan c.args.request.now) _ _ _ _ _ goes (rw c.deref-2.ensures.value at c.in_ok-answer.ensures.answers) }
