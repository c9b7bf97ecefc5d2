use Rattle.std.proofs.Common.{◌∷◌, [], length, map, arith, sym, ap, ◌∙◌, subst, inl}
use Rattle.std.proofs.lemmas.List.{map-append}
use Rattle.std.proofs.lemmas.Result.{err_from_is_err_and}
use Rattle.wfc_text.specs.View.{line_view}
use Rattle.wfc_pins.specs.Steps.{steps_of}
use Rattle.wfc_pins.proofs.StepLemmas.{IsReading, one_more, length-lines_of, reading_begins, reading_on, reading_ends}
use Rattle.wfc_pins.proofs.steps.read_steps.Goals as goal

pub loop-line-init : goal.loop-line-init
loop-line-init c =
    let left = c.into_iter-line-iterator.ensures.into_iter_gives ∙ c.lines-line-items.ensures.all in
    rw (left, c.new-steps.ensures.items) record { reading = reading_begins c.args.bytes.now; few = omega (arith, length-lines_of c.args.bytes.now) }

pub returns-in_err-step : goal.returns-in_err-step
returns-in_err-step c =
    let p = err_from_is_err_and c.from_residual.result c.from_residual.ensures.1 in
    let so_far = subst (λ left. IsReading (steps_of c.args.bytes.now) (map line_view c.loop-line.yielded) left c.loop-line.steps.items c.loop-line.standing) c.in-Some.ensures.steps c.loop-line.invariant.reading in
    rw (p.1, p.2) record { exact = inl (reading_ends _ _ _ _ _ _ _ so_far (sym c.if-is_skipped.ensures.value) (sym c.in_err-step.ensures.exact)) }

pub loop-line-preserved : goal.loop-line-preserved
loop-line-preserved c =
    let so_far = subst (λ left. IsReading (steps_of c.args.bytes.now) (map line_view c.loop-line.yielded) left c.loop-line.steps.items c.loop-line.standing) c.in-Some.ensures.steps c.loop-line.invariant.reading in
    let shorter = ap length c.in-Some.ensures.steps in
    record {
      reading = rw (map-append line_view c.loop-line.yielded (c.in-Some.line ∷ []), c.in_ok-push.ensures.items)
          (reading_on _ _ _ _ _ _ _ _ so_far (sym c.if-is_skipped.ensures.value) (sym c.in_ok-step.ensures.exact) c.standing_after-standing.ensures.after);
      few = omega (arith, shorter, c.loop-line.invariant.few, one_more _ _ _ _ c.standing_after-standing.ensures.after);
    }
