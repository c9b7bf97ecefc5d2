use Rattle.std.proofs.Common.{◌≡◌, ◌+◌, ◌%◌, ◌≤◌, sym, ◌∙◌, ap, subst, arith}
use Rattle.std.specs.Prelude.{ℕ}
use Rattle.std.specs.List.{sum_by}
use Rattle.wfc_problem.specs.Network.{values, value_weight}
use Rattle.wfc_problem.specs.Sizes.{values_at}
use Rattle.wfc_problem.proofs.CallerLemmas.{small_weight}
use Rattle.wfc_log.specs.Domains.{has}
use Rattle.wfc_choose.specs.Draw.{drawn_value, first_above}
use Rattle.wfc_choose.proofs.DrawLemmas.{above_here, above_taken, rest_begins, rest_from, rest_next, sum_taken}
use Rattle.wfc_choose.proofs.draws.draw.Goals as goal

pub loop-value-init : goal.loop-value-init
loop-value-init c =
    let P = c.args.problem.now in
    let p = has c.args.domains.now c.args.cell in
    let n = c.next-value.ensures in
    let same = c.requires.fits.same_values in
    let number = c.args.word % c.weights_at.result in
    let all = rest_begins p c.next-value.result (values P) (omega (arith, n.within, same)) (λ u before. n.gone u (omega arith) before) in
    record {
      whole = omega (arith, ap (sum_by (value_weight P)) all);
      behind = ap (first_above P number 0) all;
      below = omega arith;
      small = omega arith;
      stands = λ low. n.stands (omega (arith, low, same, c.values-values.ensures.value));
      within = omega (arith, n.within, same, c.values-values.ensures.value);
    }

pub returns-then-number-running-clause-exact : goal.returns-then-number-running-clause-exact
unfolding drawn_value
returns-then-number-running-clause-exact c =
    let P = c.args.problem.now in
    let p = has c.args.domains.now c.args.cell in
    let v = c.loop-value.value in
    let i = c.loop-value.invariant in
    let number = c.args.word % c.weights_at.result in
    let inside : v + 1 ≤ values P = omega (arith, c.loop-value-test.true, c.values-values.ensures.value) in
    let weight : c.from-running.result ≡ value_weight P v = c.from-running.ensures ∙ c.weight.ensures.value in
    sym (above_here P p v (values P) number c.loop-value.running (omega (arith, inside)) (i.stands c.loop-value-test.true) (omega (arith, weight, c.if-number-running.true)))
    ∙ i.behind
    ∙ ap (λ (n : ℕ). first_above P (c.args.word % n) 0 (values_at P (has c.args.domains.now) c.args.cell)) c.weights_at.ensures.value

pub loop-value-preserved : goal.loop-value-preserved
loop-value-preserved c =
    let P = c.args.problem.now in
    let p = has c.args.domains.now c.args.cell in
    let v = c.loop-value.value in
    let next = c.next-value-in-loop-value.result in
    let i = c.loop-value.invariant in
    let n = c.next-value-in-loop-value.ensures in
    let same = c.requires.fits.same_values in
    let number = c.args.word % c.weights_at.result in
    let inside : v + 1 ≤ values P = omega (arith, c.loop-value-test.true, c.values-values.ensures.value) in
    let passes = i.stands c.loop-value-test.true in
    let weight : c.from-running.result ≡ value_weight P v = c.from-running.ensures ∙ c.weight.ensures.value in
    let small : value_weight P v ≤ 16777216 = small_weight P c.values-values.ensures.problem v (omega (arith, inside)) in
    let le : c.loop-value.running + value_weight P v ≤ number = omega (arith, weight, c.if-number-running.false) in
    let rest = rest_next p (v + 1) next (values P) n.from (omega (arith, n.within, same)) (λ u after before. n.gone u after before) in
    let whole = sum_taken P p v (values P) c.loop-value.running _ (omega (arith, inside)) passes i.whole in
    let behind = above_taken P p v (values P) number c.loop-value.running (omega (arith, inside)) passes le ∙ i.behind in
    record {
      whole = omega (arith, whole, ap (sum_by (value_weight P)) rest, weight);
      behind = subst (λ (s : ℕ). first_above P number s (rest_from p next (values P)) ≡ first_above P number 0 (values_at P (has c.args.domains.now) c.args.cell))
          (ap (λ (s : ℕ). c.loop-value.running + s) (sym weight))
          (sym (ap (first_above P number (c.loop-value.running + value_weight P v)) rest) ∙ behind);
      below = omega (arith, weight, le);
      small = omega (arith, weight, small, i.small, n.from);
      stands = λ low. n.stands (omega (arith, low, same, c.values-values.ensures.value));
      within = omega (arith, n.within, same, c.values-values.ensures.value);
    }
