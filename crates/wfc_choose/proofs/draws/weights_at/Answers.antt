use Rattle.std.proofs.Common.{◌≡◌, ◌+◌, ◌≤◌, ◌∙◌, ap, arith}
use Rattle.std.specs.List.{sum_by}
use Rattle.wfc_problem.specs.Network.{values, value_weight}
use Rattle.wfc_problem.proofs.CallerLemmas.{small_weight}
use Rattle.wfc_log.specs.Domains.{has}
use Rattle.wfc_choose.proofs.DrawLemmas.{rest_begins, rest_next, sum_end, sum_some, sum_taken}
use Rattle.wfc_choose.proofs.draws.weights_at.Goals as goal

pub loop-value-init : goal.loop-value-init
loop-value-init c =
    let P = c.args.problem.now in
    let p = has c.args.domains.now c.args.cell in
    let n = c.next-value.ensures in
    let same = c.requires.fits.same_values in
    let all = rest_begins p c.next-value.result (values P) (omega (arith, n.within, same)) (λ u before. n.gone u (omega arith) before) in
    record {
      whole = omega (arith, ap (sum_by (value_weight P)) all);
      small = omega arith;
      stands = λ low. n.stands (omega (arith, low, same, c.values-values.ensures.value));
      within = omega (arith, n.within, same, c.values-values.ensures.value);
    }

pub loop-value-preserved : goal.loop-value-preserved
loop-value-preserved c =
    let P = c.args.problem.now in
    let p = has c.args.domains.now c.args.cell in
    let v = c.loop-value.value in
    let i = c.loop-value.invariant in
    let n = c.next-value-in-loop-value.ensures in
    let same = c.requires.fits.same_values in
    let inside : v + 1 ≤ values P = omega (arith, c.loop-value-test.true, c.values-values.ensures.value) in
    let weight : c.from-sum.result ≡ value_weight P v = c.from-sum.ensures ∙ c.weight.ensures.value in
    let small : value_weight P v ≤ 16777216 = small_weight P c.values-values.ensures.problem v (omega (arith, inside)) in
    let rest = ap (sum_by (value_weight P)) (rest_next p (v + 1) c.next-value-in-loop-value.result (values P) n.from (omega (arith, n.within, same)) (λ u after before. n.gone u after before)) in
    let whole = sum_taken P p v (values P) c.loop-value.sum _ (omega (arith, inside)) (i.stands c.loop-value-test.true) i.whole in
    record {
      whole = omega (arith, whole, rest, weight);
      small = omega (arith, weight, small, i.small, n.from);
      stands = λ low. n.stands (omega (arith, low, same, c.values-values.ensures.value));
      within = omega (arith, n.within, same, c.values-values.ensures.value);
    }

pub returns-clause-some : goal.returns-clause-some
returns-clause-some c =
    let P = c.args.problem.now in
    let p = has c.args.domains.now c.args.cell in
    omega (
      arith,
      sum_end P p c.loop-value.value (values P) c.loop-value.sum _ (omega (arith, c.loop-value-test.false, c.values-values.ensures.value)) c.loop-value.invariant.whole,
      sum_some P c.values-values.ensures.problem (has c.args.domains.now) c.args.cell c.requires.some,
    )
