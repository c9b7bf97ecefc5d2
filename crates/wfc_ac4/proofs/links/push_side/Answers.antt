use Rattle.std.proofs.Common.{◌≡◌, ◌+◌, ◌*◌, get_or, ◌∙◌, arith}
use Rattle.wfc_model.specs.Direction.{opposite}
use Rattle.wfc_domains.specs.Counters.{counter_place}
use Rattle.wfc_ac4.proofs.LinkLemmas.{side_more, offset-few}
use Rattle.wfc_ac4.proofs.links.push_side.Goals as goal

pub overflow_mul-offset : goal.overflow_mul-offset
overflow_mul-offset c =
    let few = offset-few c.args.problem.now c.dirs.ensures.problem _ _ _ _ c.supports-other-items.ensures.value c.requires.dir_in c.loop-other-test.true in
    let product : c.from.result * c.from-dirs.result ≡ get_or c.supports-other-items.result.now c.loop-other.other-index 0 * c.args.problem.now.dirs = λ i. c.from.ensures i * (c.from-dirs.ensures ∙ c.dirs.ensures.value) i in
    omega (arith, few.0, product)

pub overflow_add-offset : goal.overflow_add-offset
overflow_add-offset c =
    let few = offset-few c.args.problem.now c.dirs.ensures.problem _ _ _ _ c.supports-other-items.ensures.value c.requires.dir_in c.loop-other-test.true in
    let product : c.from.result * c.from-dirs.result ≡ get_or c.supports-other-items.result.now c.loop-other.other-index 0 * c.args.problem.now.dirs = λ i. c.from.ensures i * (c.from-dirs.ensures ∙ c.dirs.ensures.value) i in
    omega (arith, few.0, few.1, c.from-in-loop-other.ensures, c.opposite-back.ensures.value, product)

pub loop-other-preserved : goal.loop-other-preserved
loop-other-preserved c =
    let w = get_or c.supports-other-items.result.now c.loop-other.other-index 0 in
    let product : c.from.result * c.from-dirs.result ≡ w * c.args.problem.now.dirs = λ i. c.from.ensures i * (c.from-dirs.ensures ∙ c.dirs.ensures.value) i in
    let at : c.from.result * c.from-dirs.result + c.from-in-loop-other.result ≡ counter_place c.args.problem.now 0 w (opposite c.args.dir) =
    omega (arith, product, c.from-in-loop-other.ensures, c.opposite-back.ensures.value) in
    record {
      more = c.in_ok-push.ensures.items ∙ side_more c.args.problem.now _ _ _ _ _ _ _ _ _ _ c.supports-other-items.ensures.value c.loop-other-test.true c.opposite-back.ensures.value at c.unit_at.ensures.value c.mask_at.ensures.value c.loop-other.invariant.more;
    }
