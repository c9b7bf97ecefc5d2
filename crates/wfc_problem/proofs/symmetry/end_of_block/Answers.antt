-- At first each place is its list's beginning, and a later value finds none too far.
use Rattle.std.proofs.Common.{◌<◌, ◌+◌, length, arith}
use Rattle.wfc_model.specs.Direction.{opposite}
use Rattle.wfc_problem.proofs.Cursors.{before_start, before_later, passed_set, reached_set}
use Rattle.wfc_problem.proofs.symmetry.end_of_block.Goals as goal

pub loop-value-init : goal.loop-value-init
loop-value-init c = record {
  all = c.requires.passed;
  reached = λ v l. absurd (omega arith);
  before = before_start c.args.parts.now (opposite c.args.dir) 4096 c.requires.sized.few_values;
}

pub loop-value-preserved : goal.loop-value-preserved
loop-value-preserved c =
    let P = c.args.parts.now in
    let l : c.loop-value.value < length c.loop-value.passed = omega (arith, c.loop-value.invariant.all.each_value) in
    record {
      all = passed_set P c.args.dir c.loop-value.value c.in-Some.at c.loop-value.passed c.loop-value.invariant.all l c.in-Some.ensures.passed;
      reached = reached_set P c.args.dir c.args.high c.loop-value.value c.in-Some.at c.loop-value.passed l c.loop-value.invariant.reached c.in-Some.ensures.reached;
      before = before_later P (opposite c.args.dir) c.loop-value.value (c.loop-value.value + 1) c.passed_below.new.places (omega arith) c.in-Some.ensures.before;
    }
