-- At first no support is passed, and at the end all are, of the values before the first that fails.
use Rattle.std.proofs.Common.{◌≤◌, ◌*◌, arith, ap}
use Rattle.wfc_problem.specs.Network.{Network, values}
use Rattle.wfc_problem.proofs.Cursors.{passed_start, passed_all}
use Rattle.wfc_problem.proofs.symmetry.end_of_mutual.Goals as goal

pub loop-block-init : goal.loop-block-init
loop-block-init c = record {
  few = omega arith;
  fails = λ l. absurd (omega arith);
  all = passed_start c.args.parts.now c.args.dir 4096 c.requires.sized.few_values;
  reached = λ v l m. omega arith;
}

pub returns : goal.returns
returns c =
    let P = c.args.parts.now in
    let same = ap (λ (P : Network). values P) c.parts.view_is in
    let whole : values P ≤ c.loop-block.block * 128 = omega arith in
    record {
      value = record {
        few = c.loop-block.invariant.few;
        passed = λ k l. passed_all P c.requires.indexed c.args.dir k (c.loop-block.block * 128) _ whole (c.loop-block.invariant.all.each k (omega (arith, c.loop-block.invariant.few))) (c.loop-block.invariant.reached k l);
        fails = c.loop-block.invariant.fails;
      };
    }
