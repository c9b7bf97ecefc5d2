use Rattle.std.proofs.Common.{Err, Ok, [], ap, arith, refl, take, ◌+◌, ◌∙◌}
use Rattle.std.proofs.lemmas.Result.{err_from_is_err_and}
use Rattle.wfc_map_commands.proofs.WalkLemmas.{blocks_end, next_on, next_out, walk_next}
use Rattle.wfc_map_commands.proofs.walk.Walk.make_each.Goals as goal
use Rattle.wfc_map_commands.specs.Walk.{literals_after_all}

pub loop-line-init : goal.loop-line-init
loop-line-init g c = record {
  walks = c.requires.begun;
  problem = refl;
  spare = omega (arith, c.requires.spare);
  beside = omega (arith, c.requires.none);
  number = refl;
  rest = λ new result rest. rest;
}

pub returns-in_err-make : goal.returns-in_err-make
returns-in_err-make g c =
    let p = err_from_is_err_and c.from_residual.result c.from_residual.ensures.1 in
    let lines = c.args.lines.now in
    let i = c.loop-line.line-index in
    let walk = walk_next lines i _ _ _ _ _ c.loop-line-test.true c.in_err-make.ensures.walks c.loop-line.invariant.walks in
    record {
      put = rw p.1 (c.loop-line.invariant.rest _ (Err c.in_err-make.field-0.0)
          (next_out c.args.self.now.engine.problem c.make.new.self.engine.problem c.args.count c.args.cells lines i c.loop-line.number c.loop-line-test.true (c.in_err-make.ensures.problem ∙ c.loop-line.invariant.problem) c.loop-line.invariant.number _ _
          (c.in_err-make.ensures.put (literals_after_all [] (take (i + 1) lines)) walk)));
    }

pub loop-line-preserved : goal.loop-line-preserved
loop-line-preserved g c =
    let lines = c.args.lines.now in
    let i = c.loop-line.line-index in
    let walk = walk_next lines i _ _ _ _ _ c.loop-line-test.true c.in_ok-make.ensures.walks c.loop-line.invariant.walks in
    record {
      walks = walk;
      problem = c.in_ok-make.ensures.problem ∙ c.loop-line.invariant.problem;
      spare = omega (arith, c.in_ok-make.ensures.spare, c.loop-line.invariant.spare);
      beside = omega (arith, c.in_ok-make.ensures.beside, c.loop-line.invariant.beside);
      number = ap (λ n. n + 1) c.loop-line.invariant.number;
      rest = λ new result rest. c.loop-line.invariant.rest new result
          (next_on c.args.self.now.engine.problem c.make.new.self.engine.problem c.args.count c.args.cells lines i c.loop-line.number c.loop-line-test.true (c.in_ok-make.ensures.problem ∙ c.loop-line.invariant.problem) c.loop-line.invariant.number _ _ new result
          (c.in_ok-make.ensures.put (literals_after_all [] (take (i + 1) lines)) walk) rest);
    }

pub returns : goal.returns
returns g c = record {
  put = c.loop-line.invariant.rest _ (Ok tt) (blocks_end c.args.self.now.engine.problem c.args.count c.args.cells c.args.lines.now c.loop-line.line-index _ c.loop-line-test.false);
}
