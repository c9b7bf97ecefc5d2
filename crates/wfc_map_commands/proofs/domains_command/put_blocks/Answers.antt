use Rattle.std.proofs.Common.{[]}
use Rattle.std.proofs.lemmas.Result.{err_from_is_err_and}
use Rattle.wfc_map_commands.proofs.WalkLemmas.{blocks_start, start_out}
use Rattle.wfc_map_commands.proofs.domains_command.put_blocks.Goals as goal

pub returns-in_err-put : goal.returns-in_err-put
returns-in_err-put g c =
    let p = err_from_is_err_and c.from_residual.result c.from_residual.ensures.1 in
    record {
      put = rw p.1 (start_out c.args.problem.now c.args.walk.engine.problem c.values-count.result c.cells-cells.result c.args.lines.now c.requires.problem c.values-count.ensures.value c.cells-cells.ensures.value _ _
          (c.in_err-put.ensures.put [] c.requires.begun));
    }

pub returns : goal.returns
returns g c = record {
  put = blocks_start c.args.problem.now c.args.walk.engine.problem c.values-count.result c.cells-cells.result c.args.lines.now c.requires.problem c.values-count.ensures.value c.cells-cells.ensures.value _ _ _ c.put_steps.result
      (c.in_ok-put.ensures.put [] c.requires.begun) c.put_steps.ensures.put;
}
