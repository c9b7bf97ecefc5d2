use Rattle.std.proofs.Common.{arith}
use Rattle.wfc_domains.proofs.Loading.{loaded_all}
use Rattle.wfc_domains.proofs.counters.Counters.load.Goals as goal

pub returns-clause-loaded : goal.returns-clause-loaded
returns-clause-loaded g c =
    loaded_all c.args.problem.now _ _ c.loop-cell.cell c.loop-cell.invariant.loaded (omega (arith, c.cells-cell-end.ensures.value))
