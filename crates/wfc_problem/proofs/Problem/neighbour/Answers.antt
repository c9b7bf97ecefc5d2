-- The cell of the hop in that direction.
use Rattle.std.proofs.Common.{◌∙◌, sym}
use Rattle.wfc_problem.proofs.HopLemmas.{hop_names}
use Rattle.wfc_problem.proofs.Problem.neighbour.Goals as goal

pub returns-clause-value : goal.returns-clause-value
returns-clause-value c =
    c.hop_cell.ensures.value
    ∙ sym (hop_names c.args.self.now c.hops.ensures.problem c.args.cell c.args.dir c.hops.result.now c.requires.cell_in c.requires.dir_in c.hops.ensures.value)
