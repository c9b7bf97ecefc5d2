-- The entries of a problem's table name its cells.
use Rattle.std.proofs.Common.{ap}
use Rattle.wfc_problem.specs.Network.{Network}
use Rattle.wfc_problem.specs.Whole.{network_of}
use Rattle.wfc_problem.proofs.HopLemmas.{all_entries}
use Rattle.wfc_problem.proofs.Problem.kept.Goals as goal

pub of-hops-requires-clause-entries : goal.of-hops-requires-clause-entries
of-hops-requires-clause-entries c =
    rw (c.replace-table.ensures.value, ap (λ (N : Network). N.neighbours) c.parts.view_is)
    (all_entries (network_of c.args.whole c.args.parts) c.requires.kept.problem)
