use Rattle.std.proofs.Common.{◌∙◌, ap}
use Rattle.wfc_problem.specs.Network.{supports_of}
use Rattle.wfc_check.proofs.Scans.{supports_below}
use Rattle.wfc_check.proofs.nodes.removal_fault.Goals as goal

pub first_among-requires-clause-values_in : goal.first_among-requires-clause-values_in
first_among-requires-clause-values_in c = λ k e l.
    supports_below c.args.trail.now.problem c.problem-problem.ensures.problem c.args.value c.args.dir _
    (c.supports.ensures.value ∙ ap (λ P. supports_of P c.args.value c.args.dir) c.problem-problem.ensures.value) k e l
