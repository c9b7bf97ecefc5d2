use Rattle.std.proofs.Common.{◌∙◌, sym}
use Rattle.wfc_check.proofs.Taken.{split_few}
use Rattle.wfc_check.proofs.nodes.split.Goals as goal

pub branch-trail-requires-clause-few : goal.branch-trail-requires-clause-few
branch-trail-requires-clause-few c =
    split_few c.args.trail.now c.requires.problem c.args.cell c.args.value (sym c.split_fault.ensures.value ∙ c.in-None.is) c.requires.few
