use Rattle.std.proofs.Common.{◌∙◌, sym}
use Rattle.wfc_check.proofs.Taken.{took_removal}
use Rattle.wfc_check.proofs.nodes.remove.Goals as goal

pub returns-in-None : goal.returns-in-None
returns-in-None c = record {
  taken = took_removal c.args.trail.now c.remove.new.self c.args.cell c.args.value c.args.dir (sym c.removal_fault.ensures.value ∙ c.in-None.is) c.remove.ensures.more;
}
