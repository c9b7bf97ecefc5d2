use Rattle.std.proofs.Common.{◌∙◌, sym}
use Rattle.wfc_check.proofs.Taken.{took_close}
use Rattle.wfc_check.proofs.nodes.close.Goals as goal

pub returns-in-Some-close : goal.returns-in-Some-close
returns-in-Some-close c = record {
  taken = took_close c.args.trail.now c.close.new.self c.remove.new.self c.args.cell c.in-Some-close.entry (sym c.empty_fault.ensures.value ∙ c.in-None.is)
      c.close.ensures.same c.in-Some-close.ensures.some c.remove.ensures.more;
}
