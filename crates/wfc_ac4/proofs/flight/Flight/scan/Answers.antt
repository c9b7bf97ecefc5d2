use Rattle.std.proofs.Common.{◌∙◌}
use Rattle.wfc_domains.proofs.Boards.{grows-more}
use Rattle.wfc_ac4.proofs.flight.Flight.scan.Goals as goal

pub loop-cell-preserved : goal.loop-cell-preserved
loop-cell-preserved c =
    let h = c.loop-cell.invariant in
    let e = c.scan_cell.ensures in
    record {
      scanned = e.scanned;
      goes_on = record { grows = grows-more h.goes_on.grows e.goes_on.grows; start = e.goes_on.start ∙ h.goes_on.start; head = e.goes_on.head ∙ h.goes_on.head };
    }
