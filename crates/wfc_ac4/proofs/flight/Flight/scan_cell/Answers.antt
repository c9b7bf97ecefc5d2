use Rattle.std.proofs.Common.{◌≡◌, ◌+◌, ◌*◌, ◌∙◌, ap, arith, refl}
use Rattle.wfc_problem.specs.Network.{values}
use Rattle.wfc_domains.proofs.Boards.{grows-none, grows-more}
use Rattle.wfc_ac4.proofs.Opening.{scanned-at, scanned-row}
use Rattle.wfc_ac4.proofs.flight.Flight.scan_cell.Goals as goal

pub returns-then-not-has_none-clause-scanned : goal.returns-then-not-has_none-clause-scanned
returns-then-not-has_none-clause-scanned c =
    scanned-row c.args.self.now.board c.args.self.now.counters c.args.cell c.requires.scanned (c.if-not-has_none.ensures.some refl)

pub loop-value-init : goal.loop-value-init
loop-value-init c = record {
  scanned = scanned-at _ _ _ _ c.requires.scanned (omega arith);
  goes_on = record { grows = grows-none _; start = refl; head = refl };
}

pub loop-value-preserved : goal.loop-value-preserved
loop-value-preserved c =
    let h = c.loop-value.invariant in
    let e = c.look_at.ensures in
    record {
      scanned = scanned-at _ _ _ _ e.scanned (omega arith);
      goes_on = record { grows = grows-more h.goes_on.grows e.goes_on.grows; start = e.goes_on.start ∙ h.goes_on.start; head = e.goes_on.head ∙ h.goes_on.head };
    }

pub returns-clause-scanned : goal.returns-clause-scanned
returns-clause-scanned c =
    let h = c.loop-value.invariant in
    let P = c.loop-value.self.board.problem.now in
    let all : c.loop-value.value ≡ values P = omega (arith, c.values-value-end.ensures.value, ap (λ p. values p.now) h.goes_on.grows.problem) in
    let row : c.args.cell * values P + c.loop-value.value ≡ (c.args.cell + 1) * values P = omega arith in
    scanned-at _ _ _ _ h.scanned row
