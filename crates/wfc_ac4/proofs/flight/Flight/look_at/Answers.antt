use Rattle.std.proofs.Common.{sym, ◌∙◌, ap, arith}
use Rattle.std.proofs.lemmas.Bool.{true≢false}
use Rattle.wfc_problem.specs.Network.{values}
use Rattle.wfc_domains.specs.declared.board.Board.{Board}
use Rattle.wfc_domains.proofs.Boards.{board_without-gone}
use Rattle.wfc_ac4.proofs.Opening.{scanned-removed, scanned-next}
use Rattle.wfc_ac4.proofs.flight.Flight.look_at.Goals as goal
use Rattle.wfc_ac4.proofs.flight.Flight.look_at.Goals.{else-is_alive-via-then-is_alive+else-has, else-is_alive-via-else-is_alive}

pub returns-in-Some-clause-scanned : goal.returns-in-Some-clause-scanned
returns-in-Some-clause-scanned c =
    let b = c.in-Some.ensures.some in
    let r = c.remove.ensures.removed in
    let alive = c.is_alive.ensures.value.0 c.if-is_alive.true in
    scanned-next _ _ c.args.cell c.args.value
    (scanned-removed c.args.self.now.board c.remove.new.self c.args.self.now.counters c.args.cell c.args.value c.in-Some.dir b.next c.requires.scanned alive c.requires.cell_in c.requires.value_in b.dir_in b.beside b.none b.first r)
    (omega (arith, c.requires.value_in, ap (λ (x : Board). values x.problem.now) r.same))
    (λ _ t. absurd (true≢false (sym t ∙ board_without-gone r.less)))

pub returns-in_default-clause-scanned : goal.returns-in_default-clause-scanned
returns-in_default-clause-scanned c =
    scanned-next _ _ c.args.cell c.args.value c.requires.scanned c.requires.value_in (λ _ _. c.in_default.ensures.none)

pub returns-else-is_alive-clause-scanned : goal.returns-else-is_alive-clause-scanned
returns-else-is_alive-clause-scanned c =
    scanned-next _ _ c.args.cell c.args.value c.requires.scanned c.requires.value_in (λ alive t.
    elim c.else-is_alive.branch [
      | else-is_alive-via-then-is_alive+else-has w ↦ absurd (true≢false (sym t ∙ sym w.has.ensures.value ∙ w.if-has.false))
      | else-is_alive-via-else-is_alive w ↦ absurd (true≢false (sym (c.is_alive.ensures.value.1 alive) ∙ w.if-is_alive.false))
    ])
