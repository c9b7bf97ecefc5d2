use Rattle.std.proofs.Common.{◌-◌, sym, subst, ap, arith}
use Rattle.wfc_problem.specs.Network.{values}
use Rattle.wfc_domains.specs.declared.board.Board.{Board}
use Rattle.wfc_ac4.specs.State.{IsRolled}
use Rattle.wfc_ac4.specs.declared.flight.Flight.{Flight}
use Rattle.wfc_ac4.proofs.MarkLemmas.{gone-fewer}
use Rattle.wfc_ac4.proofs.Rolls.{start_raising, rolled_unmarked, back_gone, pending_back, worked_back}
use Rattle.wfc_ac4.proofs.flight.Flight.take_back.Goals as goal

pub raise-requires-clause-raising : goal.raise-requires-clause-raising
raise-requires-clause-raising g c =
    let u = rolled_unmarked _ _ _ _ _ _ _ c.requires.rolled c.unmark.ensures.unmarks in
    start_raising _ _ _ _ _ u c.take_back-removal.ensures.back (omega (arith, c.len.ensures.value))

pub returns-then-self-len-clause-rolled : goal.returns-then-self-len-clause-rolled
returns-then-self-len-clause-rolled g c =
    let u = rolled_unmarked _ _ _ _ _ _ _ c.requires.rolled c.unmark.ensures.unmarks in
    let e = c.raise.ensures in
    let t = c.take_back-removal.ensures.traced in
    let back = c.take_back-removal.ensures.back in
    let gone = back_gone _ _ _ _ _ _ c.requires.rolled t back c.unmark.ensures.unmarks in
    let fewer = gone-fewer c.take_back-removal.new.self.domains c.unmark.new.self c.raise.new.self.counters gone
    (omega (arith, e.counters.fits.same_values, u.counters.fits.same_values, ap (λ (x : Board). values x.problem.now) back.same))
    (omega (arith, e.counters.fits.same_dirs, u.counters.fits.same_dirs, ap (λ (x : Board). x.problem.now.dirs) back.same)) e.marks in
    let r = worked_back _ c.take_back-removal.new.self _ c.raise.new.self.counters c.args.self.now.head c.take_back-removal.result u t fewer back (omega (arith, c.len.ensures.value)) e.counters in
    subst (λ (f : Flight). IsRolled f.board c.raise.new.self.counters (f.head - 1)) (sym e.same) r

pub returns-else-self-len-clause-rolled : goal.returns-else-self-len-clause-rolled
returns-else-self-len-clause-rolled g c =
    let u = rolled_unmarked _ _ _ _ _ _ _ c.requires.rolled c.unmark.ensures.unmarks in
    let t = c.take_back-removal.ensures.traced in
    let back = c.take_back-removal.ensures.back in
    let gone = back_gone _ _ _ _ _ _ c.requires.rolled t back c.unmark.ensures.unmarks in
    pending_back _ _ _ _ _ u t gone back (omega (arith, c.len.ensures.value))
