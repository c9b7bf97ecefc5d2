use Rattle.std.proofs.Common.{arith, ap, ◌≡◌, sym, subst}
use Rattle.wfc_log.specs.Log.{Log}
use Rattle.wfc_domains.specs.Board.{IsTraced}
use Rattle.wfc_domains.proofs.Boards.{last-is, traced-back}
use Rattle.wfc_domains.proofs.board.Board.take_back.Goals as goal

pub restore-requires-clause-cell_in : goal.restore-requires-clause-cell_in
restore-requires-clause-cell_in c =
    let l = last-is c.args.self.now _ _ c.requires.traced c.pop-removal.ensures.last in
    omega (arith, l.cell_in, c.requires.traced.same_cells)

pub restore-requires-clause-value_in : goal.restore-requires-clause-value_in
restore-requires-clause-value_in c =
    let l = last-is c.args.self.now _ _ c.requires.traced c.pop-removal.ensures.last in
    omega (arith, l.value_in, c.requires.traced.same_values)

pub restore-requires-clause-gone : goal.restore-requires-clause-gone
restore-requires-clause-gone c = (last-is c.args.self.now _ _ c.requires.traced c.pop-removal.ensures.last).gone

pub returns-clause-traced : goal.returns-clause-traced
returns-clause-traced c =
    let b = c.args.self.now in
    let back = traced-back b c.restore.new.self c.pop-removal.new.self.removals _ c.pop-removal.new.self.start c.requires.traced c.pop-removal.ensures.last c.restore.ensures.less in
    let same : c.pop-removal.new.self ≡ record b.trail { start = c.pop-removal.new.self.start; removals = c.pop-removal.new.self.removals } = c.pop-removal.ensures.same in
    subst (λ (t : Log). IsTraced (record b { domains = c.restore.new.self; trail = t })) (sym same) back

pub returns-clause-back : goal.returns-clause-back
returns-clause-back c =
    let b = c.args.self.now in
    let l = last-is b _ _ c.requires.traced c.pop-removal.ensures.last in
    record {
      same = ap (λ (t : Log). record b { domains = c.restore.new.self; trail = t }) c.pop-removal.ensures.same;
      removals = c.pop-removal.ensures.last;
      cell_in = l.cell_in;
      value_in = l.value_in;
      stood = l.stood;
    }
