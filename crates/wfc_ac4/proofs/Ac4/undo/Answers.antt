use Rattle.std.proofs.Common.{◌≡◌, ◌≤◌, ◌+◌, ap, sym, subst, arith, length, drop}
use Rattle.std.proofs.lemmas.List.{length-take}
use Rattle.wfc_domains.specs.Counters.{cost_of}
use Rattle.wfc_domains.specs.Store.{StoreView, IsSound, level_mark, added_of, without_last}
use Rattle.wfc_domains.specs.Board.{view_of, HasLevels, IsListed}
use Rattle.wfc_domains.proofs.Boards.{mark-in}
use Rattle.wfc_domains.proofs.Sound.{sound-undone, levels-undone}
use Rattle.wfc_ac4.specs.Links.{AreLinks}
use Rattle.wfc_ac4.proofs.Costs.{cost-split}
use Rattle.wfc_ac4.proofs.Engines.{undone-is}
use Rattle.wfc_ac4.proofs.Ac4.undo.Goals as goal

pub relist-requires : goal.relist-requires
relist-requires g c =
    let h = c.self.invariant in
    let a = c.self.inside.flight in
    let some = rw (← c.self.view_is) at c.requires.some in
    let e = c.roll_back.ensures in
    let v = view_of a.board in
    let same = undone-is a.board c.roll_back.new.self.board c.pop.new.self c.mark-mark.result c.mark-mark.ensures.value e.back.problem e.back.levels e.back.removals c.pop.ensures.less in
    record { levels = subst HasLevels (sym same) (levels-undone v h.levels some) }

pub invariant_of-self : goal.invariant_of-self
invariant_of-self g c =
    let h = c.self.invariant in
    let a = c.self.inside.flight in
    let some = rw (← c.self.view_is) at c.requires.some in
    let e = c.roll_back.ensures in
    let m = c.mark-mark.ensures.value in
    let v = view_of a.board in
    let same = undone-is a.board c.roll_back.new.self.board c.pop.new.self c.mark-mark.result m e.back.problem e.back.levels e.back.removals c.pop.ensures.less in
    let left : length c.roll_back.new.self.board.trail.removals ≡ c.mark-mark.result = omega (arith, ap length e.back.removals, length-take c.mark-mark.result a.board.trail.removals, h.in_log, h.marked, m) in
    let t = e.rolled.traced in
    rw c.relist.ensures.same (record {
      sound = subst IsSound (sym same) (sound-undone v h.levels some);
      traced = record { problem = t.problem; same_cells = t.same_cells; same_values = t.same_values; whole = t.whole; stands = t.stands; stood = t.stood; room = t.room; extent = t.extent };
      levels = subst HasLevels (sym same) (levels-undone v h.levels some);
      counters = e.rolled.counters;
      marks = e.rolled.marks;
      in_log = e.rolled.in_log;
      linked = subst (λ p. AreLinks p.now c.self.inside.links) (sym e.back.problem) h.linked;
      settled = λ _. omega (arith, left, e.back.head, h.marked, m);
      marked = omega (arith, left, e.back.head, h.marked, m, ap (λ (w : StoreView). level_mark w.marks) same, mark-in (without_last v) (levels-undone v h.levels some), length-take (level_mark v.marks) v.removals);
      listed = subst IsListed c.relist.ensures.same c.relist.ensures.listed;
    })

pub returns-clause-sound : goal.returns-clause-sound
returns-clause-sound g c =
    let h = c.self.invariant in
    let a = c.self.inside.flight in
    let some = rw (← c.self.view_is) at c.requires.some in
    let e = c.roll_back.ensures in
    let same = undone-is a.board c.roll_back.new.self.board c.pop.new.self c.mark-mark.result c.mark-mark.ensures.value e.back.problem e.back.levels e.back.removals c.pop.ensures.less in
    rw c.relist.ensures.same (subst IsSound (sym same) (sound-undone (view_of a.board) h.levels some))

pub returns-clause-cost : goal.returns-clause-cost
returns-clause-cost g c =
    let a = c.self.inside.flight in
    let e = c.roll_back.ensures in
    let P = a.board.problem.now in
    let Q : StoreView → Type 0 = λ v. c.roll_back.new.steps ≤ c.args.steps.now + cost_of v.problem (added_of v) in
    let fact : Q (view_of a.board) = omega (arith, e.steps, cost-split P a.board.trail.removals c.mark-mark.result, ap (λ n. cost_of P (drop n a.board.trail.removals)) c.mark-mark.ensures.value) in
    subst Q c.self.view_is fact
