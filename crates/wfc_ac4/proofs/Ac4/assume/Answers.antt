use Rattle.std.proofs.Common.{◌≡◌, ◌≤◌, ◌+◌, ap, ◌∙◌, sym, subst, arith, length, take, drop}
use Rattle.std.proofs.lemmas.List.{length_push}
use Rattle.wfc_domains.specs.Counters.{cost_of}
use Rattle.wfc_domains.specs.Store.{StoreView, level_mark, added_of}
use Rattle.wfc_domains.specs.Board.{view_of}
use Rattle.wfc_domains.proofs.Boards.{grown-within, mark-push}
use Rattle.wfc_domains.proofs.Sound.{board-alive}
use Rattle.wfc_ac4.specs.Links.{AreLinks}
use Rattle.wfc_ac4.proofs.Costs.{cost-split}
use Rattle.wfc_ac4.proofs.Engines.{put-between, between-sound}
use Rattle.wfc_ac4.proofs.Ac4.assume.Goals as goal

pub put-requires-clause-board : goal.put-requires-clause-board
put-requires-clause-board g c =
    let h = c.self.invariant in
    let alive = rw (← c.self.view_is) at c.requires.alive in
    board-alive c.self.inside.flight.board h.traced h.levels h.sound alive

pub close-requires : goal.close-requires
close-requires g c =
    let h = c.self.invariant in
    let f = c.self.inside.flight in
    let alive = rw (← c.self.view_is) at c.requires.alive in
    let e = c.put.ensures in
    record {
      between = put-between f.board c.put.new.self f.counters f.head h.traced h.sound alive h.counters (h.settled alive) h.marks e.board e.cut e.put.problem e.put.more e.put.removals
          (grown-within f.board c.put.new.self h.traced e.board.traced e.put.problem e.put.more e.put.removals);
      linked = subst (λ p. AreLinks p.now c.self.inside.links) (sym e.put.problem) h.linked;
      recent = omega (arith, e.begun, h.settled alive);
      listed = e.listed;
    }

pub invariant_of-self : goal.invariant_of-self
invariant_of-self g c =
    let h = c.self.invariant in
    let f = c.self.inside.flight in
    let alive = rw (← c.self.view_is) at c.requires.alive in
    let p = c.put.ensures.put in
    let e = c.close.ensures in
    let standing = ap (λ l. l.standing) (e.grows.levels ∙ p.levels) in
    let marks = ap (λ l. l.marks) (e.grows.levels ∙ p.levels) in
    record {
      sound = between-sound _ _ _ e.between e.closed (λ none. absurd (omega (arith, ap length (sym standing ∙ none), length_push f.board.levels.standing c.args.literal)));
      traced = e.between.board.traced;
      levels = e.between.board.levels;
      counters = e.between.counters;
      marks = e.between.marks;
      in_log = e.between.in_log;
      settled = e.closed;
      linked = subst (λ p. AreLinks p.now c.self.inside.links) (sym (e.grows.problem ∙ p.problem)) h.linked;
      marked = omega (arith, ap level_mark marks, mark-push f.board.levels.marks (length f.board.trail.removals), h.settled alive, e.forward);
      listed = e.listed;
    }

pub returns-clause-sound : goal.returns-clause-sound
returns-clause-sound g c =
    let f = c.self.inside.flight in
    let e = c.close.ensures in
    let standing = ap (λ l. l.standing) (e.grows.levels ∙ c.put.ensures.put.levels) in
    between-sound _ _ _ e.between e.closed (λ none. absurd (omega (arith, ap length (sym standing ∙ none), length_push f.board.levels.standing c.args.literal)))

pub returns-clause-cost : goal.returns-clause-cost
returns-clause-cost g c =
    let h = c.self.invariant in
    let f = c.self.inside.flight in
    let alive = rw (← c.self.view_is) at c.requires.alive in
    let p = c.put.ensures.put in
    let e = c.close.ensures in
    let P = f.board.problem.now in
    let rs = c.close.new.self.board.trail.removals in
    let marks = ap (λ l. l.marks) (e.grows.levels ∙ p.levels) in
    let m : level_mark c.close.new.self.board.levels.marks ≡ f.head = ap level_mark marks ∙ mark-push f.board.levels.marks (length f.board.trail.removals) ∙ sym (h.settled alive) in
    let Q : StoreView → Type 0 = λ v. c.close.new.steps ≤ c.args.steps.now + cost_of v.problem (added_of (view_of c.close.new.self.board)) in
    let fact : Q (view_of f.board) =
    omega (
      arith,
      e.steps,
      cost-split P rs f.head,
      cost-split P rs c.close.new.self.head,
      ap (λ n. cost_of P (drop n rs)) m,
      ap (λ q. cost_of q.now (take f.head rs)) p.problem,
      ap (λ q. cost_of q.now (take c.close.new.self.head rs)) p.problem,
    ) in
    subst Q c.self.view_is fact
