use Rattle.std.proofs.Common.{◌++◌, ◌-◌, ◌∷◌, [], ap, ◌∙◌, sym, arith, length}
use Rattle.std.proofs.lemmas.List.{length_push}
use Rattle.wfc_domains.proofs.Boards.{listed-grown}
use Rattle.wfc_domains.proofs.Sound.{board-alive}
use Rattle.wfc_domains.proofs.Sweeps.{closed-later, literals-push}
use Rattle.wfc_domains.proofs.plain.PlainStore.put.Goals as goal

pub put-requires-clause-board : goal.put-requires-clause-board
put-requires-clause-board c =
    let h = c.self.invariant.closed in
    let alive = rw (← c.self.view_is) at c.requires.alive in
    board-alive c.self.inside.board h.traced h.levels h.sound alive

pub invariant_of-self : goal.invariant_of-self
invariant_of-self c =
    let h = c.self.invariant in
    let a = c.self.inside in
    let p = c.put.ensures.put in
    let e = c.close.ensures in
    let l = c.args.literal in
    let levels = e.grows.levels ∙ p.levels in
    let literals = c.push.ensures.more in
    let in_range = rw (← c.self.view_is) at c.requires.literal_in in
    record {
      closed = closed-later c.close.new.board e.board e.cut e.consistent (omega (arith, ap (λ x. length x.standing) levels, length_push a.board.levels.standing l)) (listed-grown _ _ c.put.ensures.listed e.grows e.start);
      literals = ap (λ x. x.standing) literals ∙ ap (λ ls. ls ++ l ∷ []) h.literals ∙ sym (ap (λ x. x.standing) levels);
      literals_in = literals-push a.board.problem.now c.close.new.board.problem.now a.literals.standing c.push.new.self.standing l (ap (λ q. q.now) (e.grows.problem ∙ p.problem)) (ap (λ x. x.standing) literals) h.literals_in in_range;
      spare = ap (λ x. x.spare) literals ∙ ap (λ n. n - 1) h.spare ∙ sym (ap (λ x. x.spare) levels);
    }

pub returns-clause-sound : goal.returns-clause-sound
returns-clause-sound c =
    let a = c.self.inside in
    let p = c.put.ensures.put in
    let e = c.close.ensures in
    (closed-later c.close.new.board e.board e.cut e.consistent (omega (arith, ap (λ x. length x.standing) (e.grows.levels ∙ p.levels), length_push a.board.levels.standing c.args.literal)) (listed-grown _ _ c.put.ensures.listed e.grows e.start)).sound
