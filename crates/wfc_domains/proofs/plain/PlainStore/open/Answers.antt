use Rattle.std.proofs.Common.{ap, ◌∙◌, sym, subst, arith}
use Rattle.std.specs.Prelude.{All}
use Rattle.wfc_problem.specs.Domains.{IsLiteralIn}
use Rattle.wfc_domains.proofs.Boards.{listed-fresh-grown}
use Rattle.wfc_domains.proofs.Sweeps.{fresh-cut, fresh-first, closed-fresh}
use Rattle.wfc_domains.proofs.plain.PlainStore.open.Goals as goal

pub close-requires-clause-cut : goal.close-requires-clause-cut
close-requires-clause-cut c = fresh-cut c.in-Ok.board _ c.in-Ok.ensures.fresh

pub invariant_of-result : goal.invariant_of-result
invariant_of-result c =
    let f = c.in-Ok.ensures.fresh in
    let e = c.close.ensures in
    let levels = e.grows.levels ∙ f.levels in
    let literals = c.in-Ok-new.ensures.ok in
    record {
      closed = closed-fresh c.in-Ok.board c.close.new.board _ f e.board e.cut e.grows.problem e.grows.levels e.consistent (e.first (fresh-first c.in-Ok.board _ f)) e.dead (listed-fresh-grown c.in-Ok.board c.close.new.board _ f e.grows e.start);
      literals = ap (λ l. l.standing) literals ∙ sym (ap (λ l. l.standing) levels);
      literals_in = subst (λ ls. All (IsLiteralIn c.close.new.board.problem.now) ls) (sym (ap (λ l. l.standing) literals)) (λ k d l. absurd (omega arith));
      spare = ap (λ l. l.spare) literals ∙ sym (ap (λ l. l.spare) levels);
    }

pub returns : goal.returns
returns c =
    let f = c.in-Ok.ensures.fresh in
    let e = c.close.ensures in
    let levels = e.grows.levels ∙ f.levels in
    let closed = closed-fresh c.in-Ok.board c.close.new.board _ f e.board e.cut e.grows.problem e.grows.levels e.consistent (e.first (fresh-first c.in-Ok.board _ f)) e.dead (listed-fresh-grown c.in-Ok.board c.close.new.board _ f e.grows e.start) in
    record {
      opened = record {
        problem = ap (λ p. p.now) e.grows.problem ∙ c.in-Ok.ensures.problem;
        standing = ap (λ l. l.standing) levels;
        spare = ap (λ l. l.spare) levels;
        sound = closed.sound;
      };
    }
