use Rattle.std.proofs.Common.{sym, ◌∙◌, subst, arith}
use Rattle.std.proofs.lemmas.Bool.{true≢false}
use Rattle.wfc_domains.specs.Store.{IsOpening}
use Rattle.wfc_domains.proofs.Boards.{listed-fresh, listed-fresh-grown}
use Rattle.wfc_ac4.specs.Links.{AreLinks}
use Rattle.wfc_ac4.proofs.Opening.{scanned-none, scanned-done, opening-closed, between-dead, between-at}
use Rattle.wfc_ac4.proofs.flight.Flight.settle.Goals as goal

pub scan-requires : goal.scan-requires
scan-requires g c = record { scanned = scanned-none _ _ _ c.requires.fresh c.requires.fits c.requires.loaded }

pub close-requires : goal.close-requires
close-requires g c = record {
  between = between-at _ _ _ _ (scanned-done _ _ c.scan.ensures.scanned) (sym (c.scan.ensures.goes_on.head ∙ c.requires.head));
  linked = subst (λ p. AreLinks p.now c.args.links.now) (sym c.scan.ensures.goes_on.grows.problem) c.requires.linked;
  recent = omega (arith, c.scan.ensures.goes_on.start, c.requires.begun);
  listed = listed-fresh-grown _ _ _ c.requires.fresh c.scan.ensures.goes_on.grows c.scan.ensures.goes_on.start;
}

pub returns-then-is_alive-clause-opening : goal.returns-then-is_alive-clause-opening
returns-then-is_alive-clause-opening g c =
    let s = c.scan.ensures in
    let e = c.close.ensures in
    opening-closed c.args.self.now.board c.scan.new.self.board c.close.new.self.board _ c.requires.fresh (c.is_alive.ensures.value.0 c.if-is_alive.true)
    s.goes_on.grows.problem e.grows.problem s.scanned.first e.grows.more e.grows.removals e.idle

pub returns-else-is_alive-clause-between : goal.returns-else-is_alive-clause-between
returns-else-is_alive-clause-between g c =
    between-at _ _ _ _ (between-dead _ _ _ c.requires.fresh (λ alive. true≢false (sym (c.is_alive.ensures.value.1 alive) ∙ c.if-is_alive.false)) c.requires.fits c.requires.loaded) (sym c.requires.head)

pub returns-else-is_alive-clause-listed : goal.returns-else-is_alive-clause-listed
returns-else-is_alive-clause-listed g c = listed-fresh _ _ c.requires.fresh

pub returns-else-is_alive-clause-closed : goal.returns-else-is_alive-clause-closed
returns-else-is_alive-clause-closed g c = λ alive. absurd (true≢false (sym (c.is_alive.ensures.value.1 alive) ∙ c.if-is_alive.false))

pub returns-else-is_alive-clause-opening : goal.returns-else-is_alive-clause-opening
returns-else-is_alive-clause-opening g c =
    let b = c.args.self.now.board in
    subst (λ rs. IsOpening b.problem.now rs b.verdict) (sym c.requires.fresh.removals) c.requires.fresh.opening
