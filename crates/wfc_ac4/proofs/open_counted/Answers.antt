use Rattle.std.proofs.Common.{ap, ◌∙◌, sym, subst, refl, arith}
use Rattle.wfc_log.specs.Domains.{has}
use Rattle.wfc_domains.specs.Counters.{FitsTable, counts_of}
use Rattle.wfc_domains.specs.Store.{level_mark}
use Rattle.wfc_ac4.specs.Links.{AreLinks}
use Rattle.wfc_ac4.proofs.Engines.{between-sound}
use Rattle.wfc_ac4.proofs.Opening.{fresh-own}
use Rattle.wfc_ac4.proofs.open_counted.Goals as goal

pub settle-requires : goal.settle-requires
settle-requires g c =
    let b = c.in_ok-board.board in
    record {
      fresh = fresh-own b _ c.in_ok-board.ensures.fresh;
      loaded = c.load.ensures.loaded ∙ ap (λ P. counts_of P (has b.domains) c.load.new.self.limit) (sym c.in_ok-board.ensures.problem);
      fits = subst (λ P. FitsTable P c.load.new.self) (sym c.in_ok-board.ensures.problem) c.load.ensures.fits;
      linked = subst (λ P. AreLinks P c.in_ok-links.links) (sym c.in_ok-board.ensures.problem) c.in_ok-links.ensures.linked;
      head = refl;
      begun = c.in_ok-board.ensures.begun;
    }

pub invariant_of-result : goal.invariant_of-result
invariant_of-result g c =
    let e = c.settle.ensures in
    let levels = e.levels ∙ c.in_ok-board.ensures.fresh.levels in
    record {
      sound = between-sound _ _ _ e.between e.closed (λ _. e.opening);
      traced = e.between.board.traced;
      levels = e.between.board.levels;
      counters = e.between.counters;
      marks = e.between.marks;
      in_log = e.between.in_log;
      settled = e.closed;
      linked = subst (λ P. AreLinks P c.in_ok-links.links) (sym (ap (λ p. p.now) e.problem ∙ c.in_ok-board.ensures.problem)) c.in_ok-links.ensures.linked;
      marked = omega (arith, ap (λ l. level_mark l.marks) levels);
      listed = e.listed;
    }

pub returns : goal.returns
returns g c =
    let e = c.settle.ensures in
    let levels = e.levels ∙ c.in_ok-board.ensures.fresh.levels in
    record {
      opened = record {
        problem = ap (λ p. p.now) e.problem ∙ c.in_ok-board.ensures.problem;
        standing = ap (λ l. l.standing) levels;
        spare = ap (λ l. l.spare) levels;
        sound = between-sound _ _ _ e.between e.closed (λ _. e.opening);
      };
    }
