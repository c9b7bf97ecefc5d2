use Rattle.std.proofs.Common.{◌≡◌, subst}
use Rattle.wfc_log.specs.declared.Verdict.TheVariants.{Alive}
use Rattle.wfc_domains.specs.Counters.{FitsTable, HasCounts}
use Rattle.wfc_domains.specs.Store.{StoreView, left_of}
use Rattle.wfc_ac4.proofs.Engines.{settled-table}
use Rattle.wfc_ac4.proofs.Ac4.counters.Goals as goal

pub returns-clause-value : goal.returns-clause-value
returns-clause-value c =
    let f = c.self.inside.flight in
    let h = c.self.invariant in
    let Q : StoreView → Type 0 = λ v. v.verdict ≡ Alive → HasCounts v.problem (left_of v) f.counters in
    subst Q c.self.view_is (λ alive. settled-table f.board f.counters f.head h.counters (h.settled alive))

pub returns-clause-fits : goal.returns-clause-fits
returns-clause-fits c =
    let f = c.self.inside.flight in
    let Q : StoreView → Type 0 = λ v. FitsTable v.problem f.counters in
    subst Q c.self.view_is c.self.invariant.counters.fits
