use Rattle.std.proofs.Common.{◌≡◌, subst}
use Rattle.wfc_log.specs.Domains.{Fits, flags_of}
use Rattle.wfc_domains.specs.Store.{StoreView, left_of}
use Rattle.wfc_domains.proofs.Shown.{board-flags}
use Rattle.wfc_domains.proofs.plain.PlainStoreStore.domains.Goals as goal

pub returns-clause-value : goal.returns-clause-value
returns-clause-value c =
    let b = c.self.inside.board in
    let Q : StoreView → Type 0 = λ v. b.domains ≡ flags_of v.problem (left_of v) in
    subst Q c.self.view_is (board-flags b c.self.invariant.closed.traced)

pub returns-clause-fits : goal.returns-clause-fits
returns-clause-fits c =
    let b = c.self.inside.board in
    let t = c.self.invariant.closed.traced in
    let Q : StoreView → Type 0 = λ v. Fits v.problem b.domains in
    subst Q c.self.view_is (record { same_cells = t.same_cells; same_values = t.same_values })
