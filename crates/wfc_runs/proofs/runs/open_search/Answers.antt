use Rattle.std.proofs.Common.{ap, ◌∙◌}
use Rattle.wfc_domains.specs.Store.{StoreView}
use Rattle.wfc_runs.proofs.runs.open_search.Goals as goal

pub returns-clause-standing : goal.returns-clause-standing
returns-clause-standing g c = ap (λ (v : StoreView). v.standing) c.in-Ok-open.ensures.store ∙ c.in-Ok.ensures.opened.standing
