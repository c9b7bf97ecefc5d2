use Rattle.std.proofs.Common.{◌∙◌}
use Rattle.wfc_search.proofs.Stores.{alive_left}
use Rattle.wfc_search.proofs.search.Search.domains.Goals as goal

pub returns-clause-greatest : goal.returns-clause-greatest
returns-clause-greatest g c alive =
    c.domains.ensures.stands ∙ alive_left (g.S.Store.view c.args.self.now.store) c.domains.ensures.sound alive
