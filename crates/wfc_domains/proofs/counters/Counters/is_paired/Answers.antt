use Rattle.std.proofs.Common.{ap}
use Rattle.wfc_domains.proofs.FormLemmas.{form_paired, paired_limit}
use Rattle.wfc_domains.proofs.counters.Counters.is_paired.Goals as goal

pub returns : goal.returns
returns c =
    let a = c.self.inside in
    rw (← c.self.view_is) (record {
      paired = ((λ t. ap (λ e. e.limit) (form_paired a.is_paired a.pairs a.singles t)), (λ e. paired_limit a.is_paired a.pairs a.singles c.self.invariant.above e));
    })
