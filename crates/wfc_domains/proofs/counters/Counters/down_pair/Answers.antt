use Rattle.std.proofs.Common.{◌-◌, length, ◌∙◌, ap}
use Rattle.std.proofs.lemmas.List.{length-set}
use Rattle.wfc_domains.proofs.FormLemmas.{form_paired, paired_limit, set_paired, counters_paired}
use Rattle.wfc_domains.proofs.counters.Counters.down_pair.Goals as goal

pub down-requires : goal.down-requires
down-requires g c =
    let a = c.self.inside in
    let limit = rw (← c.self.view_is) at c.requires.paired in
    let paired = paired_limit a.is_paired a.pairs a.singles c.self.invariant.above limit in
    let form = form_paired a.is_paired a.pairs a.singles paired in
    record {
      unit = c.requires.unit;
      mask = c.requires.mask;
      place_in = rw form at (rw (← c.self.view_is) at c.requires.place_in);
      some = rw form at (rw (← c.self.view_is) at c.requires.some);
    }

pub invariant_of-self : goal.invariant_of-self
invariant_of-self g c = counters_paired c.self.inside _ c.self.invariant (ap length c.down.ensures.changed ∙ length-set _ _ _)

pub returns : goal.returns
returns g c =
    let a = c.self.inside in
    let limit = rw (← c.self.view_is) at c.requires.paired in
    let paired = paired_limit a.is_paired a.pairs a.singles c.self.invariant.above limit in
    let form = form_paired a.is_paired a.pairs a.singles paired in
    rw (← c.self.view_is) (record {
      bare = rw form c.down.ensures.bare;
      changed = set_paired (λ x. x - 1) a.cells a.values a.dirs a.is_paired a.pairs _ a.singles c.args.place paired c.down.ensures.changed;
      steps = c.tick.ensures.one;
    })
