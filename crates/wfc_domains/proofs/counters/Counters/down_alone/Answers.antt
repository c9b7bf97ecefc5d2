use Rattle.std.proofs.Common.{◌-◌, length, ◌∙◌, ap}
use Rattle.std.proofs.lemmas.List.{length-set}
use Rattle.wfc_domains.proofs.FormLemmas.{form_alone, alone_limit, set_alone, counters_alone}
use Rattle.wfc_domains.proofs.counters.Counters.down_alone.Goals as goal

pub down-requires : goal.down-requires
down-requires g c =
    let a = c.self.inside in
    let limit = rw (← c.self.view_is) at c.requires.alone in
    let form = form_alone a.is_paired a.pairs a.singles (alone_limit a.is_paired a.pairs a.singles limit) in
    record {
      place_in = rw form at (rw (← c.self.view_is) at c.requires.place_in);
      some = rw form at (rw (← c.self.view_is) at c.requires.some);
    }

pub invariant_of-self : goal.invariant_of-self
invariant_of-self g c =
    counters_alone c.self.inside _ c.self.invariant (ap (λ e. length e.entries) c.down.ensures.changed ∙ length-set _ _ _) (ap (λ e. e.limit) c.down.ensures.changed)

pub returns : goal.returns
returns g c =
    let a = c.self.inside in
    let limit = rw (← c.self.view_is) at c.requires.alone in
    let alone = alone_limit a.is_paired a.pairs a.singles limit in
    let form = form_alone a.is_paired a.pairs a.singles alone in
    rw (← c.self.view_is) (record {
      bare = rw form c.down.ensures.bare;
      changed = set_alone (λ x. x - 1) a.cells a.values a.dirs a.is_paired a.pairs a.singles _ c.args.place alone c.down.ensures.changed;
      steps = c.tick.ensures.one;
    })
