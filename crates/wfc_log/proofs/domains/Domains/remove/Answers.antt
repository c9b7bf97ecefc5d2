use Rattle.std.proofs.Common.{◌-◌, ◌+◌, ◌*◌, false, length, set, refl, sym, ◌∙◌, ap, subst}
use Rattle.std.proofs.lemmas.List.{length-set, get_or_read}
use Rattle.wfc_log.specs.Domains.{Flags, IsLess}
use Rattle.wfc_log.specs.Sized.{AreSizes}
use Rattle.wfc_log.proofs.Rows.{sizes-removed, flag-removed}
use Rattle.wfc_log.proofs.domains.Domains.remove.Goals as goal

pub invariant_of-self : goal.invariant_of-self
invariant_of-self c =
    let a = c.self.inside in
    let t = rw (← c.self.view_is) at c.requires.stands in
    let hc = rw (← c.self.view_is) at c.requires.cell_in in
    let hv = rw (← c.self.view_is) at c.requires.value_in in
    let place = rw (← c.self.view_is) at c.place-place.ensures.value in
    let written = c.clear.ensures.clear ∙ ap (λ k. set a.flags k false) place in
    let read = get_or_read a.sizes.items c.args.cell c.index_mut.result.now hc c.index_mut.ensures.value 0 in
    subst (λ fs. AreSizes a.values fs (set a.sizes.items c.args.cell (c.index_mut.result.now - 1))) (sym written)
    (sizes-removed a.values a.flags a.sizes.items c.args.cell c.args.value c.index_mut.result.now c.self.invariant hc hv t read)

pub returns : goal.returns
returns c =
    let a = c.self.inside in
    let t = rw (← c.self.view_is) at c.requires.stands in
    let hv = rw (← c.self.view_is) at c.requires.value_in in
    let place = rw (← c.self.view_is) at c.place-place.ensures.value in
    let written = c.clear.ensures.clear ∙ ap (λ k. set a.flags k false) place in
    let sizes = set a.sizes.items c.args.cell (c.index_mut.result.now - 1) in
    let old : Flags = record { cells = length a.sizes.items; values = a.values; flags = a.flags } in
    let less : IsLess old (record { cells = length sizes; values = a.values; flags = set a.flags (c.args.cell * a.values + c.args.value) false }) c.args.cell c.args.value = record {
      same_cells = length-set a.sizes.items c.args.cell (c.index_mut.result.now - 1);
      same_values = refl;
      same_length = length-set a.flags (c.args.cell * a.values + c.args.value) false;
      stood = t;
      each = λ i c' v'. flag-removed a.values a.flags c.args.cell c.args.value c' v' hv t i;
    } in
    rw (← c.self.view_is) (record { less = subst (λ fs. IsLess old (record { cells = length sizes; values = a.values; flags = fs }) c.args.cell c.args.value) (sym written) less })
