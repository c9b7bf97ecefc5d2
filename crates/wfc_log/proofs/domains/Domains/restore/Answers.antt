use Rattle.std.proofs.Common.{◌<◌, ◌+◌, ◌*◌, true, length, set, refl, sym, ◌∙◌, ap, subst, arith}
use Rattle.std.proofs.lemmas.List.{length-set, get_or_read}
use Rattle.std.proofs.lemmas.Bool.{cond-true}
use Rattle.wfc_problem.specs.Network.{row_of}
use Rattle.wfc_log.specs.Domains.{Flags, IsLess}
use Rattle.wfc_log.specs.Sized.{AreSizes}
use Rattle.wfc_problem.proofs.CallerLemmas.{flag-set, length-row_of}
use Rattle.wfc_log.proofs.Rows.{sizes-restored, flag-restored, same_place}
use Rattle.wfc_log.proofs.domains.Domains.restore.Goals as goal

pub invariant_of-self : goal.invariant_of-self
invariant_of-self c =
    let a = c.self.inside in
    let t = rw (← c.self.view_is) at c.requires.gone in
    let hc = rw (← c.self.view_is) at c.requires.cell_in in
    let hv = rw (← c.self.view_is) at c.requires.value_in in
    let place = rw (← c.self.view_is) at c.place-place.ensures.value in
    let written = c.set.ensures.set ∙ ap (λ k. set a.flags k true) place in
    let read = get_or_read a.sizes.items c.args.cell c.index_mut.result.now hc c.index_mut.ensures.value 0 in
    subst (λ fs. AreSizes a.values fs (set a.sizes.items c.args.cell (c.index_mut.result.now + 1))) (sym written)
    (sizes-restored a.values a.flags a.sizes.items c.args.cell c.args.value c.index_mut.result.now c.self.invariant hc hv t read)

pub returns : goal.returns
returns c =
    let a = c.self.inside in
    let t = rw (← c.self.view_is) at c.requires.gone in
    let hc = rw (← c.self.view_is) at c.requires.cell_in in
    let hv = rw (← c.self.view_is) at c.requires.value_in in
    let place = rw (← c.self.view_is) at c.place-place.ensures.value in
    let written = c.set.ensures.set ∙ ap (λ k. set a.flags k true) place in
    let sizes = set a.sizes.items c.args.cell (c.index_mut.result.now + 1) in
    let old : Flags = record { cells = length a.sizes.items; values = a.values; flags = a.flags } in
    let hr : c.args.value < length (row_of a.values a.flags c.args.cell) = omega (arith, length-row_of a.values a.flags c.args.cell (length a.sizes.items) c.self.invariant.rows hc) in
    let less : IsLess (record { cells = length sizes; values = a.values; flags = set a.flags (c.args.cell * a.values + c.args.value) true }) old c.args.cell c.args.value = record {
      same_cells = sym (length-set a.sizes.items c.args.cell (c.index_mut.result.now + 1));
      same_values = refl;
      same_length = sym (length-set a.flags (c.args.cell * a.values + c.args.value) true);
      stood = flag-set a.values a.flags c.args.cell c.args.value true c.args.cell c.args.value hv hr ∙ cond-true _ _ _ (same_place c.args.cell c.args.value);
      each = λ i c' v'. flag-restored a.values a.flags c.args.cell c.args.value c' v' hv hr t i;
    } in
    rw (← c.self.view_is) (record { less = subst (λ fs. IsLess (record { cells = length sizes; values = a.values; flags = fs }) old c.args.cell c.args.value) (sym written) less })
