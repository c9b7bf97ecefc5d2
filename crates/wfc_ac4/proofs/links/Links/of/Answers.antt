use Rattle.std.proofs.Common.{◌+◌, arith}
use Rattle.std.proofs.lemmas.Grind.{get_or_default_zero}
use Rattle.wfc_ac4.proofs.LinkLemmas.{of_within}
use Rattle.wfc_ac4.proofs.links.Links.of.Goals as goal

pub offset_bounds-deref-index : goal.offset_bounds-deref-index
offset_bounds-deref-index c =
    let w = of_within _ _ _ c.requires.linked c.requires.value_in in
    let starts = c.args.self.now.starts.items in
    let here = get_or_default_zero starts c.args.value c.index.result.now (omega (arith, c.requires.linked.whole, c.requires.value_in)) in
    omega (arith, w.0, w.1, here, c.index.ensures, c.deref.ensures.len)

pub slice_bounds-result-count : goal.slice_bounds-result-count
slice_bounds-result-count c =
    let w = of_within _ _ _ c.requires.linked c.requires.value_in in
    let starts = c.args.self.now.starts.items in
    let here = get_or_default_zero starts c.args.value c.index.result.now (omega (arith, c.requires.linked.whole, c.requires.value_in)) in
    let next = get_or_default_zero starts (c.args.value + 1) c.index-2.result.now (omega (arith, c.requires.linked.whole, c.requires.value_in)) in
    omega (arith, w.0, here, next, c.index.ensures, c.index-2.ensures)
