use Rattle.std.proofs.Common.{arith}
use Rattle.wfc_domains.proofs.Places.{rows_in}
use Rattle.wfc_domains.proofs.counters.Counters.first_place.Goals as goal

pub overflow_mul-result : goal.overflow_mul-result
overflow_mul-result c =
    let a = c.self.inside in
    let hc = rw (← c.self.view_is) at c.requires.cell_in in
    let hv = rw (← c.self.view_is) at c.requires.value_in in
    let h = c.self.invariant in
    omega (arith, rows_in a.values a.dirs c.args.cell c.args.value a.cells hc hv (h.sides (omega (arith, hc))), h.whole, h.few)

pub overflow_add-result : goal.overflow_add-result
overflow_add-result c =
    let a = c.self.inside in
    let hc = rw (← c.self.view_is) at c.requires.cell_in in
    let hv = rw (← c.self.view_is) at c.requires.value_in in
    let h = c.self.invariant in
    omega (arith, rows_in a.values a.dirs c.args.cell c.args.value a.cells hc hv (h.sides (omega (arith, hc))), h.whole, h.few)

pub overflow_mul-result-2 : goal.overflow_mul-result-2
overflow_mul-result-2 c =
    let a = c.self.inside in
    let hc = rw (← c.self.view_is) at c.requires.cell_in in
    let hv = rw (← c.self.view_is) at c.requires.value_in in
    let h = c.self.invariant in
    omega (arith, rows_in a.values a.dirs c.args.cell c.args.value a.cells hc hv (h.sides (omega (arith, hc))), h.whole, h.few)

pub returns : goal.returns
returns c =
    let a = c.self.inside in
    let hc = rw (← c.self.view_is) at c.requires.cell_in in
    let hv = rw (← c.self.view_is) at c.requires.value_in in
    let h = c.self.invariant in
    rw (← c.self.view_is) (record {
      value = omega arith;
      inside = omega (arith, rows_in a.values a.dirs c.args.cell c.args.value a.cells hc hv (h.sides (omega (arith, hc))), h.whole);
      few = h.few;
    })
