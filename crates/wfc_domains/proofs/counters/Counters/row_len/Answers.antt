use Rattle.std.proofs.Common.{arith}
use Rattle.wfc_domains.proofs.Loading.{row-in}
use Rattle.wfc_domains.proofs.counters.Counters.row_len.Goals as goal

pub overflow_mul-result : goal.overflow_mul-result
overflow_mul-result c =
    let a = c.self.inside in
    let some = rw (← c.self.view_is) at c.requires.some_cell in
    omega (arith, row-in a.values a.dirs a.cells 0 0 _ c.self.invariant.whole some, c.self.invariant.few)
