use Rattle.std.proofs.Common.{arith}
use Rattle.wfc_log.specs.Kept.{sizes_in}
use Rattle.wfc_log.proofs.NumberedLemmas.{placed-length}
use Rattle.wfc_log.proofs.older.Older.len.Goals as goal

pub returns : goal.returns
returns c =
    let a = c.self.inside in
    rw (← c.self.view_is) (record { value = omega (arith, c.len.ensures.value, placed-length a.values a.dirs (sizes_in a) a.numbers.numbers) })
