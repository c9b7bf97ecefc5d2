use Rattle.std.proofs.Common.{◌∙◌, sym, arith}
use Rattle.wfc_log.specs.Kept.{sizes_in}
use Rattle.wfc_log.proofs.NumberedLemmas.{placed-length, placed-at}
use Rattle.wfc_log.proofs.older.Older.loss.Goals as goal

pub at-requires : goal.at-requires
at-requires c =
    let a = c.self.inside in
    record { index_in = omega (arith, rw (← c.self.view_is) at c.requires.index_in, placed-length a.values a.dirs (sizes_in a) a.numbers.numbers) }

pub returns : goal.returns
returns c =
    let a = c.self.inside in
    rw (← c.self.view_is) (record { value = λ r there. c.placed_loss.ensures.value ∙ sym (placed-at a.values a.dirs (sizes_in a) a.numbers.numbers c.args.index c.at.result r c.at.ensures.value there) })
