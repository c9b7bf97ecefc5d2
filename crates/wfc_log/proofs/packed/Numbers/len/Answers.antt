use Rattle.std.proofs.Common.{arith}
use Rattle.wfc_log.proofs.PackedLemmas.{packed-length}
use Rattle.wfc_log.proofs.packed.Numbers.len.Goals as goal

pub returns : goal.returns
returns c =
    let a = c.self.inside in
    rw (← c.self.view_is) (record { value = omega (arith, c.len.ensures, a.lows.ok.0, packed-length a c.self.invariant) })
