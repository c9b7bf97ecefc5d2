use Rattle.std.proofs.Common.{arith}
use Rattle.wfc_log.proofs.TopLemmas.{tops-take}
use Rattle.wfc_log.proofs.tops.Tops.truncate.Goals as goal

pub returns : goal.returns
returns c =
    let a = c.self.inside in
    let m = c.min-self-inside.result in
    let front = tops-take a.len c.args.keep m a.bytes.items (λ l. omega (arith, l, c.min-self-inside.ensures)) (λ l. omega (arith, l, c.min-self-inside.ensures)) in
    rw (← c.self.view_is) (record { front = λ i. record { room = a.room; limit = 4; numbers = front i } })
