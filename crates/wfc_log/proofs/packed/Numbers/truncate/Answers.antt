use Rattle.std.proofs.Common.{◌∙◌, ap}
use Rattle.wfc_log.specs.Numbered.{limit_of, packed_numbers}
use Rattle.wfc_log.proofs.PackedLemmas.{packed-take}
use Rattle.wfc_log.proofs.packed.Numbers.truncate.Goals as goal

pub returns : goal.returns
returns c =
    let a = c.self.inside in
    let lows = c.truncate.ensures.items in
    let bytes = c.truncate-2.ensures.items in
    let tops = ap (λ z. z.numbers) c.truncate-3.ensures.front in
    let front = (λ i. packed_numbers a.wide (lows i) (bytes i) (tops i)) ∙ packed-take a.wide c.args.keep a.lows.items a.bytes.items a.tops.numbers in
    rw (← c.self.view_is) (record { front = λ i. record { room = a.room; limit = limit_of a.wide; numbers = front i } })
