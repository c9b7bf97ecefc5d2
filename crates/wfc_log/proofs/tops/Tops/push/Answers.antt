use Rattle.std.proofs.Common.{◌<◌, ◌≤◌, ◌+◌, ◌/◌, ◌∙◌, ap, arith, length}
use Rattle.std.proofs.lemmas.List.{get_or_read}
use Rattle.wfc_log.specs.Tops.{top_at, tops_in}
use Rattle.wfc_log.proofs.TopLemmas.{tops-length, tops-pushed, tops-written}
use Rattle.wfc_log.proofs.tops.Tops.push.Goals as goal

pub overflow_add-self : goal.overflow_add-self
overflow_add-self c =
    let a = c.self.inside in
    let h = rw (← c.self.view_is) at c.requires.room in
    omega (arith, h, c.self.ranges, tops-length a.len a.bytes.items)

pub push_reserved-requires : goal.push_reserved-requires
push_reserved-requires c =
    let a = c.self.inside in
    let h = rw (← c.self.view_is) at c.requires.room in
    omega (arith, h, c.if-at-len.false, c.len.ensures, a.bytes.ok.0, c.self.invariant.enough, c.self.invariant.bytes_fit, tops-length a.len a.bytes.items)

pub returns-then-at-len : goal.returns-then-at-len
returns-then-at-len c =
    let a = c.self.inside in
    let n = a.len in
    let within : n / 4 < length a.bytes.items = omega (arith, c.if-at-len.true, c.len.ensures, a.bytes.ok.0) in
    let read = get_or_read a.bytes.items (n / 4) c.index.result.now within c.index.ensures 0 in
    let more = tops-written n c.args.top c.with_top.result a.bytes.items within c.with_top.ensures.here (λ k l. c.with_top.ensures.before k l ∙ ap (λ y. top_at y k) read) in
    rw (← c.self.view_is) (record { more = λ i. record { room = a.room; limit = 4; numbers = more i } })

pub returns-else-at-len : goal.returns-else-at-len
returns-else-at-len c =
    let a = c.self.inside in
    let full : length a.bytes.items ≤ a.len / 4 = omega (arith, c.if-at-len.false, c.len.ensures, a.bytes.ok.0) in
    let more = ap (tops_in (a.len + 1)) c.push_reserved.ensures.items ∙ tops-pushed a.len c.args.top a.bytes.items c.self.invariant.enough full c.requires.few in
    rw (← c.self.view_is) (record { more = λ i. record { room = a.room; limit = 4; numbers = more i } })
