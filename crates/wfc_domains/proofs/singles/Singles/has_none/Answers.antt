use Rattle.std.proofs.Common.{◌≡◌, ◌<◌, ◌≤◌, ◌+◌, ◌-◌, ◌%◌, length, get_or, take, drop, ap, ◌∙◌, arith}
use Rattle.wfc_domains.proofs.PairLemmas.{part-read}
use Rattle.wfc_domains.proofs.HalfLemmas.{halves-length, rest-some}
use Rattle.wfc_domains.proofs.singles.Singles.has_none.Goals as goal

pub overflow_add-start : goal.overflow_add-start
overflow_add-start c =
    let a = c.self.inside in
    let given = rw (← c.self.view_is) at c.requires.start_in in
    omega (arith, given, halves-length a.small.items a.large.items, a.small.ok.0, a.small.small)

pub slice_bounds-has_zero-end : goal.slice_bounds-has_zero-end
slice_bounds-has_zero-end c =
    let a = c.self.inside in
    let given = rw (← c.self.view_is) at c.requires.start_in in
    omega (arith, given, halves-length a.small.items a.large.items, ap length c.deref.ensures.value)

pub returns : goal.returns
returns c =
    let a = c.self.inside in
    let ss = a.small.items in
    let ls = a.large.items in
    let start = c.args.start in
    let row = c.args.row in
    let given = rw (← c.self.view_is) at c.requires.start_in in
    let inside : start + row ≤ length ss = omega (arith, given, halves-length ss ls) in
    rw (← c.self.view_is) (record {
      some = λ none i l.
          let read = part-read c.deref.result.now start row i l (omega (arith, inside, ap length c.deref.ensures.value)) in
          let pos = c.has_zero.ensures.none none i read.0 in
          let part : get_or (take (start + row - start) (drop start c.deref.result.now)) i 0 ≡ get_or ss (start + i) 0 = read.1 ∙ ap (λ xs. get_or xs (start + i) 0) c.deref.ensures.value in
          let small : 0 < get_or ss (start + i) 0 % 128 = omega (arith, pos, ap (λ x. x % 128) part) in
          rest-some ss ls (start + i) (omega (arith, l, inside)) (c.self.invariant.each (start + i)) small;
    })
