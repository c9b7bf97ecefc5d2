use Rattle.std.proofs.Common.{◌*◌, ◌≤◌, ◌+◌, length, ap, arith}
use Rattle.wfc_domains.proofs.PairLemmas.{paired-length, pairs-positive}
use Rattle.wfc_domains.proofs.pairs.Pairs.has_none.Goals as goal

pub slice_bounds-has_zero_half-end : goal.slice_bounds-has_zero_half-end
slice_bounds-has_zero_half-end c =
    let bs = c.self.inside.bytes.items in
    let given = rw (← c.self.view_is) at c.requires.start_in in
    omega (arith, given, paired-length bs, ap length c.deref.ensures.value, c.requires.even.0, c.requires.even.1)

pub returns : goal.returns
returns c =
    let bs = c.self.inside.bytes.items in
    let given = rw (← c.self.view_is) at c.requires.start_in in
    let inside : c.args.start + c.args.row ≤ 2 * length bs = omega (arith, given, paired-length bs) in
    rw (← c.self.view_is) (record {
      some = λ none. pairs-positive bs c.deref.result.now c.args.start c.args.row c.deref.ensures.value c.requires.even.0 c.requires.even.1 inside (c.has_zero_half.ensures.none none);
    })
