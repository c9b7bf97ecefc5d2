use Rattle.std.proofs.Common.{◌+◌, ◌*◌, ◌/◌, ◌%◌, ◌≤◌, ◌∙◌, length, set, ap, arith}
use Rattle.std.proofs.lemmas.List.{get_or_read, get_or-set_other, length-set}
use Rattle.wfc_domains.specs.Pairs.{half_at}
use Rattle.wfc_domains.proofs.PairLemmas.{paired-length, pairs-marked}
use Rattle.wfc_domains.proofs.pairs.Pairs.mark_four.Goals as goal

pub returns : goal.returns
returns c =
    let bs = c.self.inside.bytes.items in
    let start = c.args.start in
    let given = rw (← c.self.view_is) at c.requires.start_in in
    let inside : start + 4 ≤ 2 * length bs = omega (arith, given, paired-length bs) in
    let y = c.with_marks-first.result in
    let first = get_or_read bs (start / 2) c.index.result.now (omega (arith, inside)) c.index.ensures 0 in
    let second = get_or_read (set bs (start / 2) y) (start / 2 + 1) c.index-2.result.now (omega (arith, inside, length-set bs (start / 2) y)) c.index-2.ensures 0
    ∙ get_or-set_other bs (start / 2) (start / 2 + 1) y 0 (omega arith) in
    rw (← c.self.view_is) (record {
      marked = pairs-marked bs start y c.with_marks-second.result c.requires.even inside
          (λ k. c.with_marks-first.ensures.marked k ∙ ap (λ b. half_at b k % 8 + 8) first)
          (λ k. c.with_marks-second.ensures.marked k ∙ ap (λ b. half_at b k % 8 + 8) second);
    })

pub index-requires : goal.index-requires
index-requires c =
    let a = c.self.inside in
    let given = rw (← c.self.view_is) at c.requires.start_in in
    omega (arith, given, paired-length a.bytes.items, a.bytes.ok.0)

pub index_mut-requires : goal.index_mut-requires
index_mut-requires c =
    let a = c.self.inside in
    let given = rw (← c.self.view_is) at c.requires.start_in in
    omega (arith, given, paired-length a.bytes.items, a.bytes.ok.0)

pub index-requires-2 : goal.index-requires-2
index-requires-2 c =
    let a = c.self.inside in
    let given = rw (← c.self.view_is) at c.requires.start_in in
    omega (arith, given, paired-length a.bytes.items, a.bytes.ok.0)

pub index_mut-requires-2 : goal.index_mut-requires-2
index_mut-requires-2 c =
    let a = c.self.inside in
    let given = rw (← c.self.view_is) at c.requires.start_in in
    omega (arith, given, paired-length a.bytes.items, a.bytes.ok.0)
