use Rattle.std.proofs.Common.{◌<◌, ◌/◌, ◌%◌, ◌∙◌, ap, arith, length, sym}
use Rattle.std.specs.Prelude.{Some}
use Rattle.std.proofs.lemmas.List.{get_or_read}
use Rattle.wfc_log.specs.Tops.{top_at}
use Rattle.wfc_log.proofs.TopLemmas.{tops-at, tops-length}
use Rattle.wfc_log.proofs.tops.Tops.at.Goals as goal

pub index-requires : goal.index-requires
index-requires c =
    let a = c.self.inside in
    let h = rw (← c.self.view_is) at c.requires.index_in in
    omega (arith, h, c.self.invariant.enough, a.bytes.ok.0, tops-length a.len a.bytes.items)

pub returns : goal.returns
returns c =
    let a = c.self.inside in
    let i = c.args.index in
    let h = rw (← c.self.view_is) at c.requires.index_in in
    let small : i < a.len = omega (arith, h, tops-length a.len a.bytes.items) in
    let within : i / 4 < length a.bytes.items = omega (arith, small, c.self.invariant.enough) in
    let read = get_or_read a.bytes.items (i / 4) c.index.result.now within c.index.ensures 0 in
    rw (← c.self.view_is) (record { value = tops-at a.len a.bytes.items i small ∙ ap (λ y. Some (top_at y (i % 4))) (sym read) })
