use Rattle.std.proofs.Common.{ℕ, List, length, map, get_or, Option, ap, sym, ◌∙◌, arith}
use Rattle.std.specs.Prelude.{unwrap_or}
use Rattle.std.proofs.lemmas.List.{length-map}
use Rattle.wfc_blocks.specs.CanvasView.{CanvasView, entry_number}
use Rattle.wfc_blocks.proofs.PaintLemmas.{entries_filled, numbers_all, numbers_more}
use Rattle.wfc_blocks.proofs.canvas.Canvas.numbers.Goals as goal

pub loop-entry-preserved : goal.loop-entry-preserved
loop-entry-preserved c =
    let so_far = rw (← c.self.view_is) at c.loop-entry.invariant in
    let k = c.loop-entry.entry-index in
    rw (← c.self.view_is) (numbers_more c.self.inside.entries.items c.loop-entry.numbers.items c.push.new.self.items k (get_or c.deref-entry-items.result.now k 0) c.unwrap_or.result
    (omega (arith, ap length c.deref-entry-items.ensures.value, c.loop-entry-test.true)) (ap (λ (es : List ℕ). get_or es k 0) (sym c.deref-entry-items.ensures.value)) so_far
    (c.unwrap_or.ensures ∙ ap (λ (o : Option ℕ). unwrap_or o 0) c.entry_number.ensures.value) c.in_ok-push.ensures.items)

pub returns : goal.returns
returns c =
    let so_far = rw (← c.self.view_is) at c.loop-entry.invariant in
    let entries = c.self.inside.entries.items in
    let view : CanvasView = record { width = c.self.inside.width; height = c.self.inside.height; cells = map entry_number entries } in
    rw (← c.self.view_is) (record {
      value = numbers_all view c.loop-entry.numbers.items c.loop-entry.entry-index (entries_filled c.self.inside.width c.self.inside.height entries c.self.invariant)
          (omega (arith, length-map entries entry_number, ap length c.deref-entry-items.ensures.value, c.loop-entry-test.false)) so_far;
    })
