use Rattle.std.proofs.Common.{◌≡◌, ◌*◌, true, false, length, take, get_or, map, sym, ap, ◌∙◌, arith}
use Rattle.std.specs.List.{flat_map}
use Rattle.std.proofs.lemmas.List.{take_all, length-replicate, get_or-replicate}
use Rattle.wfc_model.specs.Window.{places, starts}
use Rattle.wfc_overlap.specs.Flags.{IsTable}
use Rattle.wfc_overlap.specs.Layout.{output_of}
use Rattle.wfc_overlap.specs.Sample.{window_meets_pins}
use Rattle.wfc_overlap.proofs.FlagLemmas.{flags_are}
use Rattle.wfc_overlap.proofs.base.base.Goals as goal

pub returns : goal.returns
returns c =
    let l = c.args.layout in
    let P = c.args.patterns.now in
    let old = c.in_ok-flags.flags.items in
    let set = c.in_ok-flags.ensures.value in
    let many = c.cells.result * c.count-count.result in
    let long : length old ≡ many = ap length set ∙ length-replicate many true in
    let rows : l.rows ≡ starts l.height P.n l.wrap = l.rows_are ∙ ap (λ k. starts l.height k l.wrap) c.requires.n in
    let columns : l.columns ≡ starts l.width P.n l.wrap = l.columns_are ∙ ap (λ k. starts l.width k l.wrap) c.requires.n in
    let table : IsTable P (output_of l) old =
    long ∙ ap (λ k. k * c.count-count.result) c.cells.ensures.product ∙ ap (λ k. l.rows * l.columns * k) c.count-count.ensures.value
    ∙ ap (λ k. k * l.columns * length P.windows) rows ∙ ap (λ k. starts l.height P.n l.wrap * k * length P.windows) columns in
    let whole : take c.loop-mark.mark-index c.args.marks.now ≡ c.args.marks.now = take_all c.loop-mark.mark-index c.args.marks.now c.loop-mark-test.false in
    record {
      value =
          flags_are P (output_of l) old c.loop-mark.flags.items (λ place w. window_meets_pins l.n (output_of l) place w (take c.loop-mark.mark-index c.args.marks.now)) table
          (λ k inside. ap (λ fs. get_or fs k false) set ∙ get_or-replicate many k true false (omega (arith, long))) c.loop-mark.invariant
          ∙ ap (λ ms. flat_map (λ place. map (λ w. window_meets_pins l.n (output_of l) place w ms) P.windows) (places l.width l.height P.n l.wrap)) whole
          ∙ ap (λ k. flat_map (λ place. map (λ w. window_meets_pins l.n (output_of l) place w c.args.marks.now) P.windows) (places l.width l.height k l.wrap)) (sym c.requires.n);
    }
