use Rattle.std.proofs.Common.{◌≡◌, ◌<◌, ◌++◌, List, ℕ, length, map, sym, subst, ap, ◌∙◌, arith}
use Rattle.std.specs.List.{flat_map, range_with_len}
use Rattle.std.proofs.lemmas.List.FromFn.{length-map-range_with_len}
use Rattle.wfc_model.specs.Legal.{IsLegalPicture}
use Rattle.wfc_model.specs.Window.{window}
use Rattle.wfc_overlap.specs.Bridge.{pixel_of}
use Rattle.wfc_overlap.specs.Layout.{output_of}
use Rattle.wfc_overlap.specs.Sample.{Output, output_with}
use Rattle.wfc_overlap.proofs.BackLemmas.{window-is}
use Rattle.wfc_overlap.proofs.PaintLemmas.{as_many, painted_is}
use Rattle.wfc_lists.proofs.Ranges.{lists_more}
use Rattle.wfc_overlap.proofs.RuleLemmas.{back}
use Rattle.wfc_overlap.proofs.painting.picture_of.Goals as goal

pub loop-y-preserved : goal.loop-y-preserved
loop-y-preserved c =
    let P = c.args.patterns.now in
    let a = c.args.assignment.now in
    let o = output_with c.args.width c.args.height c.args.wrap in
    let y = c.loop-y.y in
    let F : Output → ℕ → List ℕ = λ o y. map (λ x. pixel_of P o a x y) (range_with_len 0 o.width) in
    c.in_ok-push_row.ensures.row
    ∙ ap (λ t. t ++ F (output_of c.new-layout.result) y) c.loop-y.invariant
    ∙ ap (λ l. flat_map (F o) (range_with_len 0 y) ++ F l y) c.new-layout.ensures.output
    ∙ sym (lists_more (F o) y)

pub picture_from-requires : goal.picture_from-requires
picture_from-requires c =
    let P = c.args.patterns.now in
    let a = c.args.assignment.now in
    let o = output_with c.args.width c.args.height c.args.wrap in
    let w = c.args.width in
    let R : ℕ → List ℕ = λ y. map (λ x. pixel_of P o a x y) (range_with_len 0 w) in
    let each : (y : ℕ) → length (R y) ≡ w = λ y. length-map-range_with_len (λ x. pixel_of P o a x y) 0 w in
    let last : c.loop-y.y ≡ c.args.height = omega arith in
    record {
      filled = record {
        some_column = omega (arith, c.requires.wide, c.n.ensures.patterns.some_side);
        some_row = omega (arith, c.requires.high, c.n.ensures.patterns.some_side);
        as_many = as_many w c.args.height R each c.loop-y.numbers.items (c.loop-y.invariant ∙ ap (λ k. flat_map R (range_with_len 0 k)) last);
      };
    }

pub returns-clause-exact : goal.returns-clause-exact
returns-clause-exact c =
    let P = c.args.patterns.now in
    let a = c.args.assignment.now in
    let o = output_with c.args.width c.args.height c.args.wrap in
    let w = c.args.width in
    let R : ℕ → List ℕ = λ y. map (λ x. pixel_of P o a x y) (range_with_len 0 w) in
    let each : (y : ℕ) → length (R y) ≡ w = λ y. length-map-range_with_len (λ x. pixel_of P o a x y) 0 w in
    let last : c.loop-y.y ≡ c.args.height = omega arith in
    let wide : 0 < w = omega (arith, c.requires.wide, c.n.ensures.patterns.some_side) in
    let high : 0 < c.args.height = omega (arith, c.requires.high, c.n.ensures.patterns.some_side) in
    c.picture_from.ensures.value ∙ painted_is w c.args.height R each c.loop-y.numbers.items wide high (c.loop-y.invariant ∙ ap (λ k. flat_map R (range_with_len 0 k)) last)

pub returns-clause-legal : goal.returns-clause-legal
returns-clause-legal c = λ sample rules pins room by inside legal.
    subst (IsLegalPicture sample rules pins c.args.width c.args.height) (sym (returns-clause-exact c))
    (back sample rules c.args.patterns.now (output_with c.args.width c.args.height c.args.wrap) pins c.args.assignment.now c.n.ensures.patterns room by inside legal)

pub returns-clause-windows : goal.returns-clause-windows
returns-clause-windows c = λ pins room legal x y x_in y_in.
    ap (λ m. window m x y c.args.patterns.now.n) (returns-clause-exact c)
    ∙ window-is c.args.patterns.now (output_with c.args.width c.args.height c.args.wrap) pins c.args.assignment.now c.n.ensures.patterns room legal x y x_in y_in
