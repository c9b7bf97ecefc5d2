use Rattle.std.proofs.Common.{◌≡◌, ℕ, ◌*◌, ◌++◌, List, drop, take, false, sym, ap, ◌∙◌, arith}
use Rattle.std.specs.List.{flat_map, range_with_len}
use Rattle.wfc_model.specs.Raster.{raster_of}
use Rattle.wfc_lists.proofs.Ranges.{lists_more}
use Rattle.wfc_box.specs.BoxText.{layer_text}
use Rattle.wfc_box.proofs.TextLemmas.{layer_written, text_of_layers}
use Rattle.wfc_box.proofs.text.box_bytes.Goals as goal

pub push_layer-requires : goal.push_layer-requires
push_layer-requires c =
    let a = c.args.assignment.now in
    let z = c.loop-layer.layer in
    let cells : c.layer_cells-cells.result.now ≡ take (c.args.width * c.args.height) (drop (z * (c.args.width * c.args.height)) a) =
    c.layer_cells-cells.ensures.value ∙ ap (λ (n : ℕ). take n (drop (z * n) a)) c.area-area.ensures.value in
    record {
      written = layer_written c.args.form c.args.tiles.now c.args.width c.args.height c.args.depth a c.layer_cells-cells.result.now z (omega arith) c.requires.written cells;
    }

pub loop-layer-preserved : goal.loop-layer-preserved
loop-layer-preserved c =
    let a = c.args.assignment.now in
    let z = c.loop-layer.layer in
    let A = c.args.width * c.args.height in
    let F : ℕ → List ℕ = λ z. layer_text c.args.form c.args.tiles.now z (raster_of c.args.width c.args.height (take A (drop (z * A) a))) in
    let cells : c.layer_cells-cells.result.now ≡ take A (drop (z * A) a) = c.layer_cells-cells.ensures.value ∙ ap (λ (n : ℕ). take n (drop (z * n) a)) c.area-area.ensures.value in
    c.in_ok-push_layer.ensures.layer
    ∙ ap (λ (t : List ℕ). t ++ layer_text c.args.form c.args.tiles.now z (raster_of c.args.width c.args.height c.layer_cells-cells.result.now)) c.loop-layer.invariant
    ∙ ap (λ (cs : List ℕ). flat_map F (range_with_len 0 z) ++ layer_text c.args.form c.args.tiles.now z (raster_of c.args.width c.args.height cs)) cells
    ∙ sym (lists_more F z)

pub returns : goal.returns
returns c =
    let a = c.args.assignment.now in
    let A = c.args.width * c.args.height in
    let F : ℕ → List ℕ = λ z. layer_text c.args.form c.args.tiles.now z (raster_of c.args.width c.args.height (take A (drop (z * A) a))) in
    let last : c.loop-layer.layer ≡ c.args.depth = omega arith in
    record {
      text = c.loop-layer.invariant ∙ ap (λ (n : ℕ). flat_map F (range_with_len 0 n)) last
          ∙ text_of_layers c.args.form c.args.tiles.now c.args.width c.args.height c.args.depth false a;
    }
