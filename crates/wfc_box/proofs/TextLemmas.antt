-- The layouts and the texts of boxes, layer by layer.
use Rattle.std.proofs.Common.{◌≡◌, ℕ, zero, suc, ◌+◌, ◌*◌, ◌<◌, ◌≤◌, ◌⊎◌, Bool, inl, inr, List, [], ◌++◌, length, get_or, take, drop, Option, None, Some, Ok, Err, refl, sym, subst, ap, ◌∙◌, arith, zero-add}
use Rattle.std.specs.Prelude.{All, nat_lt}
use Rattle.std.specs.List.{flat_map, range_with_len}
use Rattle.std.proofs.lemmas.Bool.{cases_lt, cond-true, cond-false, lt-ltb, le-ltb}
use Rattle.std.proofs.lemmas.List.{get_or_default, get_or-take, get_or-drop, length-take, length-drop}
use Rattle.std.proofs.lemmas.List.FromFn.{length-map-range_with_len, get_or-map-range_with_len}
use Rattle.std.proofs.Math.Nat.{mul-le-mul_right}
use Rattle.wfc_lists.proofs.Rows.{rows_same}
use Rattle.wfc_model.specs.Raster.{Raster, raster_of}
use Rattle.wfc_picture.specs.declared.symbol.Kind.{Kind}
use Rattle.wfc_picture.specs.declared.symbol.Kind.TheVariants as kinds
use Rattle.wfc_render.specs.Layout.{layout_of, pixel_count, unless_large}
use Rattle.wfc_render.specs.Tiled.{IsTiled}
use Rattle.wfc_render.specs.declared.form.Form.{Form}
use Rattle.wfc_render.specs.declared.form.Form.TheVariants.{P6, P3, Grid, Cells}
use Rattle.wfc_render.specs.declared.form.Layout.{Layout}
use Rattle.wfc_render.specs.declared.form.RenderFault.TheVariants.{TooLarge}
use Rattle.wfc_render.specs.declared.layouts.TheConstants.{MAX_MAP_PIXELS}
use Rattle.wfc_render.proofs.CallerLemmas.{written_tiles}
use Rattle.wfc_problem.specs.Assignment.{IsLegalAssignment}
use Rattle.wfc_problem.specs.Network.{IsProblem}
use Rattle.wfc_problem.proofs.CallerLemmas.{base_inside}
use Rattle.wfc_tileset.specs.Pictures.{IsPictured, kind_of, side_of}
use Rattle.wfc_tileset.specs.Tiles.{TileSetView, variant_total}
use Rattle.wfc_box.specs.BoxText.{box_layout_of, box_pixels_of, box_text, form_unless_large, layer_text}
use Rattle.wfc_box.specs.Boxes.{IsFrame, LayerPin, box_of, frame_of, layer_at}
use Rattle.wfc_box.specs.BoxProblem.{problem_of_box}
use Rattle.wfc_box.specs.declared.frame.Frame.{Frame}
use Rattle.wfc_box.proofs.BoxLemmas.{length-weights}
use Rattle.wfc_box.specs.Written.{IsWrittenBox, layer_layout}

-- ---- the layout of a layer

-- a form that is answered comes with few enough pixels
few_pixels : (form : Form) (pixels : ℕ) → form_unless_large form pixels ≡ Ok form → pixels ≤ MAX_MAP_PIXELS
few_pixels form pixels is = elim (cases_lt MAX_MAP_PIXELS pixels) [
  | inl more ↦
      let large : form_unless_large form pixels ≡ Err (TooLarge pixels) = cond-true (nat_lt MAX_MAP_PIXELS pixels) (Err (TooLarge pixels)) (Ok form) (lt-ltb MAX_MAP_PIXELS pixels more) in
      cc
  | inr le ↦ le
]

-- the same where the form is one that is answered
form_is : (form answer : Form) (pixels : ℕ) → form_unless_large form pixels ≡ Ok answer → form ≡ answer
form_is form answer pixels is = elim (cases_lt MAX_MAP_PIXELS pixels) [
  | inl more ↦
      let large : form_unless_large form pixels ≡ Err (TooLarge pixels) = cond-true (nat_lt MAX_MAP_PIXELS pixels) (Err (TooLarge pixels)) (Ok form) (lt-ltb MAX_MAP_PIXELS pixels more) in
      cc
  | inr le ↦
      let small : form_unless_large form pixels ≡ Ok form = cond-false (nat_lt MAX_MAP_PIXELS pixels) (Err (TooLarge pixels)) (Ok form) (le-ltb MAX_MAP_PIXELS pixels le) in
      cc
]

few_pixels_of : (form answer : Form) (pixels : ℕ) → form_unless_large form pixels ≡ Ok answer → pixels ≤ MAX_MAP_PIXELS
few_pixels_of form answer pixels is = few_pixels form pixels (is ∙ ap Ok (sym (form_is form answer pixels is)))

-- and the other way
unless_few : (l : Layout) (pixels : ℕ) → pixels ≤ MAX_MAP_PIXELS → unless_large l pixels ≡ Ok l
unless_few l pixels few = cond-false (nat_lt MAX_MAP_PIXELS pixels) (Err (TooLarge pixels)) (Ok l) (le-ltb MAX_MAP_PIXELS pixels few)

form_few : (form : Form) (pixels : ℕ) → pixels ≤ MAX_MAP_PIXELS → form_unless_large form pixels ≡ Ok form
form_few form pixels few = cond-false (nat_lt MAX_MAP_PIXELS pixels) (Err (TooLarge pixels)) (Ok form) (le-ltb MAX_MAP_PIXELS pixels few)

-- a layer has no more pixels than the box
fewer : (w h d side : ℕ) → 0 < d → box_pixels_of w h d side ≤ MAX_MAP_PIXELS → pixel_count w h side ≤ MAX_MAP_PIXELS
fewer w h d side some few =
    let one : 1 * (w * h) ≤ d * (w * h) = mul-le-mul_right (w * h) some in
    let all : (w * h) * (side * side) ≤ (d * (w * h)) * (side * side) = mul-le-mul_right (side * side) (omega (arith, one)) in
    omega (arith, all, few)

-- the form of a box is one of its layers
layer_fits : (kind : Kind) (form : Form) (w h d side : ℕ) → 0 < d → box_layout_of kind (Some form) w h d side ≡ Ok form
    → layout_of kind (Some form) w h side ≡ Ok (record { kind = kind; form = form; width = w; height = h; side = side })
layer_fits kinds.Grid P6 w h d side some is = cc
layer_fits kinds.Grid P3 w h d side some is = cc
layer_fits kinds.Grid Grid w h d side some is = unless_few _ _ (fewer w h d side some (few_pixels Grid _ is))
layer_fits kinds.Grid Cells w h d side some is = unless_few _ _ (fewer w h d side some (few_pixels Cells _ is))
layer_fits (kinds.Ppm maxval) P6 w h d side some is = cc
layer_fits (kinds.Ppm maxval) P3 w h d side some is = cc
layer_fits (kinds.Ppm maxval) Grid w h d side some is = cc
layer_fits (kinds.Ppm maxval) Cells w h d side some is = unless_few _ _ (fewer w h d side some (few_pixels Cells _ is))
layer_fits kinds.Plain P6 w h d side some is = cc
layer_fits kinds.Plain P3 w h d side some is = cc
layer_fits kinds.Plain Grid w h d side some is = cc
layer_fits kinds.Plain Cells w h d side some is = unless_few _ _ (fewer w h d side some (few_pixels Cells _ is))

-- and is that of a box of one layer
one_layer : (kind : Kind) (form : Form) (w h d side : ℕ) → 0 < d → box_layout_of kind (Some form) w h d side ≡ Ok form → box_layout_of kind (Some form) w h 1 side ≡ Ok form
one_layer kind form w h d side some is = by kind form is
  where
    low : (form : Form) → form_unless_large form (box_pixels_of w h d side) ≡ Ok form → form_unless_large form (box_pixels_of w h 1 side) ≡ Ok form
    low form is =
        let few = fewer w h d side some (few_pixels form _ is) in
        let same : 1 * (w * h) ≡ w * h = omega arith in
        form_few form (box_pixels_of w h 1 side) (subst (λ k. k * (side * side) ≤ MAX_MAP_PIXELS) (sym same) few)

    by : (kind : Kind) (form : Form) → box_layout_of kind (Some form) w h d side ≡ Ok form → box_layout_of kind (Some form) w h 1 side ≡ Ok form
    by kinds.Grid P6 is = cc
    by kinds.Grid P3 is = cc
    by kinds.Grid Grid is = low Grid is
    by kinds.Grid Cells is = low Cells is
    by (kinds.Ppm maxval) P6 is = cc
    by (kinds.Ppm maxval) P3 is = cc
    by (kinds.Ppm maxval) Grid is = cc
    by (kinds.Ppm maxval) Cells is = low Cells is
    by kinds.Plain P6 is = cc
    by kinds.Plain P3 is = cc
    by kinds.Plain Grid is = cc
    by kinds.Plain Cells is = low Cells is

-- a layer is a map that is written
pub layer_tiled : (form : Form) (set : TileSetView) (w h : ℕ) (a : List ℕ) → IsWrittenBox form set w h 1 a → IsTiled (layer_layout form set w h) set (raster_of w h a)
layer_tiled form set w h a is =
    let one : 1 * (w * h) ≡ w * h = omega arith in
    written_tiles set w h a (layer_layout form set w h) (record { some_column = is.some_width; some_row = is.some_height; as_many = is.each_cell ∙ one })
    is.width_limit is.height_limit (λ k d inside. inl (is.numbers k d inside))
    (layer_fits (kind_of set.pictures) form w h 1 (side_of set.pictures) (omega arith) is.answered) refl refl refl is.pictured

-- the entries of a layer are written as a box of one layer
pub layer_written : (form : Form) (set : TileSetView) (w h d : ℕ) (a cells : List ℕ) (z : ℕ) → z < d → IsWrittenBox form set w h d a
    → cells ≡ take (w * h) (drop (z * (w * h)) a) → IsWrittenBox form set w h 1 cells
layer_written form set w h d a cells z layer is same = record {
  some_width = is.some_width;
  some_height = is.some_height;
  some_depth = omega arith;
  width_limit = is.width_limit;
  height_limit = is.height_limit;
  depth_limit = omega arith;
  answered = one_layer (kind_of set.pictures) form w h d (side_of set.pictures) is.some_depth is.answered;
  pictured = is.pictured;
  each_cell = ap length same ∙ many;
  numbers = subst (All (λ v. v < variant_total set.tiles)) (sym same) (λ k e inside.
      let within : k < w * h = omega (arith, many) in
      subst (λ v. v < variant_total set.tiles) (sym (get_or-take (w * h) (drop (z * (w * h)) a) k e within ∙ get_or-drop (z * (w * h)) a k e))
      (is.numbers (z * (w * h) + k) e (omega (arith, is.each_cell, rows, next))));
}
  where
    rows : (z + 1) * (w * h) ≤ d * (w * h)
    rows = mul-le-mul_right (w * h) (omega arith)

    next : (z + 1) * (w * h) ≡ z * (w * h) + w * h
    next = omega arith

    many : length (take (w * h) (drop (z * (w * h)) a)) ≡ 1 * (w * h)
    many = omega (arith, rows, next, is.each_cell, length-take (w * h) (drop (z * (w * h)) a), length-drop (z * (w * h)) a)

-- ---- the text

-- the text of the layers that an assignment makes is that of its box
pub text_of_layers : (form : Form) (set : TileSetView) (w h d : ℕ) (wrap : Bool) (a : List ℕ)
    → flat_map (λ z. layer_text form set z (raster_of w h (take (w * h) (drop (z * (w * h)) a)))) (range_with_len 0 d) ≡ box_text form set (box_of (frame_of w h d wrap) a)
text_of_layers form set w h d wrap a =
    let F : ℕ → Raster = λ z. raster_of w h (take (w * h) (drop (z * (w * h)) a)) in
    let box = box_of (frame_of w h d wrap) a in
    let deep : length box ≡ d = length-map-range_with_len F 0 d in
    rows_same (λ z. layer_text form set z (F z)) (λ z. layer_text form set z (layer_at box z)) 0 d (λ z low high.
    ap (layer_text form set z) (sym (get_or-map-range_with_len F 0 d z z (raster_of 0 0 []) (omega arith) (zero-add z))))
    ∙ ap (λ n. flat_map (λ z. layer_text form set z (layer_at box z)) (range_with_len 0 n)) (sym deep)

-- ---- what a command cites

-- the form that is answered is answered again when it is asked for
pub answered_again : (kind : Kind) (asked : Option Form) (form : Form) (w h d side : ℕ) → box_layout_of kind asked w h d side ≡ Ok form → box_layout_of kind (Some form) w h d side ≡ Ok form
answered_again kinds.Grid None form w h d side is = subst (λ f. box_layout_of kinds.Grid (Some f) w h d side ≡ Ok f) (form_is Grid form _ is) (form_few Grid _ (few_pixels_of Grid form _ is))
answered_again (kinds.Ppm maxval) None form w h d side is = subst (λ f. box_layout_of (kinds.Ppm maxval) (Some f) w h d side ≡ Ok f) (form_is Cells form _ is) (form_few Cells _ (few_pixels_of Cells form _ is))
answered_again kinds.Plain None form w h d side is = subst (λ f. box_layout_of kinds.Plain (Some f) w h d side ≡ Ok f) (form_is Cells form _ is) (form_few Cells _ (few_pixels_of Cells form _ is))
answered_again kinds.Grid (Some P6) form w h d side is = cc
answered_again kinds.Grid (Some P3) form w h d side is = cc
answered_again kinds.Grid (Some Grid) form w h d side is = subst (λ f. box_layout_of kinds.Grid (Some f) w h d side ≡ Ok f) (form_is Grid form _ is) (form_few Grid _ (few_pixels_of Grid form _ is))
answered_again kinds.Grid (Some Cells) form w h d side is = subst (λ f. box_layout_of kinds.Grid (Some f) w h d side ≡ Ok f) (form_is Cells form _ is) (form_few Cells _ (few_pixels_of Cells form _ is))
answered_again (kinds.Ppm maxval) (Some P6) form w h d side is = cc
answered_again (kinds.Ppm maxval) (Some P3) form w h d side is = cc
answered_again (kinds.Ppm maxval) (Some Grid) form w h d side is = cc
answered_again (kinds.Ppm maxval) (Some Cells) form w h d side is = subst (λ f. box_layout_of (kinds.Ppm maxval) (Some f) w h d side ≡ Ok f) (form_is Cells form _ is) (form_few Cells _ (few_pixels_of Cells form _ is))
answered_again kinds.Plain (Some P6) form w h d side is = cc
answered_again kinds.Plain (Some P3) form w h d side is = cc
answered_again kinds.Plain (Some Grid) form w h d side is = cc
answered_again kinds.Plain (Some Cells) form w h d side is = subst (λ f. box_layout_of kinds.Plain (Some f) w h d side ≡ Ok f) (form_is Cells form _ is) (form_few Cells _ (few_pixels_of Cells form _ is))

-- a legal assignment is written in the form of its layout
pub assignment_written : (set : TileSetView) (stacked : List (ℕ × ℕ)) (frame : Frame) (pins : List LayerPin) (a : List ℕ) (form : Form) → IsFrame frame
    → IsProblem (problem_of_box set stacked frame pins) → IsLegalAssignment (problem_of_box set stacked frame pins) a
    → box_layout_of (kind_of set.pictures) (Some form) frame.width frame.height frame.depth (side_of set.pictures) ≡ Ok form
    → (kind_of set.pictures ≡ kinds.Plain) ⊎ IsPictured set → IsWrittenBox form set frame.width frame.height frame.depth a
assignment_written set stacked frame pins a form is problem legal answered pictured = record {
  some_width = is.some_column;
  some_height = is.some_row;
  some_depth = is.some_layer;
  width_limit = is.width_limit;
  height_limit = is.height_limit;
  depth_limit = is.depth_limit;
  answered = answered;
  pictured = pictured;
  each_cell = legal.each_cell;
  numbers = λ k d inside.
      let b = base_inside (problem_of_box set stacked frame pins) problem k (get_or a k 0) (legal.based k (omega (arith, inside, legal.each_cell))) in
      subst (λ v. v < variant_total set.tiles) (get_or_default a k 0 d inside) (omega (arith, b.1, length-weights set stacked frame pins));
}
