use Rattle.std.proofs.Common.{◌≡◌, ℕ, ◌<◌, Ok, Some, subst, inr, arith}
use Rattle.std.specs.Prelude.{All}
use Rattle.wfc_render.specs.declared.form.Form.{Form}
use Rattle.wfc_tileset.specs.Pictures.{kind_of, side_of}
use Rattle.wfc_tileset.specs.Tiles.{TileSetView}
use Rattle.wfc_box.specs.BoxText.{box_layout_of}
use Rattle.wfc_box.proofs.CallerLemmas.{answered_again}
use Rattle.wfc_box_tests.proofs.texts.text_of.Goals as goal

pub box_bytes-requires : goal.box_bytes-requires
box_bytes-requires g c =
    let set : TileSetView = c.args.set.now in
    let form : Form = c.in_ok-form.form in
    let answered : box_layout_of (kind_of set.pictures) c.args.form c.args.sides.0 c.args.sides.1 c.args.sides.2 (side_of set.pictures) ≡ Ok form =
    let exact = c.in_ok-form.ensures.exact in
    let kind = c.kind.ensures.value in
    let side = c.side.ensures.value in
    cc in
    record {
      written = record {
        some_width = omega arith;
        some_height = omega arith;
        some_depth = omega arith;
        width_limit = omega arith;
        height_limit = omega arith;
        depth_limit = omega arith;
        answered = answered_again (kind_of set.pictures) c.args.form form c.args.sides.0 c.args.sides.1 c.args.sides.2 (side_of set.pictures) answered;
        pictured = inr (cc);
        each_cell = omega arith;
        numbers = subst (λ k. All (λ v. v < k) c.args.numbers.now) c.variants.ensures.value (c.are_below.ensures.below.0 (cc));
      };
    }
