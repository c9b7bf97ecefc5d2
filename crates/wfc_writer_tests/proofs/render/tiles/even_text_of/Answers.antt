use Rattle.std.proofs.Common.{◌≡◌, ℕ, ◌*◌, List, Some, replicate, sym, ap, ◌∙◌, subst, inl, inr, arith}
use Rattle.std.proofs.lemmas.List.{length-replicate}
use Rattle.std.proofs.lemmas.List.Elements.{All-replicate}
use Rattle.wfc_model.specs.Raster.{IsFilled, raster_of}
use Rattle.wfc_tileset.specs.Tiles.{TileSetView}
use Rattle.wfc_render.specs.Tiled.{IsTiled, IsVariantOrHole}
use Rattle.wfc_render.proofs.CallerLemmas.{written_tiles}
use Rattle.wfc_writer_tests.proofs.render.tiles.even_text_of.Goals as goal

pub tile_bytes-requires : goal.tile_bytes-requires
tile_bytes-requires g c =
    let set : TileSetView = c.args.set.now in
    let v : ℕ = c.args.v in
    let w : ℕ = c.args.width in
    let h : ℕ = c.args.height in
    let numbers : List ℕ = replicate (w * h) v in
    let items = c.in_ok-numbers.ensures.items_if_clones_equal (λ y e. e) ∙ ap (replicate (w * h)) c.from.ensures in
    let picture : c.in_ok-picture.picture ≡ raster_of w h numbers = c.in_ok-picture.ensures.ok ∙ ap (raster_of w h) items in
    let filled : IsFilled w h numbers = record { some_column = c.requires.some_width; some_row = c.requires.some_height; as_many = length-replicate (w * h) v } in
    let placed = All-replicate (IsVariantOrHole set) (w * h) v (inl (omega arith)) in
    let laid = sym c.in_ok-laid.ensures.exact in
    let asked = c.layouts_are_as_asked.ensures in
    let kind = asked.kind c.kind.result (Some c.args.form) w h c.side.result c.in_ok-laid.laid laid ∙ c.kind.ensures.value in
    record {
      written = subst (IsTiled c.in_ok-laid.laid set) (sym picture)
          (written_tiles set w h numbers c.in_ok-laid.laid filled c.requires.width_limit c.requires.height_limit placed
          (asked.layout c.kind.result (Some c.args.form) w h c.side.result c.in_ok-laid.laid laid) kind
          (asked.width c.kind.result (Some c.args.form) w h c.side.result c.in_ok-laid.laid laid)
          (asked.height c.kind.result (Some c.args.form) w h c.side.result c.in_ok-laid.laid laid)
          (inr (cc)));
    }
