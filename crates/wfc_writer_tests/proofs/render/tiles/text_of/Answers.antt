use Rattle.std.proofs.Common.{◌≡◌, ℕ, [], ◌∷◌, Some, refl, sym, ap, ◌∙◌, subst, inl, inr, arith}
use Rattle.std.proofs.lemmas.List.Elements.{All-cons, All-nil}
use Rattle.wfc_model.specs.Raster.{IsFilled, raster_of}
use Rattle.wfc_tileset.specs.Tiles.{TileSetView}
use Rattle.wfc_tileset.specs.declared.TheConstants.{HOLE}
use Rattle.wfc_render.specs.Tiled.{IsTiled, IsVariantOrHole}
use Rattle.wfc_render.proofs.CallerLemmas.{written_tiles}
use Rattle.wfc_writer_tests.proofs.render.tiles.text_of.Goals as goal

pub tile_bytes-requires : goal.tile_bytes-requires
tile_bytes-requires g c =
    let set : TileSetView = c.args.set.now in
    let v : ℕ = c.args.v in
    let items = c.in_ok-numbers.ensures.items in
    let picture : c.in_ok-picture.picture ≡ raster_of 2 1 (v ∷ HOLE ∷ []) = c.in_ok-picture.ensures.ok ∙ ap (raster_of 2 1) (items ∙ ap (λ n. n ∷ HOLE ∷ []) c.from.ensures) in
    let filled : IsFilled 2 1 (v ∷ HOLE ∷ []) = record { some_column = omega arith; some_row = omega arith; as_many = refl } in
    let placed = All-cons (IsVariantOrHole set) v (HOLE ∷ []) (inl (omega arith)) (All-cons (IsVariantOrHole set) HOLE [] (inr refl) (All-nil (IsVariantOrHole set))) in
    let laid = sym c.in_ok-laid.ensures.exact in
    let asked = c.layouts_are_as_asked.ensures in
    let kind = asked.kind c.kind.result (Some c.args.form) 2 1 c.side.result c.in_ok-laid.laid laid ∙ c.kind.ensures.value in
    record {
      written = subst (IsTiled c.in_ok-laid.laid set) (sym picture)
          (written_tiles set 2 1 (v ∷ HOLE ∷ []) c.in_ok-laid.laid filled (omega arith) (omega arith) placed
          (asked.layout c.kind.result (Some c.args.form) 2 1 c.side.result c.in_ok-laid.laid laid) kind
          (asked.width c.kind.result (Some c.args.form) 2 1 c.side.result c.in_ok-laid.laid laid)
          (asked.height c.kind.result (Some c.args.form) 2 1 c.side.result c.in_ok-laid.laid laid)
          (inr (cc)));
    }
