use Rattle.std.proofs.Common.{ℕ, ◌++◌, [], ◌∷◌, map, sym, ap, ◌∙◌, zero-add}
use Rattle.std.specs.List.{range_with_len}
use Rattle.std.proofs.lemmas.List.FromFn.{map-range_with_len_more}
use Rattle.wfc_tileset.specs.Tiles.{tile_at, variant_at}
use Rattle.wfc_tiled.proofs.supports.weights.Goals as goal

pub loop-v-preserved : goal.loop-v-preserved
loop-v-preserved c =
    let tiles = c.args.tiles.now.tiles in
    let f : ℕ → ℕ = λ v. (tile_at tiles (variant_at tiles v).0).weight in
    let v = c.loop-v.v in
    c.in_ok-push.ensures.items
    ∙ ap (λ t. t ++ c.weight.result ∷ []) c.loop-v.invariant
    ∙ ap (λ k. map f (range_with_len 0 v) ++ k ∷ []) c.weight.ensures.value
    ∙ sym (map-range_with_len_more f 0 v v (zero-add v))
