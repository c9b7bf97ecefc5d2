use Rattle.std.proofs.Common.{◌≡◌, List, true, ap, subst, sym, ◌∙◌, map, rules}
use Rattle.wfc_grid.specs.Grid.{GridView}
use Rattle.wfc_picture.specs.declared.symbol.Kind.TheVariants as kinds
use Rattle.wfc_picture.specs.declared.symbol.Symbol.{Symbol}
use Rattle.wfc_picture.specs.declared.symbol.Symbol.TheVariants.{Char}
use Rattle.wfc_tileset.specs.Pictures.{IsPicture, is_tile_size}
use Rattle.wfc_tileset.proofs.PictureLemmas.{grid_picture}
use Rattle.wfc_tileset.proofs.picture.of_grid.Goals as goal

pub invariant_of-result : goal.invariant_of-result
invariant_of-result c =
    let grid : GridView = record { width = c.grid.inside.width; height = c.grid.inside.height; bytes = c.grid.inside.bytes.items } in
    let sized : is_tile_size grid.width grid.height ≡ true = search rules in
    let pixels : c.in_ok-pixels.pixels.items ≡ map (λ byte. Char byte) grid.bytes =
    c.in_ok-pixels.ensures.value ∙ ap (map (λ byte. Char byte)) (c.as_bytes.ensures.bytes ∙ ap (λ (g : GridView). g.bytes) (sym c.grid.view_is)) in
    subst (λ (symbols : List Symbol). IsPicture (record { kind = kinds.Grid; side = grid.width; pixels = symbols })) (sym pixels) (grid_picture grid c.grid.invariant sized)
