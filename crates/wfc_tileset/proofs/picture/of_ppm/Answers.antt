use Rattle.std.proofs.Common.{◌≡◌, List, true, ap, subst, sym, ◌∙◌, map, rules}
use Rattle.wfc_picture.specs.declared.symbol.Kind.TheVariants as kinds
use Rattle.wfc_picture.specs.declared.symbol.Symbol.{Symbol}
use Rattle.wfc_picture.specs.declared.symbol.Symbol.TheVariants.{Rgb}
use Rattle.wfc_ppm.specs.Ppm.{PpmView}
use Rattle.wfc_tileset.specs.Pictures.{IsPicture, is_tile_size}
use Rattle.wfc_tileset.proofs.PictureLemmas.{ppm_picture}
use Rattle.wfc_tileset.proofs.picture.of_ppm.Goals as goal

pub invariant_of-result : goal.invariant_of-result
invariant_of-result c =
    let ppm : PpmView = record { width = c.ppm.inside.width; height = c.ppm.inside.height; maxval = c.ppm.inside.maxval; pixels = c.ppm.inside.pixels.items } in
    let sized : is_tile_size ppm.width ppm.height ≡ true = search rules in
    let pixels : c.in_ok-pixels.pixels.items ≡ map (λ colour. Rgb colour) ppm.pixels =
    c.in_ok-pixels.ensures.value ∙ ap (map (λ colour. Rgb colour)) c.as_slice.ensures.value in
    subst (λ (symbols : List Symbol). IsPicture (record { kind = kinds.Ppm ppm.maxval; side = ppm.width; pixels = symbols })) (sym pixels) (ppm_picture ppm c.ppm.invariant sized)
