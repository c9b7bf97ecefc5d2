use Rattle.std.proofs.Common.{◌%◌, length, map, Some, sym, ap, ◌∙◌}
use Rattle.std.proofs.lemmas.List.{length-map}
use Rattle.std.proofs.Math.Nat.{mul-mod_right}
use Rattle.wfc_outside.proofs.CallerLemmas.{gives_value}
use Rattle.wfc_picture.specs.declared.palette.PaletteFault.TheVariants.{NoMemory}
use Rattle.wfc_picture.specs.declared.symbol.Kind.TheVariants as kinds
use Rattle.wfc_picture.specs.declared.symbol.Symbol.TheVariants.{Rgb}
use Rattle.wfc_ppm.specs.Ppm.{PpmView}
use Rattle.wfc_render.proofs.CallerLemmas.{written_ppm}
use Rattle.wfc_writer_tests.proofs.render.colours.text_of.Goals as goal

pub index-requires-clause-rows : goal.index-requires-clause-rows
index-requires-clause-rows c =
    let same = c.deref.ensures.value ∙ c.in_ok-symbols.ensures.symbols ∙ ap (map Rgb) (c.as_slice-pixels.ensures.value) in
    ap (λ n. n % c.ppm.inside.width) (ap length same ∙ length-map c.ppm.inside.pixels.items Rgb ∙ c.ppm.invariant.filled.as_many) ∙ mul-mod_right c.ppm.inside.width c.ppm.inside.height

pub picture_bytes-requires : goal.picture_bytes-requires
picture_bytes-requires c =
    let ppm : PpmView = record { width = c.ppm.inside.width; height = c.ppm.inside.height; maxval = c.ppm.inside.maxval; pixels = c.ppm.inside.pixels.items } in
    let same = c.deref.ensures.value ∙ c.in_ok-symbols.ensures.symbols ∙ ap (map Rgb) (c.as_slice-pixels.ensures.value) in
    let made = gives_value NoMemory (λ m. m) (c.in_ok-picture.picture, c.in_ok-picture.palette) _ c.in_ok-picture.ensures.exact in
    let kind = kinds.Ppm c.ppm.inside.maxval in
    let laid = sym c.in_ok-laid.ensures.exact in
    let asked = c.layouts_are_as_asked.ensures in
    record {
      written = written_ppm ppm c.deref.result.now (c.in_ok-picture.picture, c.in_ok-picture.palette) c.in_ok-laid.laid c.ppm.invariant same made
          (asked.layout kind (Some c.args.form) c.ppm.inside.width c.ppm.inside.height 1 c.in_ok-laid.laid laid)
          (asked.kind kind (Some c.args.form) c.ppm.inside.width c.ppm.inside.height 1 c.in_ok-laid.laid laid)
          (asked.side kind (Some c.args.form) c.ppm.inside.width c.ppm.inside.height 1 c.in_ok-laid.laid laid)
          (asked.width kind (Some c.args.form) c.ppm.inside.width c.ppm.inside.height 1 c.in_ok-laid.laid laid)
          (asked.height kind (Some c.args.form) c.ppm.inside.width c.ppm.inside.height 1 c.in_ok-laid.laid laid);
    }
