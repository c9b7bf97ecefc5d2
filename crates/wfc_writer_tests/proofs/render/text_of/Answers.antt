use Rattle.std.proofs.Common.{◌%◌, length, map, Some, sym, ap, ◌∙◌}
use Rattle.std.proofs.lemmas.List.{length-map}
use Rattle.std.proofs.Math.Nat.{mul-mod_right}
use Rattle.wfc_grid.specs.Grid.{GridView}
use Rattle.wfc_outside.proofs.CallerLemmas.{gives_value}
use Rattle.wfc_picture.specs.declared.palette.PaletteFault.TheVariants.{NoMemory}
use Rattle.wfc_picture.specs.declared.symbol.Kind.TheVariants as kinds
use Rattle.wfc_picture.specs.declared.symbol.Symbol.TheVariants.{Char}
use Rattle.wfc_render.proofs.CallerLemmas.{written_grid}
use Rattle.wfc_writer_tests.proofs.render.text_of.Goals as goal

pub index-requires-clause-rows : goal.index-requires-clause-rows
index-requires-clause-rows c =
    let same = c.deref.ensures.value ∙ c.in_ok-symbols.ensures.symbols ∙ ap (map Char) (c.as_bytes-bytes.ensures.bytes ∙ sym (ap (λ (g : GridView). g.bytes) c.grid.view_is)) in
    ap (λ n. n % c.grid.inside.width) (ap length same ∙ length-map c.grid.inside.bytes.items Char ∙ c.grid.invariant.filled.as_many) ∙ mul-mod_right c.grid.inside.width c.grid.inside.height

pub picture_bytes-requires : goal.picture_bytes-requires
picture_bytes-requires c =
    let grid : GridView = record { width = c.grid.inside.width; height = c.grid.inside.height; bytes = c.grid.inside.bytes.items } in
    let same = c.deref.ensures.value ∙ c.in_ok-symbols.ensures.symbols ∙ ap (map Char) (c.as_bytes-bytes.ensures.bytes ∙ sym (ap (λ (g : GridView). g.bytes) c.grid.view_is)) in
    let made = gives_value NoMemory (λ m. m) (c.in_ok-picture.picture, c.in_ok-picture.palette) _ c.in_ok-picture.ensures.exact in
    let laid = sym c.in_ok-laid.ensures.exact in
    let asked = c.layouts_are_as_asked.ensures in
    record {
      written = written_grid grid c.deref.result.now (c.in_ok-picture.picture, c.in_ok-picture.palette) c.in_ok-laid.laid c.grid.invariant same made
          (asked.layout kinds.Grid (Some c.args.form) c.grid.inside.width c.grid.inside.height 1 c.in_ok-laid.laid laid)
          (asked.kind kinds.Grid (Some c.args.form) c.grid.inside.width c.grid.inside.height 1 c.in_ok-laid.laid laid)
          (asked.side kinds.Grid (Some c.args.form) c.grid.inside.width c.grid.inside.height 1 c.in_ok-laid.laid laid)
          (asked.width kinds.Grid (Some c.args.form) c.grid.inside.width c.grid.inside.height 1 c.in_ok-laid.laid laid)
          (asked.height kinds.Grid (Some c.args.form) c.grid.inside.width c.grid.inside.height 1 c.in_ok-laid.laid laid);
    }
