use Rattle.std.proofs.Common.{◌≡◌, ℕ, ◌*◌, ◌<◌, List, length, sym, subst, ap, ◌∙◌, arith}
use Rattle.std.proofs.lemmas.Grind.{common_steps}
use Rattle.wfc_grid.specs.Grid.{GridView}
use Rattle.wfc_tiled.specs.Mask.{IsMask, places_of}
use Rattle.wfc_tiled.proofs.MaskLemmas.{kept_is}
use Rattle.wfc_tiled.proofs.reading.mask.Goals as goal

pub new-requires : goal.new-requires
new-requires c =
    let bytes = c.args.grid.now.bytes in
    let w = c.args.width in
    let h = c.args.height in
    let items : c.in_ok-places.places.items ≡ places_of bytes = c.in_ok-places.ensures.value ∙ ap places_of c.as_bytes-bytes.ensures.bytes in
    let some : 0 < length c.in_ok-places.places.items = grind (arith, common_steps) in
    let long : length bytes ≡ w * h =
    c.as_bytes-bytes.ensures.grid.filled.as_many
    ∙ ap (λ k. k * c.args.grid.now.height) (sym (ap (λ (g : GridView). g.width) c.grid.view_is) ∙ c.if-grid-width.false)
    ∙ ap (λ k. w * k) (sym (ap (λ (g : GridView). g.height) c.grid.view_is) ∙ c.if-grid-height.false) in
    record {
      mask =
          subst (λ (ns : List ℕ). IsMask (record { width = w; height = h; places = ns })) (sym items)
          (kept_is w h bytes c.requires.some_width c.requires.some_height c.requires.width_limit c.requires.height_limit long (subst (λ (ns : List ℕ). 0 < length ns) items some));
    }
