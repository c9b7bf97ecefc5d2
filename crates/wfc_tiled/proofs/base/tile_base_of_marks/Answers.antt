use Rattle.std.proofs.Common.{◌≡◌, ◌*◌, ◌++◌, Bool, true, false, List, [], length, take, drop, refl, sym, subst, ap, ◌∙◌, arith}
use Rattle.std.specs.Prelude.{replicate}
use Rattle.std.proofs.lemmas.Grind.{common_steps}
use Rattle.std.proofs.lemmas.List.{length-replicate, get_or-replicate}
use Rattle.wfc_tileset.specs.Tiles.{variant_total}
use Rattle.wfc_places.specs.Flags.{HasFlags}
use Rattle.wfc_places.proofs.CallerLemmas.{all_flags, flags-table}
use Rattle.wfc_tiled.specs.Cut.{meets_at}
use Rattle.wfc_tiled.specs.Tiles.{variant_meets_pins}
use Rattle.wfc_tiled.proofs.base.tile_base_of_marks.Goals as goal

pub cut_all-requires : goal.cut_all-requires
cut_all-requires c =
    let m = c.args.mask.now in
    let V = variant_total c.args.tiles.now.tiles in
    let many = c.cells.result * c.variants-count.result in
    let set : c.deref_mut.result.now ≡ replicate many true = c.deref_mut.ensures.value ∙ c.in_ok-flags.ensures.value in
    let long : length (replicate many true) ≡ length m.places * V =
    length-replicate many true ∙ ap (λ k. k * c.variants-count.result) c.cells.ensures.value ∙ ap (λ k. length m.places * k) c.variants-count.ensures.value in
    record {
      placed = c.requires.placed;
      all =
          subst (λ (fs : List Bool). HasFlags V (length m.places) fs (meets_at m [])) (sym set)
          (all_flags V (length m.places) (replicate many true) (meets_at m []) long (λ k inside. get_or-replicate many k true false (omega (arith, length-replicate many true))) (λ c v. refl));
    }

pub returns : goal.returns
returns c =
    let new = c.cut_all.new.flags in
    let whole : take c.in_ok-flags.flags.len (new ++ drop (length new) c.in_ok-flags.flags.items) ≡ new = grind (arith, common_steps) in
    record { value = whole ∙ flags-table (variant_total c.args.tiles.now.tiles) new c.args.mask.now.places (variant_meets_pins c.args.mask.now.width c.args.marks.now) c.cut_all.ensures.met }
