use Rattle.std.proofs.Common.{◌≡◌, sym, subst, ap, ◌∙◌}
use Rattle.wfc_problem.specs.Network.{IsProblem}
use Rattle.wfc_tiled.specs.Maps.{ArePlaced, IsPlaced}
use Rattle.wfc_tiled.specs.Mask.{MaskView}
use Rattle.wfc_tiled.specs.Tiles.{tile_base_table}
use Rattle.wfc_tiled.proofs.CallerLemmas.{tiles_problem}
use Rattle.wfc_explain.specs.KeptLines.{kept_of}
use Rattle.wfc_explain.specs.Masks.{held_mask}
use Rattle.wfc_explain.proofs.KeptLemmas.{All-kept}
use Rattle.wfc_explain.proofs.ProblemLemmas.{tiles_shared}
use Rattle.wfc_explain.proofs.tile_pins.TilePinsPinnedProblem.problem.Goals as goal

pub tile_base_of_marks-requires : goal.tile_base_of_marks-requires
tile_base_of_marks-requires c =
    let i = c.self.inside in
    let mask : MaskView = held_mask i.mask in
    let kept : c.deref-2.result.now ≡ kept_of c.args.keep.now i.marks.items =
    c.deref-2.ensures.value ∙ c.in_ok-kept.ensures.value ∙ ap (kept_of c.args.keep.now) c.deref.ensures.value in
    record {
      placed = subst (λ (m : MaskView). ArePlaced m c.deref-2.result.now) (sym c.mask.ensures.value)
          (subst (ArePlaced mask) (sym kept) (All-kept (IsPlaced mask) c.args.keep.now i.marks.items c.self.invariant.0.placed));
    }

pub from_known-requires : goal.from_known-requires
from_known-requires c =
    let i = c.self.inside in
    let mask : MaskView = held_mask i.mask in
    let kept : c.deref-2.result.now ≡ kept_of c.args.keep.now i.marks.items =
    c.deref-2.ensures.value ∙ c.in_ok-kept.ensures.value ∙ ap (kept_of c.args.keep.now) c.deref.ensures.value in
    let is = tiles_shared i.tiles.now mask i.wrap (kept_of c.args.keep.now i.marks.items) _ _ _ c.in_ok-parts.ensures.value c.self.invariant.1
    (c.in_ok-base.ensures.value ∙ ap (λ (m : MaskView). tile_base_table i.tiles.now m c.deref-2.result.now) c.mask.ensures.value ∙ ap (tile_base_table i.tiles.now mask) kept) in
    let kinds = c.self.invariant.0 in
    record { problem = subst IsProblem (sym is) (tiles_problem i.tiles.now mask i.wrap (kept_of c.args.keep.now i.marks.items) kinds.tiles_are kinds.mask_is kinds.few_pairs) }
