use Rattle.std.proofs.Common.{◌≤◌, [], arith, subst, ap, ◌∙◌}
use Rattle.wfc_outside.proofs.CallerLemmas.{gives_value}
use Rattle.wfc_pins.specs.declared.fault.BuildFault.TheVariants.{NoMemory}
use Rattle.wfc_problem.specs.declared.TheConstants.{MAX_PAIRS}
use Rattle.wfc_tiled.specs.Built.{tile_pair_count}
use Rattle.wfc_tiled.specs.Maps.{ArePlaced}
use Rattle.wfc_tiled.specs.Mask.{MaskView, IsMask}
use Rattle.wfc_problem.specs.Network.{Network}
use Rattle.wfc_tiled.specs.Tiles.{problem_of_tiles}
use Rattle.wfc_explain.proofs.ProblemLemmas.{tiles_found}
use Rattle.wfc_explain.proofs.tile_pins.TilePins.over.Goals as goal

pub invariant_of-result : goal.invariant_of-result
invariant_of-result c =
    let marks = c.in_ok-marks.ensures in
    let same = c.mask.ensures.value in
    let found = gives_value NoMemory (λ marks. marks.items) c.in_ok-marks.marks _ marks.exact in
    let many = tiles_found c.args.tiles.now c.mask.result.now c.args.wrap c.args.pins.now c.in_ok-marks.marks.items found in (
      record {
        tiles_are = marks.tile_set;
        mask_is = subst IsMask same marks.mask;
        few_pairs = subst (λ (m : MaskView). tile_pair_count c.args.tiles.now m ≤ MAX_PAIRS) same marks.few_pairs;
        placed = subst (λ (m : MaskView). ArePlaced m c.in_ok-marks.marks.items) same marks.placed;
        few_lines = omega (arith, many, c.requires.few_lines);
      },
      c.without_base.ensures.value ∙ ap (λ (N : Network). record N { base = [] }) c.in_ok-plain.ensures.value
          ∙ ap (λ (m : MaskView). record (problem_of_tiles c.args.tiles.now m c.args.wrap []) { base = [] }) c.mask-2.ensures.value,
    )
