-- There is a chooser for each block that is left, of the rule that all have, and growth from here is growth from the start.
use Rattle.std.proofs.Common.{◌≡◌, ◌+◌, ◌-◌, ◌≤◌, length, map}
use Rattle.wfc_choose.specs.Pick.{Rule}
use Rattle.wfc_runs.specs.Alike.{HaveRule}
use Rattle.wfc_blocks.specs.BlockEnds.{AreSupportsOf}
use Rattle.wfc_blocks.specs.Blocks.{block_count, blocks_of}
use Rattle.wfc_blocks.specs.CanvasView.{HaveSameSides, canvas_of}
use Rattle.wfc_blocks.specs.Covers.{area_of}
use Rattle.wfc_blocks.specs.Grown.{terms_with}
use Rattle.wfc_blocks.specs.Growth.{growth_over}
use Rattle.wfc_blocks.proofs.StepLemmas.{growth_from}
use Rattle.wfc_blocks.proofs.growing.fill_blocks.Given as goal

abbrev pub invariant-loop-number : goal.invariant-loop-number
invariant-loop-number g l = record {
  supports : AreSupportsOf l.patterns (map (λ list. list.items) l.supports.items);
  alike : HaveSameSides l.fn.canvas l.canvas;
  count : l.number-end ≡ block_count l.cover.n (area_of l.cover);
  enough : l.number-end ≤ length l.choosers.items + l.number;
  rules : (rule : Rule) → HaveRule (map (λ chooser. ((goal.Chooser-dyn g (chooser.vtable, chooser.value)).told chooser.value).rule) l.fn.choosers.items) rule
      → HaveRule (map (λ chooser. ((goal.Chooser-dyn g (chooser.vtable, chooser.value)).told chooser.value).rule) l.choosers.items) rule;
  growth : (rule : Rule) → HaveRule (map (λ chooser. ((goal.Chooser-dyn g (chooser.vtable, chooser.value)).told chooser.value).rule) l.fn.choosers.items) rule
      → growth_from (terms_with l.patterns rule l.budget l.seed l.marks) l.cover.n (area_of l.cover) l.number (l.number-end - l.number) (canvas_of l.canvas)
      ≡ growth_over (terms_with l.patterns rule l.budget l.seed l.marks) (blocks_of l.cover.n (area_of l.cover)) (canvas_of l.fn.canvas);
}
