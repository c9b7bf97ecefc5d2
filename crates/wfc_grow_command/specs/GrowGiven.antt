-- The task of `grow` over files that are told, in the subject's words.
use Rattle.std.specs.Prelude.{List, Ok, ◌≡◌, ◌≤◌}
use Rattle.wfc_blocks.specs.Blocks.{Area, block_at, block_count, output_of_block}
use Rattle.wfc_blocks.specs.declared.TheConstants.{MAX_BLOCKS}
use Rattle.wfc_choose.specs.declared.RuleKind.{RuleKind}
use Rattle.wfc_grow_command.specs.GrowTask.{GrowTask, area_asked}
use Rattle.wfc_grow_command.specs.declared.growing.TheConstants.{GROW_CHOOSERS}
use Rattle.wfc_model.specs.Legal.{Pin}
use Rattle.wfc_model.specs.declared.TheConstants.{MAX_OUTPUT_SIDE}
use Rattle.wfc_outside.specs.Folder.{File}
use Rattle.wfc_overlap.specs.Bridge.{window_pair_count}
use Rattle.wfc_overlap.specs.Built.{picture_pins, texts_of}
use Rattle.wfc_pattern.specs.Patterns.{PatternsView}
use Rattle.wfc_picture.specs.declared.symbol.Kind.{Kind}
use Rattle.wfc_plan.specs.Kinds.{HasChoosers}
use Rattle.wfc_problem.specs.declared.TheConstants.{MAX_PAIRS}
use Rattle.wfc_render.specs.Layout.{layout_of}
use Rattle.wfc_runs.specs.Alike.{IsPlain}
use Rattle.wfc_task.specs.Asked.{IsSampleAsked}
use Rattle.wfc_task.specs.Given.{HoldsPins, IsSample}
use Rattle.wfc_task.specs.Sources.{window_side_of}
use Rattle.wfc_words.specs.RequestView.{RequestView}

-- what a request has to say, so that a map can be grown: a sample, blocks that hold a window and are no longer than a map may be,
-- and a rule that doesn't go by ranks
pub record IsGrowAsked (asked : RequestView) : Type 0 where
  pub sample : IsSampleAsked asked
  pub some_block : window_side_of asked.source ≤ asked.block
  pub block_limit : asked.block ≤ MAX_OUTPUT_SIDE
  pub plain : IsPlain asked.rule

-- an area holds a window, has not too many blocks, and the first of them not too many pairs of a place and a pattern
pub record IsGrowableArea (patterns : PatternsView) (area : Area) : Type 0 where
  pub wide : patterns.n ≤ area.width
  pub high : patterns.n ≤ area.height
  pub few : block_count patterns.n area ≤ MAX_BLOCKS
  pub few_pairs : window_pair_count patterns (output_of_block (block_at patterns.n area 0)) ≤ MAX_PAIRS

-- a chooser goes by the rule for each block and one more; the sample, the layout and the lines of pins are those of the
-- request; the area can be grown, and the lines mean pins
pub record IsGrowTask (kinds : List RuleKind) (asked : RequestView) (files : List File) (task : GrowTask) : Type 0 where
  pub choosers : HasChoosers GROW_CHOOSERS kinds asked.rule
  pub kind : Kind
  pub sample : IsSample asked files kind task.patterns task.palette
  pub written : layout_of kind asked.form asked.width asked.height 1 ≡ Ok task.layout
  pub held : HoldsPins files asked.pins task.lines
  pub area : IsGrowableArea task.patterns (area_asked asked)
  pub pins : List Pin
  pub meant : picture_pins (texts_of task.palette) asked.width asked.height task.lines ≡ Ok pins
