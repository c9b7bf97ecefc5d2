-- The task of `fill`: what is read and refused, in order, and what it comes to.
use Rattle.std.specs.Prelude.{Err, List, Ok, Result}
use Rattle.wfc_choose.specs.declared.RuleKind.{RuleKind}
use Rattle.wfc_map_commands.specs.declared.filling.Filled.{Filled}
use Rattle.wfc_map_commands.specs.declared.filling.Filled.TheVariants as filled
use Rattle.wfc_map_commands.specs.declared.filling.TileFilling.{TileFilling}
use Rattle.wfc_pattern.specs.Patterns.{PatternsView}
use Rattle.wfc_picture.specs.declared.symbol.Symbol.{Symbol}
use Rattle.wfc_plan.specs.Kinds.{enough}
use Rattle.wfc_plan.specs.Plan.{Plan, and_then, done, step}
use Rattle.wfc_plan.specs.declared.fault.Fault.{Fault}
use Rattle.wfc_problem.specs.Network.{Network}
use Rattle.wfc_render.specs.declared.form.Layout.{Layout}
use Rattle.wfc_task.specs.SamplePlans.{problem_plan, sample_plan}
use Rattle.wfc_task.specs.Steps.{sample_layout}
use Rattle.wfc_task.specs.TilePlans.{tiled_plan, tiles_plan}
use Rattle.wfc_task.specs.TileSteps.{tile_layout}
use Rattle.wfc_task.specs.Tiling.{mask_or_whole}
use Rattle.wfc_tiled.specs.Mask.{MaskView}
use Rattle.wfc_tileset.specs.Tiles.{TileSetView}
use Rattle.wfc_words.specs.RequestView.{RequestView}
use Rattle.wfc_words.specs.declared.kinds.SourceModel.{SourceModel}
use Rattle.wfc_words.specs.declared.kinds.SourceModel.TheVariants.{Overlap, Tiles}

-- what `fill` works on, of a sample or of a tile set
pub data FillTask : Type 0 where
  fill : PatternsView → List Symbol → Layout → Network → FillTask
  fill_tiles : TileSetView → MaskView → Layout → Network → FillTask

-- what `fill` comes to for a sample: the layout is looked at before the pins file is
abbrev pub fill_sample_plan : RequestView → Plan FillTask
fill_sample_plan asked =
    and_then (sample_plan asked) (λ lesson.
    and_then (step (sample_layout lesson.kind asked)) (λ layout.
    and_then (problem_plan asked lesson) (λ P.
    done (fill lesson.patterns lesson.palette layout P))))

-- and for a tile set
abbrev pub fill_tiles_plan : RequestView → Plan FillTask
fill_tiles_plan asked =
    and_then (tiles_plan asked) (λ set.
    and_then (step (tile_layout set asked)) (λ layout.
    and_then (tiled_plan asked set) (λ made.
    done (fill_tiles set made.0 layout made.1))))

-- what `fill` comes to behind its chooser, by what its map is made of
abbrev pub fill_plan_by : SourceModel → RequestView → Plan FillTask
fill_plan_by (Overlap n) asked = fill_sample_plan asked
fill_plan_by Tiles asked = fill_tiles_plan asked

-- what `fill` comes to: the chooser is looked for before anything is read
abbrev pub fill_plan : List RuleKind → RequestView → Plan FillTask
fill_plan kinds asked = and_then (step (enough 1 kinds asked.rule)) (λ _. fill_plan_by asked.source asked)

-- what the code keeps of a tile set, as what `fill` works on
abbrev pub tiles_filled : RequestView → TileFilling → FillTask
tiles_filled asked made = fill_tiles made.tiles (mask_or_whole asked made.mask) made.layout made.problem

-- what `fill` works on, by what its map is made of
abbrev pub filled_by : RequestView → Filled → FillTask
filled_by asked (filled.Windows made) = fill made.patterns made.palette made.layout made.problem
filled_by asked (filled.Tiles made) = tiles_filled asked made

-- what the code makes for `fill`, as its task, or the fault
abbrev pub fill_made : RequestView → Result Filled Fault → Result FillTask Fault
fill_made asked (Ok made) = Ok (filled_by asked made)
fill_made asked (Err fault) = Err fault
