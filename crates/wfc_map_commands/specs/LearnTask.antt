-- The task of `learn`: what is read and refused, in order, and what it comes to.
use Rattle.std.specs.Prelude.{Err, List, Ok, Result}
use Rattle.wfc_map_commands.specs.declared.learning.Learned.{Learned}
use Rattle.wfc_map_commands.specs.declared.learning.Learned.TheVariants as learned
use Rattle.wfc_pattern.specs.Patterns.{PatternsView}
use Rattle.wfc_picture.specs.declared.symbol.Symbol.{Symbol}
use Rattle.wfc_plan.specs.Plan.{Plan, and_then, done}
use Rattle.wfc_plan.specs.declared.fault.Fault.{Fault}
use Rattle.wfc_task.specs.SamplePlans.{sample_plan}
use Rattle.wfc_task.specs.TilePlans.{tiles_plan}
use Rattle.wfc_tileset.specs.Tiles.{TileSetView}
use Rattle.wfc_words.specs.RequestView.{RequestView}
use Rattle.wfc_words.specs.declared.kinds.SourceModel.{SourceModel}
use Rattle.wfc_words.specs.declared.kinds.SourceModel.TheVariants.{Overlap, Tiles}

-- what `learn` works on: what a sample teaches, or a tile set
pub data LearnTask : Type 0 where
  learn : PatternsView → List Symbol → LearnTask
  learn_tiles : TileSetView → LearnTask

-- what `learn` comes to for a sample: what it teaches
abbrev pub learn_sample_plan : RequestView → Plan LearnTask
learn_sample_plan asked = and_then (sample_plan asked) (λ lesson. done (learn lesson.patterns lesson.palette))

-- and for a tile set: the tile set
abbrev pub learn_tiles_plan : RequestView → Plan LearnTask
learn_tiles_plan asked = and_then (tiles_plan asked) (λ set. done (learn_tiles set))

-- what `learn` comes to, by what is learned from: a sample or a tile set
abbrev pub learn_plan_by : SourceModel → RequestView → Plan LearnTask
learn_plan_by (Overlap n) asked = learn_sample_plan asked
learn_plan_by Tiles asked = learn_tiles_plan asked

-- what `learn` comes to for a request
abbrev pub learn_plan : RequestView → Plan LearnTask
learn_plan asked = learn_plan_by asked.source asked

-- what is learned, by what it is made of
abbrev pub learned_by : Learned → LearnTask
learned_by (learned.Windows taught) = learn taught.patterns taught.palette
learned_by (learned.Tiles set) = learn_tiles set

-- what the code learns, as the task of `learn`, or the fault
abbrev pub learn_made : Result Learned Fault → Result LearnTask Fault
learn_made (Ok made) = Ok (learned_by made)
learn_made (Err fault) = Err fault
