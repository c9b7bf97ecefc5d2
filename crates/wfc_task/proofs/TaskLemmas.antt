-- What follows what a sample shows, and what follows its picture.
use Rattle.std.proofs.Common.{List}
use Rattle.wfc_model.specs.Raster.{Raster}
use Rattle.wfc_picture.specs.declared.symbol.Kind.{Kind}
use Rattle.wfc_picture.specs.declared.symbol.Symbol.{Symbol}
use Rattle.wfc_plan.specs.Plan.{Plan, and_then, done, step}
use Rattle.wfc_task.specs.Sampled.{SampledView}
use Rattle.wfc_task.specs.Steps.{sample_in_numbers, patterns_taught}
use Rattle.wfc_task.specs.declared.lesson.Taught.{Taught}
use Rattle.wfc_words.specs.RequestView.{RequestView}

-- what follows what a sample shows, what follows its picture, what follows a sample in `fill`, and what follows a problem in `domains`
abbrev pub behind_sampled : SampledView → Plan (Kind × Raster × List Symbol)
behind_sampled sampled = and_then (step (sample_in_numbers sampled)) (λ made. done (sampled.kind, made.0, made.1))

abbrev pub behind_picture : RequestView → Kind × Raster × List Symbol → Plan Taught
behind_picture asked made = and_then (step (patterns_taught asked made.1)) (λ patterns. done (record { kind = made.0; palette = made.2; patterns = patterns }))
