-- What is read and refused of a sample and of the files beside it, in order.
use Rattle.std.specs.Prelude.{List, None, Option, Some, [], ℕ}
use Rattle.wfc_model.specs.Raster.{Raster}
use Rattle.wfc_picture.specs.declared.symbol.Kind.{Kind}
use Rattle.wfc_picture.specs.declared.symbol.Symbol.{Symbol}
use Rattle.wfc_pins.specs.PinView.{PinView}
use Rattle.wfc_plan.specs.Files.{file_plan}
use Rattle.wfc_plan.specs.Plan.{Plan, and_then, done, step}
use Rattle.wfc_plan.specs.declared.fault.Source.TheVariants.{Pins, Sample}
use Rattle.wfc_problem.specs.Network.{Network}
use Rattle.wfc_task.specs.Sampled.{SampledView}
use Rattle.wfc_task.specs.Steps.{sample_in_numbers, read_pin_lines, problem_of_lines, sampled_in, patterns_taught}
use Rattle.wfc_task.specs.declared.lesson.Taught.{Taught}
use Rattle.wfc_words.specs.RequestView.{RequestView}

-- read the sample, and answer what its pixels show
abbrev pub sampled_plan : RequestView → Plan SampledView
sampled_plan asked = and_then (file_plan Sample asked.file) (λ bytes. step (sampled_in asked bytes))

-- read the sample, number its pixels, and answer its kind, its picture and its palette
abbrev pub picture_plan : RequestView → Plan (Kind × Raster × List Symbol)
picture_plan asked =
    and_then (sampled_plan asked) (λ sampled.
    and_then (step (sample_in_numbers sampled)) (λ made.
    done (sampled.kind, made.0, made.1)))

-- the sample is read, and then learned from
abbrev pub sample_plan : RequestView → Plan Taught
sample_plan asked =
    and_then (picture_plan asked) (λ made.
    and_then (step (patterns_taught asked made.1)) (λ patterns.
    done (record { kind = made.0; palette = made.2; patterns = patterns })))

-- the pins file of this name is read
abbrev pub pins_file_plan : List ℕ → Plan (List PinView)
pins_file_plan name = and_then (file_plan Pins name) (λ bytes. step (read_pin_lines bytes))

-- the pins file is read, if one is named; else there are no pins and bans
abbrev pub pins_plan : Option (List ℕ) → Plan (List PinView)
pins_plan None = done []
pins_plan (Some name) = pins_file_plan name

-- the pins file is read, and then the problem is made
abbrev pub problem_plan : RequestView → Taught → Plan Network
problem_plan asked lesson =
    and_then (pins_plan asked.pins)
    (λ lines. step (problem_of_lines asked lesson.patterns lesson.palette lines))
