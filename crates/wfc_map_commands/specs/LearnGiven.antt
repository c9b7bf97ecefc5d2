-- The task of `learn` of a sample over files that are told, in the subject's words.
use Rattle.std.specs.Prelude.{List, Ok, ◌↔◌, ◌≡◌}
use Rattle.wfc_map_commands.specs.LearnTask.{learn, learn_plan}
use Rattle.wfc_outside.specs.Folder.{File}
use Rattle.wfc_pattern.specs.Patterns.{PatternsView}
use Rattle.wfc_picture.specs.declared.symbol.Symbol.{Symbol}
use Rattle.wfc_plan.specs.Plan.{outcome}
use Rattle.wfc_task.specs.Given.{IsTaught}
use Rattle.wfc_words.specs.RequestView.{RequestView}

-- over any files `learn` comes to patterns and a palette exactly where the sample teaches them
abbrev pub IsLearnMade : RequestView → Type 0
IsLearnMade asked =
    (files : List File) (patterns : PatternsView) (palette : List Symbol)
    → (outcome (learn_plan asked) files ≡ Ok (learn patterns palette)) ↔ IsTaught asked files patterns palette
