-- What is looked at for `explain`, in which order.
use Rattle.std.specs.Prelude.{List, [], length, ℕ, ◌<◌, ◌∷◌, ◌≡◌}
use Rattle.wfc_choose.specs.declared.RuleKind.{RuleKind}
use Rattle.wfc_outside.specs.Folder.{File}
use Rattle.wfc_pins.specs.PinView.{PinView}
use Rattle.wfc_plan.specs.Stages.{IsChooserFault, IsNamedFault, IsReadingFault, TaskStage}
use Rattle.wfc_plan.specs.declared.fault.Fault.{Fault}
use Rattle.wfc_plan.specs.declared.fault.Fault.TheVariants.{Refused}
use Rattle.wfc_plan.specs.declared.fault.Refusal.TheVariants as refusals
use Rattle.wfc_plan.specs.declared.fault.Source.TheVariants.{Mask, Pins, Sample}
use Rattle.wfc_run_commands.specs.declared.explaining.TheConstants.{EXPLAIN_CHOOSERS, MAX_LINES}
use Rattle.wfc_task.specs.Given.{HoldsPins}
use Rattle.wfc_task.specs.Stages.{IsFormFault, IsLearnFault, IsPairsFault, IsPinFault, IsPinsFault, IsSizeFault, IsSymbolsFault}
use Rattle.wfc_task.specs.TileStages.{IsDocumentFault, IsMaskFault, IsMaskFormFault, IsTilePairsFault, IsTilePinFault, IsTilesFault}
use Rattle.wfc_words.specs.RequestView.{RequestView}
use Rattle.wfc_words.specs.declared.kinds.SourceModel.{SourceModel}
use Rattle.wfc_words.specs.declared.kinds.SourceModel.TheVariants.{Overlap, Tiles}

-- there are so many lines, which are too many
pub record IsLinesFault (count : ℕ) (fault : Fault) : Type 0 where
  pub many : MAX_LINES < count
  pub is : fault ≡ Refused (refusals.TooManyPins count)

-- so it is with the lines of the pins file
abbrev pub IsManyPinsFault : RequestView → List File → TaskStage
IsManyPinsFault asked files fault =
    (lines : List PinView) × HoldsPins files asked.pins lines × IsLinesFault (length lines) fault

-- for `explain` a chooser more than it takes lines, and then the problem, whose lines are counted behind their form
abbrev pub explain_order_by : SourceModel → List RuleKind → RequestView → List File → List TaskStage
explain_order_by (Overlap n) kinds asked files =
    IsChooserFault EXPLAIN_CHOOSERS kinds asked.rule
    ∷ IsReadingFault Sample files asked.file
    ∷ IsFormFault asked files
    ∷ IsSymbolsFault asked files
    ∷ IsLearnFault asked files
    ∷ IsNamedFault Pins files asked.pins
    ∷ IsPinsFault files asked.pins
    ∷ IsManyPinsFault asked files
    ∷ IsSizeFault asked files
    ∷ IsPairsFault asked files
    ∷ IsPinFault asked files
    ∷ []
explain_order_by Tiles kinds asked files =
    IsChooserFault EXPLAIN_CHOOSERS kinds asked.rule
    ∷ IsReadingFault Sample files asked.file
    ∷ IsDocumentFault asked files
    ∷ IsTilesFault asked files
    ∷ IsNamedFault Pins files asked.pins
    ∷ IsPinsFault files asked.pins
    ∷ IsManyPinsFault asked files
    ∷ IsNamedFault Mask files asked.mask
    ∷ IsMaskFormFault files asked.mask
    ∷ IsMaskFault asked files asked.mask
    ∷ IsTilePairsFault asked files
    ∷ IsTilePinFault asked files
    ∷ []

-- what is looked at for the explanation that a request asks for
abbrev pub explain_order : List RuleKind → RequestView → List File → List TaskStage
explain_order kinds asked files = explain_order_by asked.source kinds asked files
