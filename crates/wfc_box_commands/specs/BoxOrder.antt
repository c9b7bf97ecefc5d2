-- What is looked at for a box, in which order.
use Rattle.std.specs.Prelude.{List, [], ◌∷◌}
use Rattle.wfc_box_commands.specs.BoxStages.{IsBoxLayoutFault, IsBoxPairsFault, IsBoxPinFault, IsBoxPinsFault, IsStacksFault}
use Rattle.wfc_choose.specs.declared.RuleKind.{RuleKind}
use Rattle.wfc_outside.specs.Folder.{File}
use Rattle.wfc_plan.specs.Stages.{IsChooserFault, IsNamedFault, IsReadingFault, TaskStage}
use Rattle.wfc_plan.specs.declared.fault.Source.TheVariants.{Pins, Sample}
use Rattle.wfc_task.specs.TileStages.{IsDocumentFault, IsTilesFault}
use Rattle.wfc_words.specs.RequestView.{RequestView}

-- for a problem, where no box is written: the tile set and its pictures, its stacks, and then the pins
abbrev pub box_order : RequestView → List File → List TaskStage
box_order asked files =
    IsReadingFault Sample files asked.file
    ∷ IsDocumentFault asked files
    ∷ IsTilesFault asked files
    ∷ IsStacksFault asked files
    ∷ IsNamedFault Pins files asked.pins
    ∷ IsBoxPinsFault files asked.pins
    ∷ IsBoxPairsFault asked files
    ∷ IsBoxPinFault asked files
    ∷ []

-- for `box-fill` the chooser before all, and the layout before the pins file
abbrev pub box_fill_order : List RuleKind → RequestView → List File → List TaskStage
box_fill_order kinds asked files =
    IsChooserFault 1 kinds asked.rule
    ∷ IsReadingFault Sample files asked.file
    ∷ IsDocumentFault asked files
    ∷ IsTilesFault asked files
    ∷ IsStacksFault asked files
    ∷ IsBoxLayoutFault asked files
    ∷ IsNamedFault Pins files asked.pins
    ∷ IsBoxPinsFault files asked.pins
    ∷ IsBoxPairsFault asked files
    ∷ IsBoxPinFault asked files
    ∷ []
