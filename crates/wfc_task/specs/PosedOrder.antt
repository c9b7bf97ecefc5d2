-- What is looked at for the problem of a request, in which order.
use Rattle.std.specs.Prelude.{List, [], ◌∷◌}
use Rattle.wfc_outside.specs.Folder.{File}
use Rattle.wfc_plan.specs.Stages.{IsNamedFault, IsReadingFault, TaskStage}
use Rattle.wfc_plan.specs.declared.fault.Source.TheVariants.{Mask, Pins, Sample}
use Rattle.wfc_task.specs.Stages.{IsFormFault, IsLearnFault, IsPairsFault, IsPinFault, IsPinsFault, IsSizeFault, IsSymbolsFault}
use Rattle.wfc_task.specs.TileStages.{IsDocumentFault, IsMaskFault, IsMaskFormFault, IsTilePairsFault, IsTilePinFault, IsTilesFault}
use Rattle.wfc_words.specs.RequestView.{RequestView}
use Rattle.wfc_words.specs.declared.kinds.SourceModel.{SourceModel}
use Rattle.wfc_words.specs.declared.kinds.SourceModel.TheVariants.{Overlap, Tiles}

-- what is looked at for a problem, where no map is written
abbrev pub posed_order_by : SourceModel → RequestView → List File → List TaskStage
posed_order_by (Overlap n) asked files =
    IsReadingFault Sample files asked.file
    ∷ IsFormFault asked files
    ∷ IsSymbolsFault asked files
    ∷ IsLearnFault asked files
    ∷ IsNamedFault Pins files asked.pins
    ∷ IsPinsFault files asked.pins
    ∷ IsSizeFault asked files
    ∷ IsPairsFault asked files
    ∷ IsPinFault asked files
    ∷ []
posed_order_by Tiles asked files =
    IsReadingFault Sample files asked.file
    ∷ IsDocumentFault asked files
    ∷ IsTilesFault asked files
    ∷ IsNamedFault Pins files asked.pins
    ∷ IsPinsFault files asked.pins
    ∷ IsNamedFault Mask files asked.mask
    ∷ IsMaskFormFault files asked.mask
    ∷ IsMaskFault asked files asked.mask
    ∷ IsTilePairsFault asked files
    ∷ IsTilePinFault asked files
    ∷ []

-- what is looked at for the problem of a request
abbrev pub posed_order : RequestView → List File → List TaskStage
posed_order asked files = posed_order_by asked.source asked files
