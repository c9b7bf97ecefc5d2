-- What is looked at for `learn`, in which order.
use Rattle.std.specs.Prelude.{List, [], ◌∷◌}
use Rattle.wfc_outside.specs.Folder.{File}
use Rattle.wfc_plan.specs.Stages.{IsReadingFault, TaskStage}
use Rattle.wfc_plan.specs.declared.fault.Source.TheVariants.{Sample}
use Rattle.wfc_task.specs.Stages.{IsFormFault, IsLearnFault, IsSymbolsFault}
use Rattle.wfc_task.specs.TileStages.{IsDocumentFault, IsTilesFault}
use Rattle.wfc_words.specs.RequestView.{RequestView}
use Rattle.wfc_words.specs.declared.kinds.SourceModel.{SourceModel}
use Rattle.wfc_words.specs.declared.kinds.SourceModel.TheVariants.{Overlap, Tiles}

-- the stages of `learn`: those of a sample and what it teaches, or of a tile set and its pictures
abbrev pub learn_order_by : SourceModel → RequestView → List File → List TaskStage
learn_order_by (Overlap n) asked files =
    IsReadingFault Sample files asked.file
    ∷ IsFormFault asked files
    ∷ IsSymbolsFault asked files
    ∷ IsLearnFault asked files
    ∷ []
learn_order_by Tiles asked files =
    IsReadingFault Sample files asked.file
    ∷ IsDocumentFault asked files
    ∷ IsTilesFault asked files
    ∷ []

-- the stages of `learn` for a request, in the order in which their faults are looked for
abbrev pub learn_order : RequestView → List File → List TaskStage
learn_order asked files = learn_order_by asked.source asked files
