-- What is looked at for `fill`, in which order.
use Rattle.std.specs.Prelude.{List, [], ◌∷◌}
use Rattle.wfc_choose.specs.declared.RuleKind.{RuleKind}
use Rattle.wfc_outside.specs.Folder.{File}
use Rattle.wfc_plan.specs.Stages.{IsChooserFault, IsNamedFault, IsReadingFault, TaskStage}
use Rattle.wfc_plan.specs.declared.fault.Source.TheVariants.{Mask, Pins, Sample}
use Rattle.wfc_task.specs.Stages.{IsFormFault, IsLayoutFault, IsLearnFault, IsPairsFault}
use Rattle.wfc_task.specs.Stages.{IsPinFault, IsPinsFault, IsSizeFault, IsSymbolsFault}
use Rattle.wfc_task.specs.TileStages.{IsDocumentFault, IsMaskFault, IsMaskFormFault, IsTileLayoutFault}
use Rattle.wfc_task.specs.TileStages.{IsTilePairsFault, IsTilePinFault, IsTilesFault}
use Rattle.wfc_words.specs.RequestView.{RequestView}
use Rattle.wfc_words.specs.declared.kinds.SourceModel.{SourceModel}
use Rattle.wfc_words.specs.declared.kinds.SourceModel.TheVariants.{Overlap, Tiles}

-- what is looked at for `fill` of a sample, in this order
abbrev pub fill_sample_order : List RuleKind → RequestView → List File → List TaskStage
fill_sample_order kinds asked files =
    IsChooserFault 1 kinds asked.rule
    ∷ IsReadingFault Sample files asked.file
    ∷ IsFormFault asked files
    ∷ IsSymbolsFault asked files
    ∷ IsLearnFault asked files
    ∷ IsLayoutFault asked files
    ∷ IsNamedFault Pins files asked.pins
    ∷ IsPinsFault files asked.pins
    ∷ IsSizeFault asked files
    ∷ IsPairsFault asked files
    ∷ IsPinFault asked files
    ∷ []

-- and of a tile set
abbrev pub fill_tiles_order : List RuleKind → RequestView → List File → List TaskStage
fill_tiles_order kinds asked files =
    IsChooserFault 1 kinds asked.rule
    ∷ IsReadingFault Sample files asked.file
    ∷ IsDocumentFault asked files
    ∷ IsTilesFault asked files
    ∷ IsTileLayoutFault asked files
    ∷ IsNamedFault Pins files asked.pins
    ∷ IsPinsFault files asked.pins
    ∷ IsNamedFault Mask files asked.mask
    ∷ IsMaskFormFault files asked.mask
    ∷ IsMaskFault asked files asked.mask
    ∷ IsTilePairsFault asked files
    ∷ IsTilePinFault asked files
    ∷ []

-- by what the map is made of
abbrev pub fill_order_by : SourceModel → List RuleKind → RequestView → List File → List TaskStage
fill_order_by (Overlap n) kinds asked files = fill_sample_order kinds asked files
fill_order_by Tiles kinds asked files = fill_tiles_order kinds asked files

-- what is looked at for `fill`, in this order
abbrev pub fill_order : List RuleKind → RequestView → List File → List TaskStage
fill_order kinds asked files = fill_order_by asked.source kinds asked files
