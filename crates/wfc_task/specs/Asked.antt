-- What a request has to say, so that a sample can be learned from and a map made.
use Rattle.std.specs.Prelude.{◌<◌, ◌≤◌}
use Rattle.wfc_model.specs.declared.TheConstants.{MAX_OUTPUT_SIDE}
use Rattle.wfc_task.specs.Sources.{window_side_of}
use Rattle.wfc_words.specs.RequestView.{RequestView}
use Rattle.wfc_words.specs.declared.kinds.SourceModel.{SourceModel}
use Rattle.wfc_words.specs.declared.kinds.SourceModel.TheVariants.{Overlap, Tiles}

-- a window has a side of 1 to 6, and one to eight of its images are learned
pub record IsSampleAsked (asked : RequestView) : Type 0 where
  pub some_side : 0 < window_side_of asked.source
  pub small_side : window_side_of asked.source ≤ 6
  pub some_image : 0 < asked.symmetry
  pub eight_images : asked.symmetry ≤ 8

-- what is asked of a sample's windows, by what the map is made of: of tiles nothing
abbrev pub AskedBy : SourceModel → RequestView → Type 0
AskedBy (Overlap n) asked = IsSampleAsked asked
AskedBy Tiles asked = Unit {0}

-- the request asks for tiles, or for windows of a sample within these limits
abbrev pub IsSourceAsked : RequestView → Type 0
IsSourceAsked asked = AskedBy asked.source asked

-- the sides of the map are 1 to 4,096
pub record IsOutputAsked (asked : RequestView) : Type 0 where
  pub some_width : 0 < asked.width
  pub some_height : 0 < asked.height
  pub width_limit : asked.width ≤ MAX_OUTPUT_SIDE
  pub height_limit : asked.height ≤ MAX_OUTPUT_SIDE
