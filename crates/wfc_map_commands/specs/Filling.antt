-- What holds of what `fill` works on, whatever the files are.
use Rattle.std.specs.Prelude.{All, List, None, Ok, length, ◌<◌, ◌≡◌, ◌≤◌}
use Rattle.wfc_map_commands.specs.declared.filling.Filled.{Filled}
use Rattle.wfc_map_commands.specs.declared.filling.Filled.TheVariants as filled
use Rattle.wfc_map_commands.specs.declared.filling.Filling.{Filling}
use Rattle.wfc_map_commands.specs.declared.filling.TileFilling.{TileFilling}
use Rattle.wfc_model.specs.Legal.{Pin}
use Rattle.wfc_overlap.specs.Sample.{output_with, problem_of_sample}
use Rattle.wfc_pattern.specs.Patterns.{IsPatterns}
use Rattle.wfc_picture.specs.declared.symbol.Kind.{Kind}
use Rattle.wfc_problem.specs.Network.{IsProblem}
use Rattle.wfc_task.specs.Lesson.{IsShown}
use Rattle.wfc_task.specs.Steps.{sample_layout}
use Rattle.wfc_task.specs.TileSteps.{tile_layout}
use Rattle.wfc_task.specs.Tiling.{IsTilingTask, mask_or_whole}
use Rattle.wfc_tileset.specs.Pictures.{picture_name}
use Rattle.wfc_words.specs.RequestView.{RequestView}

-- what `fill` works on: patterns of a palette's numbers, the layout, and the problem of these patterns
pub record IsFilling (asked : RequestView) (task : Filling) : Type 0 where
  pub taught : IsPatterns task.patterns
  pub sound : IsProblem task.problem
  pub kind : Kind
  pub layout : sample_layout kind asked ≡ Ok task.layout
  pub wide : task.patterns.n ≤ asked.width
  pub high : task.patterns.n ≤ asked.height
  pub problem : (pins : List Pin)
      × (task.problem ≡ problem_of_sample task.patterns (output_with asked.width asked.height asked.wrap_out) pins)
  pub shown : IsShown kind task.palette
  pub numbers : All (λ window. All (λ number. number < length task.palette) window) task.patterns.windows

-- what `fill` works on for a tile set: the layout, and the problem of the tile set, whose pictures
-- are all taken, on the mask
pub record IsTileFilling (asked : RequestView) (task : TileFilling) : Type 0 where
  pub layout : tile_layout task.tiles asked ≡ Ok task.layout
  pub tiled : IsTilingTask asked task.tiles (mask_or_whole asked task.mask) task.problem
  pub pictured : picture_name task.tiles (length task.tiles.pictures) ≡ None

-- by what the map is made of
abbrev pub IsFillingBy : RequestView → Filled → Type 0
IsFillingBy asked (filled.Windows made) = IsFilling asked made
IsFillingBy asked (filled.Tiles made) = IsTileFilling asked made
