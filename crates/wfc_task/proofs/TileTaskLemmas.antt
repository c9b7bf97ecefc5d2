-- How the code of tile sets goes by their plans.
use Rattle.std.proofs.Common.{List, ℕ}
use Rattle.wfc_grid.specs.Grid.{GridView}
use Rattle.wfc_pins.specs.PinView.{PinView}
use Rattle.wfc_plan.specs.Plan.{Plan, and_then, done, step}
use Rattle.wfc_plan.specs.declared.fault.Source.TheVariants.{Mask}
use Rattle.wfc_problem.specs.Network.{Network}
use Rattle.wfc_task.specs.Steps.{grid_in}
use Rattle.wfc_task.specs.TilePlans.{mask_plan}
use Rattle.wfc_task.specs.TileSteps.{mask_in, posed_tiles}
use Rattle.wfc_tiled.specs.Mask.{MaskView}
use Rattle.wfc_tileset.specs.Tiles.{TileSetView}
use Rattle.wfc_words.specs.RequestView.{RequestView}

-- what follows the bytes of a mask, and what follows its grid
abbrev pub behind_mask_grid : RequestView → GridView → Plan MaskView
behind_mask_grid asked grid = step (mask_in asked grid)

abbrev pub behind_mask : RequestView → List ℕ → Plan MaskView
behind_mask asked bytes = and_then (step (grid_in Mask bytes)) (behind_mask_grid asked)

-- what follows the mask, and what follows the pins
abbrev pub behind_masked : RequestView → TileSetView → List PinView → MaskView → Plan (MaskView × Network)
behind_masked asked set lines mask = and_then (step (posed_tiles asked set mask lines)) (λ P. done (mask, P))

abbrev pub behind_pins : RequestView → TileSetView → List PinView → Plan (MaskView × Network)
behind_pins asked set lines = and_then (mask_plan asked) (behind_masked asked set lines)
