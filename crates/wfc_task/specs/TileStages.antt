-- The stages of a request for a tile map, each with the faults that it may have, over files that are told.
use Rattle.std.specs.Prelude.{List, None, Ok, Option, Some, length, suc, zero, ℕ, ◌≡◌, ◌⊎◌}
use Rattle.wfc_grid.specs.Grid.{GridView}
use Rattle.wfc_grid.specs.Reading.{grid_of}
use Rattle.wfc_outside.specs.Folder.{File}
use Rattle.wfc_pins.specs.PinView.{PinView}
use Rattle.wfc_plan.specs.Files.{IsFile}
use Rattle.wfc_plan.specs.Stages.{IsReadingFault, IsRefusal, TaskStage}
use Rattle.wfc_plan.specs.declared.fault.Refusal.TheVariants as refusals
use Rattle.wfc_plan.specs.declared.fault.Source.TheVariants.{Mask, Picture}
use Rattle.wfc_render.specs.Layout.{layout_of}
use Rattle.wfc_task.specs.Given.{HoldsPins}
use Rattle.wfc_task.specs.Stages.{IsCountFault}
use Rattle.wfc_task.specs.TileGiven.{HoldsMask, HoldsPicture, IsTileSetOf}
use Rattle.wfc_tiled.specs.Built.{tile_pair_count, tile_map_pins}
use Rattle.wfc_tiled.specs.Mask.{MaskView, mask_of}
use Rattle.wfc_tileset.specs.Document.{set_of}
use Rattle.wfc_tileset.specs.Pictures.{kind_of, picture_name, picture_taken, side_of}
use Rattle.wfc_tileset.specs.Tiles.{TileSetView}
use Rattle.wfc_words.specs.RequestView.{RequestView}

-- ---- tile sets

-- the file asked for spells no tile set
abbrev pub IsDocumentFault : RequestView → List File → TaskStage
IsDocumentFault asked files fault =
    (bytes : List ℕ) × IsFile files asked.file bytes × IsRefusal refusals.Tiles (set_of bytes) fault

-- the file asked for spells this document
pub record IsDocumentOf (asked : RequestView) (files : List File) (document : TileSetView)
    : Type 0 where
  pub bytes : List ℕ
  pub file : IsFile files asked.file bytes
  pub spelled : set_of bytes ≡ Ok document

-- the file named for the next tile's picture isn't read, or is none; there is no fault where no file is named
abbrev pub IsPictureFault : List File → Option (List ℕ) → TileSetView → TaskStage
IsPictureFault files None set fault = ⊥
IsPictureFault files (Some name) set fault =
    IsReadingFault (Picture (length set.pictures)) files name fault
    ⊎ ((bytes : List ℕ) × IsFile files name bytes
    × IsRefusal refusals.Tiles (picture_taken set bytes) fault)

-- of the pictures of so many tiles, looked at one by one, this is the fault of the first that has one
abbrev pub IsPicturesFault : List File → ℕ → TileSetView → TaskStage
IsPicturesFault files zero set fault = ⊥
IsPicturesFault files (suc left) set fault =
    IsPictureFault files (picture_name set (length set.pictures)) set fault
    ⊎ ((next : TileSetView) × HoldsPicture files (picture_name set (length set.pictures)) set next
    × IsPicturesFault files left next fault)

-- a picture of the tile set is at fault
abbrev pub IsTilesFault : RequestView → List File → TaskStage
IsTilesFault asked files fault =
    (document : TileSetView) × IsDocumentOf asked files document
    × IsPicturesFault files (length document.tiles) document fault

-- a map of the tile set has no layout
abbrev pub IsTileLayoutFault : RequestView → List File → TaskStage
IsTileLayoutFault asked files fault =
    (set : TileSetView) × IsTileSetOf asked files set
    × IsRefusal refusals.Render
    (layout_of (kind_of set.pictures) asked.form asked.width asked.height (side_of set.pictures))
    fault

-- ---- masks

-- the mask's file spells no grid; there is no fault where no file is named
abbrev pub IsMaskFormFault : List File → Option (List ℕ) → TaskStage
IsMaskFormFault files None fault = ⊥
IsMaskFormFault files (Some name) fault =
    (bytes : List ℕ) × IsFile files name bytes
    × IsRefusal (refusals.Grid Mask) (grid_of bytes) fault

-- the file of this name spells this grid
pub record IsGridOf (files : List File) (name : List ℕ) (grid : GridView) : Type 0 where
  pub bytes : List ℕ
  pub file : IsFile files name bytes
  pub spelled : grid_of bytes ≡ Ok grid

-- the grid is no mask of the map asked for; there is no fault where no file is named
abbrev pub IsMaskFault : RequestView → List File → Option (List ℕ) → TaskStage
IsMaskFault asked files None fault = ⊥
IsMaskFault asked files (Some name) fault =
    (grid : GridView) × IsGridOf files name grid
    × IsRefusal refusals.Mask (mask_of grid asked.width asked.height) fault

-- ---- problems

-- there are too many pairs of a place that is no hole and a variant
abbrev pub IsTilePairsFault : RequestView → List File → TaskStage
IsTilePairsFault asked files fault =
    (set : TileSetView) × IsTileSetOf asked files set
    × ((mask : MaskView) × HoldsMask asked files asked.mask mask
    × IsCountFault (tile_pair_count set mask) fault)

-- a line of pins lies outside of the map or in a hole, or means no variant of the tile set
abbrev pub IsTilePinFault : RequestView → List File → TaskStage
IsTilePinFault asked files fault =
    (set : TileSetView) × IsTileSetOf asked files set
    × ((mask : MaskView) × HoldsMask asked files asked.mask mask
    × ((lines : List PinView) × HoldsPins files asked.pins lines
    × IsRefusal refusals.Build (tile_map_pins set.tiles mask lines) fault))
