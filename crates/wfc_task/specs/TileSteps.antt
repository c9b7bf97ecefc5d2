-- The steps of tasks on tile sets that read no file, each with its first fault.
use Rattle.std.specs.Prelude.{List, Result, ℕ}
use Rattle.wfc_grid.specs.Grid.{GridView}
use Rattle.wfc_pins.specs.PinView.{PinView}
use Rattle.wfc_plan.specs.Plan.{or_refuse}
use Rattle.wfc_plan.specs.declared.fault.Refusal.{Refusal}
use Rattle.wfc_plan.specs.declared.fault.Refusal.TheVariants.{Build, Mask, Render, Tiles}
use Rattle.wfc_problem.specs.Network.{Network}
use Rattle.wfc_render.specs.Layout.{layout_of}
use Rattle.wfc_render.specs.declared.form.Layout.{Layout}
use Rattle.wfc_tiled.specs.Built.{tile_map_problem}
use Rattle.wfc_tiled.specs.Mask.{MaskView, mask_of}
use Rattle.wfc_tileset.specs.Document.{set_of}
use Rattle.wfc_tileset.specs.Pictures.{kind_of, picture_taken, side_of}
use Rattle.wfc_tileset.specs.Tiles.{TileSetView}
use Rattle.wfc_words.specs.RequestView.{RequestView}

-- the tile set that a document spells, without its pictures
abbrev pub document_in : List ℕ → Result TileSetView Refusal
document_in text = or_refuse Tiles (set_of text)

-- the tile set with the picture of its next tile
abbrev pub with_next_picture : TileSetView → List ℕ → Result TileSetView Refusal
with_next_picture set text = or_refuse Tiles (picture_taken set text)

-- how a map of a tile set is written
abbrev pub tile_layout : TileSetView → RequestView → Result Layout Refusal
tile_layout set asked = or_refuse Render (layout_of (kind_of set.pictures) asked.form asked.width asked.height (side_of set.pictures))

-- the mask that a grid spells for the map asked for
abbrev pub mask_in : RequestView → GridView → Result MaskView Refusal
mask_in asked grid = or_refuse Mask (mask_of grid asked.width asked.height)

-- the problem of a tile set, a mask and the lines of a pins file
abbrev pub posed_tiles : RequestView → TileSetView → MaskView → List PinView → Result Network Refusal
posed_tiles asked set mask lines = or_refuse Build (tile_map_problem set mask asked.wrap_out lines)
