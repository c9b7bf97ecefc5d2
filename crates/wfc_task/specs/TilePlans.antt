-- What is read and refused of a tile set, its pictures and its mask, in order.
use Rattle.std.specs.Prelude.{List, None, Option, Some, length, suc, zero, ℕ}
use Rattle.wfc_plan.specs.Files.{file_plan}
use Rattle.wfc_plan.specs.Plan.{Plan, and_then, done, step}
use Rattle.wfc_plan.specs.declared.fault.Source.TheVariants.{Mask, Picture, Sample}
use Rattle.wfc_problem.specs.Network.{Network}
use Rattle.wfc_task.specs.SamplePlans.{pins_plan}
use Rattle.wfc_task.specs.Steps.{grid_in}
use Rattle.wfc_task.specs.TileSteps.{document_in, mask_in, with_next_picture, posed_tiles}
use Rattle.wfc_tiled.specs.Mask.{MaskView, plain_mask}
use Rattle.wfc_tileset.specs.Pictures.{picture_name}
use Rattle.wfc_tileset.specs.Tiles.{TileSetView}
use Rattle.wfc_words.specs.RequestView.{RequestView}

-- the document is read
abbrev pub document_plan : RequestView → Plan TileSetView
document_plan asked = and_then (file_plan Sample asked.file) (λ bytes. step (document_in bytes))

-- the file of this name is read, which is the picture of the next tile; there is none where no file is named
abbrev pub tile_picture_plan : Option (List ℕ) → TileSetView → Plan TileSetView
tile_picture_plan None set = done set
tile_picture_plan (Some name) set =
    and_then (file_plan (Picture (length set.pictures)) name) (λ bytes. step (with_next_picture set bytes))

-- the picture of the next tile is read, if it has one
abbrev pub next_plan : TileSetView → Plan TileSetView
next_plan set = tile_picture_plan (picture_name set (length set.pictures)) set

-- the pictures of so many tiles are read, one by one
abbrev pub pictures_plan : ℕ → TileSetView → Plan TileSetView
pictures_plan zero set = done set
pictures_plan (suc left) set = and_then (next_plan set) (λ set. pictures_plan left set)

-- the document is read, and then the pictures of its tiles are
abbrev pub tiles_plan : RequestView → Plan TileSetView
tiles_plan asked = and_then (document_plan asked) (λ set. pictures_plan (length set.tiles) set)

-- the file of a mask is read
abbrev pub mask_file_plan : RequestView → List ℕ → Plan MaskView
mask_file_plan asked name =
    and_then (file_plan Mask name) (λ bytes.
    and_then (step (grid_in Mask bytes)) (λ grid.
    step (mask_in asked grid)))

-- the mask is read, if one is named; else there are no holes
abbrev pub mask_plan_by : Option (List ℕ) → RequestView → Plan MaskView
mask_plan_by None asked = done (plain_mask asked.width asked.height)
mask_plan_by (Some name) asked = mask_file_plan asked name

-- the mask of a request is read, if it names one; else there are no holes
abbrev pub mask_plan : RequestView → Plan MaskView
mask_plan asked = mask_plan_by asked.mask asked

-- the pins file and then the mask are read, and then the problem is made
abbrev pub tiled_plan : RequestView → TileSetView → Plan (MaskView × Network)
tiled_plan asked set =
    and_then (pins_plan asked.pins) (λ lines.
    and_then (mask_plan asked) (λ mask.
    and_then (step (posed_tiles asked set mask lines)) (λ P.
    done (mask, P))))
