-- Tile sets, masks and their problems over files that are told, in the subject's words.
use Rattle.std.specs.Prelude.{List, None, Ok, Option, Some, length, suc, zero, ℕ, ◌*◌, ◌≡◌, ◌≤◌}
use Rattle.wfc_grid.specs.Grid.{GridView}
use Rattle.wfc_grid.specs.Spelling.{SpellsGrid}
use Rattle.wfc_model.specs.Legal.{Pin}
use Rattle.wfc_outside.specs.Folder.{File}
use Rattle.wfc_pins.specs.PinView.{PinView}
use Rattle.wfc_plan.specs.Files.{IsFile}
use Rattle.wfc_problem.specs.Network.{Network}
use Rattle.wfc_problem.specs.declared.TheConstants.{MAX_PAIRS}
use Rattle.wfc_task.specs.Given.{HoldsPins}
use Rattle.wfc_tiled.specs.Built.{tile_pair_count, tile_map_pins}
use Rattle.wfc_tiled.specs.Mask.{MaskView, mask_of, plain_mask}
use Rattle.wfc_tiled.specs.Tiles.{problem_of_tiles}
use Rattle.wfc_tileset.specs.Document.{set_of}
use Rattle.wfc_tileset.specs.Pictures.{picture_name, picture_taken}
use Rattle.wfc_tileset.specs.Tiles.{TileSetView}
use Rattle.wfc_words.specs.RequestView.{RequestView}

-- the next tile's picture is that of the file of this name; none is taken where no file is named
abbrev pub HoldsPicture : List File → Option (List ℕ) → TileSetView → TileSetView → Type 0
HoldsPicture files None before after = before ≡ after
HoldsPicture files (Some name) before after =
    (bytes : List ℕ) × IsFile files name bytes × (picture_taken before bytes ≡ Ok after)

-- the pictures of so many tiles are, one by one, those of the files that are named for them
abbrev pub HoldsPictures : List File → ℕ → TileSetView → TileSetView → Type 0
HoldsPictures files zero before after = before ≡ after
HoldsPictures files (suc left) before after =
    (middle : TileSetView) × HoldsPicture files (picture_name before (length before.pictures))
    before middle × HoldsPictures files left middle after

-- the file asked for spells the document of this tile set, and its pictures are those of the files that it names
pub record IsTileSetOf (asked : RequestView) (files : List File) (set : TileSetView) : Type 0 where
  pub bytes : List ℕ
  pub file : IsFile files asked.file bytes
  pub document : TileSetView
  pub spelled : set_of bytes ≡ Ok document
  pub pictures : HoldsPictures files (length document.tiles) document set

-- the file of this name spells a grid, within the limit of a grid, that is this mask
pub record IsMaskFile (asked : RequestView) (files : List File) (name : List ℕ) (mask : MaskView) : Type 0 where
  pub bytes : List ℕ
  pub file : IsFile files name bytes
  pub grid : GridView
  pub spelled : SpellsGrid bytes grid
  pub small : grid.width * grid.height ≤ 1048576
  pub is_mask : mask_of grid asked.width asked.height ≡ Ok mask

-- the mask is that of the file of this name; there are no holes where no file is named
abbrev pub HoldsMask : RequestView → List File → Option (List ℕ) → MaskView → Type 0
HoldsMask asked files None mask = plain_mask asked.width asked.height ≡ mask
HoldsMask asked files (Some name) mask = IsMaskFile asked files name mask

-- the problem of this tile set, on this mask, which is that asked for, with the pins that the lines
-- of the pins file mean
pub record IsTileProblemOf (asked : RequestView) (files : List File) (set : TileSetView)
    (mask : MaskView) (P : Network) : Type 0 where
  pub lines : List PinView
  pub held : HoldsPins files asked.pins lines
  pub masked : HoldsMask asked files asked.mask mask
  pub few_pairs : tile_pair_count set mask ≤ MAX_PAIRS
  pub pins : List Pin
  pub meant : tile_map_pins set.tiles mask lines ≡ Ok pins
  pub problem : P ≡ problem_of_tiles set mask asked.wrap_out pins
