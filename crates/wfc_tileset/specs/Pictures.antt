-- Pictures of tiles: what a file is as one, which are taken, and what a variant shows.
use Rattle.std.specs.Prelude.{◌≡◌, ℕ, zero, suc, ◌+◌, ◌-◌, ◌*◌, ◌<◌, ◌≤◌, Bool, true, false, not, ◌&&◌, ◌==◌, nat_lt}
use Rattle.std.specs.Prelude.{nat_le, if◌then◌else◌, List, [], ◌∷◌, ◌++◌, length, map, slice_index_or, Option, None}
use Rattle.std.specs.Prelude.{Some, IsSome, Result, Ok, Err}
use Rattle.std.specs.List.{All, AllPass}
use Rattle.std.specs.Option.{unwrap_or}
use Rattle.wfc_grid.specs.Grid.{GridView}
use Rattle.wfc_grid.specs.Reading.{grid_of}
use Rattle.wfc_model.specs.Raster.{IsFilled}
use Rattle.wfc_outside.specs.declared.whole.TheConstants.{MAX_FILE_BYTES}
use Rattle.wfc_picture.specs.declared.symbol.Kind.{Kind}
use Rattle.wfc_picture.specs.declared.symbol.Kind.TheVariants as kinds
use Rattle.wfc_picture.specs.declared.symbol.Symbol.{Symbol}
use Rattle.wfc_picture.specs.declared.symbol.Symbol.TheVariants.{Char, Rgb}
use Rattle.wfc_ppm.specs.Ppm.{PpmView}
use Rattle.wfc_ppm.specs.Reading.{ppm_of}
use Rattle.wfc_tileset.specs.declared.fault.TileFault.{TileFault}
use Rattle.wfc_tileset.specs.declared.fault.TileFault.TheVariants as fault
use Rattle.wfc_tileset.specs.declared.picture.TheConstants.{MAX_TILE_SIDE}
use Rattle.wfc_tileset.specs.Document.{result_then, is_ppm_name}
use Rattle.wfc_tileset.specs.Shown.{is_of_kind}
use Rattle.wfc_tileset.specs.Tiles.{PictureView, TileSetView, tile_at, variant_at}

-- a picture of a tile is square with a side of 1 to 64, and shows what its kind can show
pub record IsPicture (picture : PictureView) : Type 0 where
  pub filled : IsFilled picture.side picture.side picture.pixels
  pub limit : picture.side ≤ MAX_TILE_SIDE
  pub shown : AllPass (is_of_kind picture.kind) picture.pixels

-- ---- what a file is

-- a picture of a tile is square, and its side is at most 64
abbrev pub is_tile_size : ℕ → ℕ → Bool
is_tile_size width height = width == height && nat_le width MAX_TILE_SIDE

-- a grid as a picture of a tile, if it may be one
abbrev pub of_grid : GridView → Option PictureView
of_grid grid =
    if is_tile_size grid.width grid.height
    then Some (record { kind = kinds.Grid; side = grid.width; pixels = map (λ byte. Char byte) grid.bytes })
    else None

-- a picture of colours as one of a tile, if it may be one
abbrev pub of_ppm : PpmView → Option PictureView
of_ppm ppm =
    if is_tile_size ppm.width ppm.height
    then Some (record { kind = kinds.Ppm ppm.maxval; side = ppm.width; pixels = map (λ colour. Rgb colour) ppm.pixels })
    else None

-- what becomes of a file that was read, and nothing of one that could not be
abbrev pub if_read : {X E : Type 0} → (X → Option PictureView) → Result X E → Option PictureView
if_read f (Ok x) = f x
if_read f (Err e) = None

-- the picture of a tile that a file of this name with these bytes is, if it is one
abbrev pub tile_picture_of : List ℕ → List ℕ → Option PictureView
tile_picture_of name bytes =
    if nat_lt MAX_FILE_BYTES (length bytes) then None
    else if is_ppm_name name then if_read of_ppm (ppm_of bytes)
    else if_read of_grid (grid_of bytes)

-- ---- the pictures of a tile set

-- the file of a tile's picture, if it has one
abbrev pub picture_name : TileSetView → ℕ → Option (List ℕ)
picture_name set tile = (tile_at set.tiles tile).picture

-- the kind of the first picture, and no kind of picture where there is none
abbrev pub kind_of : List PictureView → Kind
kind_of [] = kinds.Plain
kind_of (first ∷ more) = first.kind

-- how long the side of the first picture is, and 1 where there is none
abbrev pub side_of : List PictureView → ℕ
side_of [] = 1
side_of (first ∷ more) = first.side

-- whether two kinds are one
abbrev pub one_kind : Kind → Kind → Bool
one_kind kinds.Grid kinds.Grid = true
one_kind (kinds.Ppm a) (kinds.Ppm b) = a == b
one_kind kinds.Plain kinds.Plain = true
one_kind _ _ = false

-- the picture of a tile, if it is of the first one's kind and as large
abbrev pub fitting_first : ℕ → PictureView → PictureView → Result PictureView TileFault
fitting_first tile first picture =
    if not (one_kind picture.kind first.kind) then Err (fault.MixedKinds tile)
    else if not (picture.side == first.side) then Err (fault.SizeDiffers tile) else Ok picture

-- a picture behind the others, if it is as the first one
abbrev pub fitting_picture : List PictureView → PictureView → Result PictureView TileFault
fitting_picture [] picture = Ok picture
fitting_picture (first ∷ more) picture = fitting_first (length (first ∷ more)) first picture

-- a file that is no picture of a tile
abbrev pub some_picture : ℕ → Option PictureView → Result PictureView TileFault
some_picture tile None = Err (fault.BadPicture tile)
some_picture tile (Some picture) = Ok picture

-- the name of the next picture's file
abbrev pub next_name : TileSetView → List ℕ
next_name set = unwrap_or (picture_name set (length set.pictures)) []

-- the next picture, by the bytes of its file, or its fault
abbrev pub picture_for : TileSetView → List ℕ → Result PictureView TileFault
picture_for set bytes =
    result_then (some_picture (length set.pictures) (tile_picture_of (next_name set) bytes))
    (fitting_picture set.pictures)

-- a tile set with one more picture
abbrev pub with_picture : TileSetView → PictureView → TileSetView
with_picture set picture = record { tiles = set.tiles; pairs = set.pairs; pictures = set.pictures ++ picture ∷ [] }

-- the tile set with the next picture, by the bytes of its file, or that picture's fault
abbrev pub picture_taken : TileSetView → List ℕ → Result TileSetView TileFault
picture_taken set bytes = result_then (picture_for set bytes) (λ picture. Ok (with_picture set picture))

-- each tile has its picture
abbrev pub IsPictured : TileSetView → Type 0
IsPictured set = length set.pictures ≡ length set.tiles

-- a picture of this kind and side
pub record IsPictureOf (kind : Kind) (side : ℕ) (picture : PictureView) : Type 0 where
  pub same_kind : picture.kind ≡ kind
  pub same_side : picture.side ≡ side
  pub is_picture : IsPicture picture

-- all pictures are of the kind and the side of the first
abbrev pub ArePictures : List PictureView → Type 0
ArePictures pictures = All (IsPictureOf (kind_of pictures) (side_of pictures)) pictures

-- the pictures are those of the first tiles, and of tiles that have one
pub record IsDrawn (set : TileSetView) : Type 0 where
  pub few : length set.pictures ≤ length set.tiles
  pub named : 0 < length set.pictures → IsSome (picture_name set 0)
  pub pictures : ArePictures set.pictures

-- ---- what a variant shows

-- what a picture shows in column x of row y, and a blank outside
abbrev pub pixel_in : PictureView → ℕ → ℕ → Symbol
pixel_in picture x y = slice_index_or picture.pixels (y * picture.side + x) (Char 0x20)

-- what it shows after so many quarter turns, counter-clockwise
abbrev pub turned_pixel : PictureView → ℕ → ℕ → ℕ → Symbol
turned_pixel picture zero x y = pixel_in picture x y
turned_pixel picture (suc turns) x y = turned_pixel picture turns (picture.side - 1 - y) x

-- what variant i of a tile with this picture shows: after i quarter turns, or from 4 on the
-- reflection of the variant four before
abbrev pub variant_pixel : PictureView → ℕ → ℕ → ℕ → Symbol
variant_pixel picture i x y =
    if nat_lt i 4 then turned_pixel picture i x y
    else turned_pixel picture (i - 4) (picture.side - 1 - x) y

-- a tile's picture, and one of no pixels where there is none
abbrev pub picture_at : TileSetView → ℕ → PictureView
picture_at set tile = slice_index_or set.pictures tile (record { kind = kinds.Plain; side = 0; pixels = [] })

-- what a variant, by its number, shows in column x of row y
abbrev pub pixel_at : TileSetView → ℕ → ℕ → ℕ → Symbol
pixel_at set v x y = variant_pixel (picture_at set (variant_at set.tiles v).0) (variant_at set.tiles v).1 x y
