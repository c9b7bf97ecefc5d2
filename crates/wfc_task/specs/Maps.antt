-- What a map of a request is, by what it is made of: of windows or of tiles.
use Rattle.std.specs.Prelude.{List, Ok, ℕ, ◌≡◌}
use Rattle.wfc_model.specs.Legal.{IsLegalPicture, Rules}
use Rattle.wfc_model.specs.Raster.{Raster}
use Rattle.wfc_outside.specs.Folder.{File}
use Rattle.wfc_overlap.specs.Bridge.{picture_of}
use Rattle.wfc_overlap.specs.Sample.{Output, output_with}
use Rattle.wfc_problem.specs.Network.{Network}
use Rattle.wfc_render.specs.Layout.{layout_of}
use Rattle.wfc_render.specs.Map.{map_text}
use Rattle.wfc_render.specs.Tiled.{tile_text}
use Rattle.wfc_render.specs.declared.form.Layout.{Layout}
use Rattle.wfc_task.specs.MapKind.{MapKind}
use Rattle.wfc_task.specs.Posed.{Posed, PosedBy}
use Rattle.wfc_task.specs.Sources.{window_side_of}
use Rattle.wfc_tiled.specs.Maps.{IsLegalTileMap, tile_map}
use Rattle.wfc_tileset.specs.Pictures.{kind_of, side_of}
use Rattle.wfc_words.specs.RequestView.{RequestView}
use Rattle.wfc_words.specs.declared.kinds.SourceModel.{SourceModel}
use Rattle.wfc_words.specs.declared.kinds.SourceModel.TheVariants.{Overlap, Tiles}

-- the output that a request asks for
abbrev pub asked_output : RequestView → Output
asked_output asked = output_with asked.width asked.height asked.wrap_out

-- how windows are taken and compared as a request says
abbrev pub rules_of : RequestView → Rules
rules_of asked = record {
  n = window_side_of asked.source;
  symmetry = asked.symmetry;
  wrap_in = asked.wrap_in;
  wrap_out = asked.wrap_out;
}

-- of windows: a picture of palette numbers of the size asked for, each of whose windows is learned
-- from the sample; of tiles:
-- a map of variants of that size, whose neighbours are allowed, with the holes of the mask; and of
-- both the pins and bans of
-- the pins file hold
abbrev pub IsLegalBy : (source : SourceModel) (asked : RequestView) (files : List File) (P : Network)
    → PosedBy source asked files P → Raster → Type 0
IsLegalBy (Overlap n) asked files P of m =
    IsLegalPicture of.sample.picture (rules_of asked) of.problem.pins asked.width asked.height m
IsLegalBy Tiles asked files P of m = IsLegalTileMap of.set of.mask asked.wrap_out of.problem.pins m

-- the map is one that the request asks for
abbrev pub IsLegal : (asked : RequestView) (files : List File) (P : Network) → Posed asked files P → Raster → Type 0
IsLegal asked files P posed m = IsLegalBy asked.source asked files P posed m

-- the map that an assignment makes
abbrev pub map_by : (source : SourceModel) (asked : RequestView) (files : List File) (P : Network)
    → PosedBy source asked files P → List ℕ → Raster
map_by (Overlap n) asked files P of a = picture_of of.patterns (asked_output asked) a
map_by Tiles asked files P of a = tile_map of.mask a

-- the map that an assignment makes for a request, of windows or of tiles as it says
abbrev pub map_of : (asked : RequestView) (files : List File) (P : Network) → Posed asked files P → List ℕ → Raster
map_of asked files P posed a = map_by asked.source asked files P posed a

-- the text of a map in a layout
abbrev pub map_text_by : (source : SourceModel) (asked : RequestView) (files : List File) (P : Network)
    → PosedBy source asked files P → Layout → Raster → List ℕ
map_text_by (Overlap n) asked files P of layout m = map_text layout of.palette m
map_text_by Tiles asked files P of layout m = tile_text layout of.set m

-- the text of a map of a request in a layout, of windows or of tiles as it says
abbrev pub text_of_map : (asked : RequestView) (files : List File) (P : Network)
    → Posed asked files P → Layout → Raster → List ℕ
text_of_map asked files P posed layout m = map_text_by asked.source asked files P posed layout m

-- the layout is that of the request: of windows for the kind of the sample's symbols, of tiles for their pictures
abbrev pub IsLaidBy : (source : SourceModel) (asked : RequestView) (files : List File) (P : Network)
    → PosedBy source asked files P → Layout → Type 0
IsLaidBy (Overlap n) asked files P of layout = layout_of of.kind asked.form asked.width asked.height 1 ≡ Ok layout
IsLaidBy Tiles asked files P of layout =
    layout_of (kind_of of.set.pictures) asked.form asked.width asked.height (side_of of.set.pictures) ≡ Ok layout

-- the layout is the one in which the map of the request is to be written
abbrev pub IsMapLaid : (asked : RequestView) (files : List File) (P : Network) → Posed asked files P → Layout → Type 0
IsMapLaid asked files P posed layout = IsLaidBy asked.source asked files P posed layout

-- maps of windows and of tiles
abbrev pub flat_maps : MapKind
flat_maps = record {
  Map = Raster;
  Layout = Layout;
  IsPosed = Posed;
  IsLaid = IsMapLaid;
  IsLegal = IsLegal;
  map_of = map_of;
  text_of = text_of_map;
}
