-- Small requests with their files, which may have several faults at once, and small samples with what they teach, for laws.
use Rattle.std.specs.Prelude.{Err, List, None, Ok, Option, Some, [], codes, length, true, ℕ, ◌∷◌, ◌≡◌}
use Rattle.wfc_grid.specs.Grid.{GridView}
use Rattle.wfc_outside.specs.Folder.{File, file_of}
use Rattle.wfc_outside.specs.declared.whole.ReadFault.TheVariants.{TooLong}
use Rattle.wfc_picture.specs.declared.symbol.Kind.TheVariants as kinds
use Rattle.wfc_picture.specs.declared.symbol.Symbol.TheVariants.{Char}
use Rattle.wfc_plan.specs.Plan.{Plan, outcome}
use Rattle.wfc_plan.specs.declared.fault.Fault.TheVariants.{Unread}
use Rattle.wfc_plan.specs.declared.fault.Source.{Source}
use Rattle.wfc_ppm.specs.Ppm.{PpmView}
use Rattle.wfc_ppm.specs.Small.{colour}
use Rattle.wfc_render.specs.Layout.{layout_of}
use Rattle.wfc_render.specs.declared.form.Form.{Form}
use Rattle.wfc_render.specs.declared.form.Form.TheVariants.{P6}
use Rattle.wfc_render.specs.declared.form.Layout.{Layout}
use Rattle.wfc_task.specs.TileGiven.{IsTileSetOf}
use Rattle.wfc_task.specs.declared.lesson.Taught.{Taught}
use Rattle.wfc_tileset.specs.Pictures.{kind_of, side_of}
use Rattle.wfc_tileset.specs.Tiles.{TileSetView}
use Rattle.wfc_words.specs.RequestView.{RequestView, default_request}
use Rattle.wfc_words.specs.declared.kinds.CommandKind.TheVariants.{Fill}
use Rattle.wfc_words.specs.declared.kinds.SourceModel.{SourceModel}
use Rattle.wfc_words.specs.declared.kinds.SourceModel.TheVariants.{Overlap, Tiles}

-- the file of this name has these bytes
abbrev pub file : List ℕ → List ℕ → File
file name bytes = record { name = name; bytes = bytes }

-- a map of two by one of the file `a`, with the pins of `p`, the mask `m`, the steps `s` and the refutation `r`
abbrev pub asked_of : SourceModel → Option Form → RequestView
asked_of source form = record (default_request Fill) {
  file = codes "a";
  source = source;
  width = 2;
  height = 1;
  pins = Some (codes "p");
  steps = Some (codes "s");
  refutation = Some (codes "r");
  budget = 0;
  form = form;
  format = 1;
  mask = Some (codes "m");
}

-- a sample of three by two, and what stands beside it
abbrev pub with_sample : List File → List File
with_sample others = file (codes "a") (codes "xyx\nyyx\n") ∷ others

-- so it is beside a pins file of this text
abbrev pub with_pins : List ℕ → List File
with_pins text = with_sample (file (codes "p") text ∷ [])

-- what a sample teaches that begins with an `x` and has a `y`: these windows of two by two of their numbers, so often each
abbrev pub small_lesson : List (List ℕ) → List ℕ → Taught
small_lesson windows weights = record {
  kind = kinds.Grid;
  palette = Char 120 ∷ Char 121 ∷ [];
  patterns = record { n = 2; windows = windows; weights = weights };
}

-- the windows that lie in the sample of three by two
abbrev pub inner_windows : List (List ℕ)
inner_windows = (0 ∷ 1 ∷ 1 ∷ 1 ∷ []) ∷ (1 ∷ 0 ∷ 1 ∷ 0 ∷ []) ∷ []

-- those that begin at each of its pixels where it wraps, the second of which comes twice
abbrev pub wrapped_windows : List (List ℕ)
wrapped_windows =
    (0 ∷ 1 ∷ 1 ∷ 1 ∷ []) ∷ (1 ∷ 0 ∷ 1 ∷ 0 ∷ []) ∷ (0 ∷ 0 ∷ 0 ∷ 1 ∷ [])
    ∷ (1 ∷ 1 ∷ 0 ∷ 1 ∷ []) ∷ (0 ∷ 1 ∷ 0 ∷ 0 ∷ []) ∷ []

-- those that lie in it, each with its reflection behind it
abbrev pub reflected_windows : List (List ℕ)
reflected_windows =
    (0 ∷ 1 ∷ 1 ∷ 1 ∷ []) ∷ (1 ∷ 0 ∷ 1 ∷ 1 ∷ []) ∷ (1 ∷ 0 ∷ 1 ∷ 0 ∷ []) ∷ (0 ∷ 1 ∷ 0 ∷ 1 ∷ []) ∷ []

-- the file asked for spells this tile set, and its maps have this layout
pub record IsLaid (asked : RequestView) (files : List File) (set : TileSetView) : Type 0 where
  pub tiles : IsTileSetOf asked files set
  pub layout : Layout
  pub written :
      layout_of (kind_of set.pictures) asked.form asked.width asked.height (side_of set.pictures)
      ≡ Ok layout

-- the pins file has these bytes, or isn't there, and there is no mask
pub record AreBeside (files : List File) (pins : Option (List ℕ)) : Type 0 where
  pub pins_file : file_of files (codes "p") ≡ pins
  pub mask_file : file_of files (codes "m") ≡ None

-- a map of a sample, with windows of this side, in this form
abbrev pub sample_asked : ℕ → Form → RequestView
sample_asked n form = asked_of (Overlap n) (Some form)

-- a map of a tile set, in the form of its kind
abbrev pub tiles_asked : RequestView
tiles_asked = asked_of Tiles None

-- a map of seven by four that doesn't wrap, of windows of side 3 in five images of a sample that wraps
abbrev pub windows_asked : RequestView
windows_asked = record (default_request Fill) {
  source = Overlap 3;
  width = 7;
  height = 4;
  symmetry = 5;
  wrap_in = true;
}

-- two pixels in a row, in colours whose greatest sample is nine
abbrev pub colour_pair : PpmView
colour_pair = record { width = 2; height = 1; maxval = 9; pixels = colour 1 2 3 ∷ colour 9 5 4 ∷ [] }

-- two pixels in a row, an `x` and a `y`
abbrev pub character_pair : GridView
character_pair = record { width = 2; height = 1; bytes = 120 ∷ 121 ∷ [] }

-- a map of seven by four that wraps, of a tile set; what is said of windows is for samples alone
abbrev pub wrapped_asked : RequestView
wrapped_asked = record (default_request Fill) {
  source = Tiles;
  width = 7;
  height = 4;
  symmetry = 5;
  wrap_out = true;
  form = Some P6;
}

-- a map of three by two of a tile set
abbrev pub wide_asked : RequestView
wide_asked = record tiles_asked { width = 3; height = 2 }

-- the file of this name has a byte more than a file may have
pub record IsLong (files : List File) (name : List ℕ) : Type 0 where
  pub bytes : List ℕ
  pub there : file_of files name ≡ Some bytes
  pub long : length bytes ≡ 16777217

-- over these files the plan is at fault, since the file of this role is too long
abbrev pub IsReadTooLong : {T : Type 0} → Plan T → List File → Source → Type 0
IsReadTooLong plan files source = outcome plan files ≡ Err (Unread source TooLong)
