-- The task of `fill` over files that are told, in the subject's words.
use Rattle.wfc_plan.specs.Kinds.{HasChoosers}
use Rattle.std.specs.Prelude.{List, Ok, ◌↔◌, ◌≡◌}
use Rattle.wfc_choose.specs.declared.RuleKind.{RuleKind}
use Rattle.wfc_map_commands.specs.FillTask.{fill, fill_plan, fill_tiles}
use Rattle.wfc_outside.specs.Folder.{File}
use Rattle.wfc_pattern.specs.Patterns.{PatternsView}
use Rattle.wfc_picture.specs.declared.symbol.Kind.{Kind}
use Rattle.wfc_picture.specs.declared.symbol.Symbol.{Symbol}
use Rattle.wfc_plan.specs.Plan.{outcome}
use Rattle.wfc_problem.specs.Network.{Network}
use Rattle.wfc_render.specs.Layout.{layout_of}
use Rattle.wfc_render.specs.declared.form.Layout.{Layout}
use Rattle.wfc_task.specs.Given.{IsProblemOf, IsSample}
use Rattle.wfc_task.specs.TileGiven.{IsTileProblemOf, IsTileSetOf}
use Rattle.wfc_tiled.specs.Mask.{MaskView}
use Rattle.wfc_tileset.specs.Pictures.{kind_of, side_of}
use Rattle.wfc_tileset.specs.Tiles.{TileSetView}
use Rattle.wfc_words.specs.RequestView.{RequestView}

-- a chooser goes by the rule, and the sample, the layout and the problem are those of the request
pub record IsFillTask (kinds : List RuleKind) (asked : RequestView) (files : List File)
    (patterns : PatternsView) (palette : List Symbol) (layout : Layout) (P : Network) : Type 0 where
  pub chooser : HasChoosers 1 kinds asked.rule
  pub kind : Kind
  pub sample : IsSample asked files kind patterns palette
  pub written : layout_of kind asked.form asked.width asked.height 1 ≡ Ok layout
  pub problem : IsProblemOf asked files patterns palette P

-- a chooser goes by the rule, and the tile set, the layout, the mask and the problem are those of the request
pub record IsTileFillTask (kinds : List RuleKind) (asked : RequestView) (files : List File)
    (set : TileSetView) (mask : MaskView) (layout : Layout) (P : Network) : Type 0 where
  pub chooser : HasChoosers 1 kinds asked.rule
  pub tiles : IsTileSetOf asked files set
  pub written : layout_of (kind_of set.pictures) asked.form asked.width asked.height (side_of set.pictures) ≡ Ok layout
  pub problem : IsTileProblemOf asked files set mask P

-- over any files `fill` of a sample comes to a task exactly where it is given so
abbrev pub IsFillMade : List RuleKind → RequestView → Type 0
IsFillMade kinds asked =
    (files : List File) (patterns : PatternsView) (palette : List Symbol) (layout : Layout) (P : Network)
    → (outcome (fill_plan kinds asked) files ≡ Ok (fill patterns palette layout P))
    ↔ IsFillTask kinds asked files patterns palette layout P

-- over any files `fill` of tiles comes to a task exactly where it is given so
abbrev pub IsTileFillMade : List RuleKind → RequestView → Type 0
IsTileFillMade kinds asked =
    (files : List File) (set : TileSetView) (mask : MaskView) (layout : Layout) (P : Network)
    → (outcome (fill_plan kinds asked) files ≡ Ok (fill_tiles set mask layout P))
    ↔ IsTileFillTask kinds asked files set mask layout P
