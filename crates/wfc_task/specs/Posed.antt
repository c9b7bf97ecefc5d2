-- The problem of a request, whatever its map is made of.
use Rattle.std.specs.Prelude.{List}
use Rattle.wfc_outside.specs.Folder.{File}
use Rattle.wfc_pattern.specs.Patterns.{PatternsView}
use Rattle.wfc_picture.specs.declared.symbol.Kind.{Kind}
use Rattle.wfc_picture.specs.declared.symbol.Symbol.{Symbol}
use Rattle.wfc_plan.specs.Plan.{Plan, and_then, done}
use Rattle.wfc_problem.specs.Network.{Network}
use Rattle.wfc_task.specs.Asked.{IsOutputAsked, IsSourceAsked}
use Rattle.wfc_task.specs.Given.{IsProblemOf, IsSample}
use Rattle.wfc_task.specs.SamplePlans.{problem_plan, sample_plan}
use Rattle.wfc_task.specs.TileGiven.{IsTileProblemOf, IsTileSetOf}
use Rattle.wfc_task.specs.TilePlans.{tiled_plan, tiles_plan}
use Rattle.wfc_tiled.specs.Mask.{MaskView}
use Rattle.wfc_tileset.specs.Tiles.{TileSetView}
use Rattle.wfc_words.specs.RequestView.{RequestView}
use Rattle.wfc_words.specs.declared.kinds.SourceModel.{SourceModel}
use Rattle.wfc_words.specs.declared.kinds.SourceModel.TheVariants.{Overlap, Tiles}

-- the sample is read and learned from, and then the problem is made
abbrev pub sample_problem_plan : RequestView → Plan Network
sample_problem_plan asked = and_then (sample_plan asked) (λ lesson. problem_plan asked lesson)

-- the tile set is read, and then the problem is made
abbrev pub tile_problem_plan : RequestView → Plan Network
tile_problem_plan asked = and_then (tiles_plan asked) (λ set. and_then (tiled_plan asked set) (λ made. done made.1))

-- what is read and refused for the problem of a request, by what its map is made of
abbrev pub posed_plan_by : SourceModel → RequestView → Plan Network
posed_plan_by (Overlap n) asked = sample_problem_plan asked
posed_plan_by Tiles asked = tile_problem_plan asked

-- what is read and refused for the problem of a request
abbrev pub posed_plan : RequestView → Plan Network
posed_plan asked = posed_plan_by asked.source asked

-- the sample teaches these patterns, and the problem is that of the request
pub record OfSample (asked : RequestView) (files : List File) (P : Network) : Type 0 where
  pub kind : Kind
  pub patterns : PatternsView
  pub palette : List Symbol
  pub sample : IsSample asked files kind patterns palette
  pub problem : IsProblemOf asked files patterns palette P

-- the file spells this tile set, and the problem is that of the request
pub record OfTiles (asked : RequestView) (files : List File) (P : Network) : Type 0 where
  pub set : TileSetView
  pub tiles : IsTileSetOf asked files set
  pub mask : MaskView
  pub problem : IsTileProblemOf asked files set mask P

-- this is the problem of the request over these files, for a map that is made of this
abbrev pub PosedBy : SourceModel → RequestView → List File → Network → Type 0
PosedBy (Overlap n) asked files P = OfSample asked files P
PosedBy Tiles asked files P = OfTiles asked files P

-- this is the problem of the request over these files
abbrev pub Posed : RequestView → List File → Network → Type 0
Posed asked files P = PosedBy asked.source asked files P

-- this holds of the problem of any request for a map, over any files
abbrev pub HoldsOfPosed : ((asked : RequestView) (files : List File) (P : Network) → Posed asked files P → Type 0) → Type 0
HoldsOfPosed Holds =
    (asked : RequestView) (files : List File) (P : Network) (posed : Posed asked files P)
    → IsSourceAsked asked → IsOutputAsked asked → Holds asked files P posed
