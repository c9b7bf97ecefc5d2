-- What `learn` promises, in the words of its subject.
use Rattle.std.specs.Prelude.{List, ℕ, ◌≡◌}
use Rattle.wfc_outside.specs.Folder.{File}
use Rattle.wfc_outside.specs.Sink.{after_bytes, after_finish}
use Rattle.wfc_pattern.specs.Patterns.{PatternsView}
use Rattle.wfc_picture.specs.declared.symbol.Symbol.{Symbol}
use Rattle.wfc_render.specs.Learned.{learned_text}
use Rattle.wfc_render.specs.LearnedTiles.{learned_tiles_text}
use Rattle.wfc_reply.specs.Asking.{Promises}
use Rattle.wfc_reply.specs.Call.{Call}
use Rattle.wfc_reply.specs.CutClaims.{CutsText}
use Rattle.wfc_reply.specs.Reply.{HasAnswer}
use Rattle.wfc_task.specs.Given.{IsTaught}
use Rattle.wfc_task.specs.TileGiven.{IsTileSetOf}
use Rattle.wfc_tileset.specs.Tiles.{TileSetView}
use Rattle.wfc_words.specs.RequestView.{RequestView}
use Rattle.wfc_words.specs.declared.kinds.CommandKind.TheVariants as commands
use Rattle.wfc_words.specs.declared.kinds.SourceModel.{SourceModel}
use Rattle.wfc_words.specs.declared.kinds.SourceModel.TheVariants.{Overlap, Tiles}

-- the text of the rules of a request: what the sample teaches, or what the tile set allows
abbrev pub IsRulesBy : SourceModel → RequestView → List File → List ℕ → Type 0
IsRulesBy (Overlap n) asked files text =
    (patterns : PatternsView) × (palette : List Symbol) × IsTaught asked files patterns palette
    × (text ≡ learned_text patterns palette)
IsRulesBy Tiles asked files text = (set : TileSetView) × IsTileSetOf asked files set × (text ≡ learned_tiles_text set)

-- this is the text of the rules that a request asks for over these files
abbrev pub IsRules : RequestView → List File → List ℕ → Type 0
IsRules asked files text = IsRulesBy asked.source asked files text

-- status 0 of `learn`: the rules were written
abbrev pub WritesLearned : Call → RequestView → List File → Type 0
WritesLearned call asked files =
    HasAnswer call.status
    → (call.status ≡ 0) × (text : List ℕ) × IsRules asked files text
    × (call.after.out ≡ after_finish (after_bytes call.before.out text))

-- what a call promises of a request for `learn`
pub record LearnPromise (call : Call) (asked : RequestView) (files : List File) : Type 0 where
  pub written : WritesLearned call asked files
  pub cut : CutsText IsRules call asked files

-- this, of each request over told files
abbrev pub LearnPromises : Call → Type 0
LearnPromises call = Promises commands.Learn LearnPromise call
