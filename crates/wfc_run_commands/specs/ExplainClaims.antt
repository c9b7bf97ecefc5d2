-- What `explain` promises, in the words of its subject.
use Rattle.std.specs.List.Sorted.{IsStrictlyIncreasing}
use Rattle.std.specs.Prelude.{All, Bool, Contains, List, Some, map, ℕ, ◌<◌, ◌≡◌}
use Rattle.wfc_choose.specs.Pick.{Rule}
use Rattle.wfc_explain.specs.Blame.{core_lines}
use Rattle.wfc_explain.specs.KeptLines.{kept_of}
use Rattle.wfc_explain.specs.Pinned.{PinnedView}
use Rattle.wfc_explain.specs.Trials.{lines_without}
use Rattle.wfc_explain.specs.declared.explained.Explained.{Explained}
use Rattle.wfc_explain.specs.declared.explained.Kept.{Kept}
use Rattle.wfc_explain.specs.declared.explained.Mark.TheVariants.{Needed}
use Rattle.wfc_model.specs.Legal.{IsLegalPicture}
use Rattle.wfc_model.specs.Raster.{Raster}
use Rattle.wfc_outside.specs.Folder.{File}
use Rattle.wfc_outside.specs.Sink.{after_bytes, after_finish}
use Rattle.wfc_pins.specs.PinView.{PinView}
use Rattle.wfc_problem.specs.Network.{Network}
use Rattle.wfc_reply.specs.Asking.{Promises}
use Rattle.wfc_reply.specs.Call.{Call}
use Rattle.wfc_reply.specs.Choosers.{first_rule, kinds_of}
use Rattle.wfc_reply.specs.CutClaims.{CutsText}
use Rattle.wfc_reply.specs.Reply.{HasAnswer, Takes}
use Rattle.wfc_run_commands.specs.ExplainAnswer.{core_text, explain_status, explain_text, asked_explanation}
use Rattle.wfc_run_commands.specs.ExplainGiven.{IsExplainTask, pin_lines_by, pinned_by}
use Rattle.wfc_run_commands.specs.ExplainTask.{ExplainTask, line_numbers}
use Rattle.wfc_task.specs.Maps.{IsLegal, rules_of}
use Rattle.wfc_task.specs.Posed.{PosedBy}
use Rattle.wfc_tiled.specs.Maps.{IsLegalTileMap}
use Rattle.wfc_words.specs.RequestView.{RequestView}
use Rattle.wfc_words.specs.declared.kinds.CommandKind.TheVariants as commands
use Rattle.wfc_words.specs.declared.kinds.SourceModel.{SourceModel}
use Rattle.wfc_words.specs.declared.kinds.SourceModel.TheVariants.{Overlap, Tiles}

-- what `explain` works on over these files
pub record ExplainWork (rules : List Rule) (asked : RequestView) (files : List File) : Type 0 where
  pub aim : ExplainTask
  pub task : IsExplainTask (kinds_of rules) asked files aim

-- the lines of the pins file
abbrev pub work_lines : {rules : List Rule} {files : List File} (asked : RequestView) → ExplainWork rules asked files → List PinView
work_lines {files = files} asked work = pin_lines_by asked.source asked files work.task.P work.task.posed

-- their numbers in it
abbrev pub work_numbers : {rules : List Rule} {files : List File} (asked : RequestView) → ExplainWork rules asked files → List ℕ
work_numbers asked work = line_numbers (work_lines asked work)

-- the problem whose lines can be left out
abbrev pub work_pinned : {rules : List Rule} {files : List File} (asked : RequestView) → ExplainWork rules asked files → PinnedView
work_pinned {files = files} asked work = pinned_by asked.source asked files work.task.P work.task.posed

-- the map is one that the request asks for, but that of the pins and bans only those of the lines kept hold
abbrev pub IsKeptBy : (source : SourceModel) (asked : RequestView) (files : List File) (P : Network)
    → PosedBy source asked files P → List Bool → Raster → Type 0
IsKeptBy (Overlap n) asked files P of keep m =
    IsLegalPicture of.sample.picture (rules_of asked) (kept_of keep of.problem.pins) asked.width asked.height m
IsKeptBy Tiles asked files P of keep m =
    IsLegalTileMap of.set of.mask asked.wrap_out (kept_of keep of.problem.pins) m

-- so it is with the map of a request for `explain`
abbrev pub IsMapWith : {rules : List Rule} {files : List File} (asked : RequestView)
    → ExplainWork rules asked files → List Bool → Raster → Type 0
IsMapWith {files = files} asked work keep m = IsKeptBy asked.source asked files work.task.P work.task.posed keep m

-- the lines of a core are to blame: they rise and are lines of the file, alone they admit no map, and without one that is
-- needed the others admit one
pub record AreToBlame {rules : List Rule} {files : List File} (asked : RequestView) (work : ExplainWork rules asked files)
    (core : List Kept) : Type 0 where
  pub rises : IsStrictlyIncreasing (map (λ (kept : Kept). kept.index) core)
  pub inside : All (λ (kept : Kept). kept.index < (work_pinned asked work).lines) core
  pub none : (m : Raster) → IsMapWith asked work (core_lines (work_pinned asked work).lines core) m → ⊥
  pub needed : (kept : Kept) → Contains core kept → kept.mark ≡ Needed
      → (m : Raster) × IsMapWith asked work (lines_without (core_lines (work_pinned asked work).lines core) kept.index) m

-- statuses 0, 1 and 2 of `explain`: the explanation by the rule, the budget and the seed asked for is in this order a core, that
-- a map exists, or that the budget was spent, and what is written is the text of the core, or nothing
abbrev pub IsAsExplained : Call → RequestView → List File → Type 0
IsAsExplained call asked files =
    HasAnswer call.status
    → (work : ExplainWork call.rules asked files) × (said : Explained)
    × (asked_explanation (first_rule asked.rule call.rules) asked (work_pinned asked work) ≡ Some said)
    × (call.status ≡ explain_status said) × Takes (explain_text (work_numbers asked work) said) call.before.out call.after.out

-- status 0 of `explain`: the whole text of a core whose lines are to blame was written, and finished
abbrev pub WritesCore : Call → RequestView → List File → Type 0
WritesCore call asked files =
    call.status ≡ 0
    → (work : ExplainWork call.rules asked files) × (core : List Kept) × AreToBlame asked work core
    × (call.after.out ≡ after_finish (after_bytes call.before.out (core_text (work_numbers asked work) core)))

-- status 1 of `explain`: some map is legal
abbrev pub HasMapOfAll : Call → RequestView → List File → Type 0
HasMapOfAll call asked files =
    call.status ≡ 1
    → (work : ExplainWork call.rules asked files) × (m : Raster) × IsLegal asked files work.task.P work.task.posed m

-- the text is that of the core asked for
abbrev pub IsCoreText : List Rule → RequestView → List File → List ℕ → Type 0
IsCoreText rules asked files text =
    (work : ExplainWork rules asked files) × (said : Explained)
    × (asked_explanation (first_rule asked.rule rules) asked (work_pinned asked work) ≡ Some said)
    × (explain_text (work_numbers asked work) said ≡ Some text)

-- what a call promises of a request for `explain`
pub record ExplainPromise (call : Call) (asked : RequestView) (files : List File) : Type 0 where
  pub as_explained : IsAsExplained call asked files
  pub blamed : WritesCore call asked files
  pub map_exists : HasMapOfAll call asked files
  pub cut : CutsText (IsCoreText call.rules) call asked files

-- this, of each request over told files
abbrev pub ExplainPromises : Call → Type 0
ExplainPromises call = Promises commands.Explain ExplainPromise call
