-- What `fill` promises of any kind of maps, in the words of its subject.
use Rattle.wfc_plan.specs.Kinds.{HasChoosers}
use Rattle.std.specs.Prelude.{List, Some, ℕ, ◌+◌, ◌≡◌, ◌≤◌, ◌⊎◌}
use Rattle.wfc_choose.specs.Pick.{Rule}
use Rattle.wfc_map_commands.specs.FillAnswer.{fill_text}
use Rattle.wfc_outside.specs.Folder.{File}
use Rattle.wfc_outside.specs.Sink.{IsFaultAfterFront, after_bytes, after_finish}
use Rattle.wfc_problem.specs.Network.{Network}
use Rattle.wfc_reply.specs.Asking.{Promises}
use Rattle.wfc_reply.specs.Call.{Call}
use Rattle.wfc_reply.specs.Choosers.{kinds_of}
use Rattle.wfc_reply.specs.Outcomes.{outcome_status}
use Rattle.wfc_reply.specs.Reply.{HasAnswer, Takes}
use Rattle.wfc_reply.specs.RunEnds.{end_of}
use Rattle.wfc_search.specs.Run.{State}
use Rattle.wfc_search.specs.Search.{assignment_of}
use Rattle.wfc_search.specs.Volume.{volume_of}
use Rattle.wfc_search.specs.declared.Outcome.{Outcome}
use Rattle.wfc_search.specs.declared.Outcome.TheVariants as outcome
use Rattle.wfc_task.specs.MapKind.{MapKind}
use Rattle.wfc_task.specs.Maps.{flat_maps}
use Rattle.wfc_words.specs.RequestView.{RequestView}
use Rattle.wfc_words.specs.declared.kinds.CommandKind.TheVariants as commands

-- what `fill` works on over these files: a chooser goes by the rule, and the problem and the layout
-- are those of the request
pub record FillWork (maps : MapKind) (rules : List Rule) (asked : RequestView) (files : List File) : Type 0 where
  pub chooser : HasChoosers 1 (kinds_of rules) asked.rule
  pub P : Network
  pub posed : maps.IsPosed asked files P
  pub layout : maps.Layout
  pub laid : maps.IsLaid asked files P posed layout

-- the map is one that the request asks for
abbrev pub IsLegalMap : {maps : MapKind} {rules : List Rule} {files : List File} (asked : RequestView)
    → FillWork maps rules asked files → maps.Map → Type 0
IsLegalMap {maps = maps} {files = files} asked work m = maps.IsLegal asked files work.P work.posed m

-- the text of a map in the layout that the request asks for
abbrev pub map_text_of : {maps : MapKind} {rules : List Rule} {files : List File} (asked : RequestView)
    → FillWork maps rules asked files → maps.Map → List ℕ
map_text_of {maps = maps} {files = files} asked work m = maps.text_of asked files work.P work.posed work.layout m

-- the text of the map that an assignment makes
abbrev pub assignment_text : {maps : MapKind} {rules : List Rule} {files : List File} (asked : RequestView)
    → FillWork maps rules asked files → List ℕ → List ℕ
assignment_text {maps = maps} {files = files} asked work a = map_text_of asked work (maps.map_of asked files work.P work.posed a)

-- status 0 of `fill`: the whole text of a legal map was written, and finished
abbrev pub WritesLegalMap : MapKind → Call → RequestView → List File → Type 0
WritesLegalMap maps call asked files =
    call.status ≡ 0
    → (work : FillWork maps call.rules asked files) × (m : maps.Map) × IsLegalMap asked work m
    × (call.after.out ≡ after_finish (after_bytes call.before.out (map_text_of asked work m)))

-- the run of this work by the rule, the budget and the seed asked for ends in this map
pub record IsFoundMap {maps : MapKind} {rules : List Rule} {files : List File} (asked : RequestView)
    (work : FillWork maps rules asked files) (m : maps.Map) : Type 0 where
  pub state : State
  pub ends : end_of rules asked.rule work.P asked.budget asked.seed ≡ Some (outcome.Map, state)
  pub made : m ≡ maps.map_of asked files work.P work.posed (assignment_of work.P state.standing)

-- the map in which the run of this work ends is one map
abbrev pub HasOneMap : {maps : MapKind} {rules : List Rule} {files : List File} (asked : RequestView)
    → FillWork maps rules asked files → Type 0
HasOneMap {maps = maps} asked work =
    (m other : maps.Map) → IsFoundMap asked work m → IsFoundMap asked work other → m ≡ other

-- status 5 of `fill`: nothing was written, or a front of the text of the map in which the run ends,
-- and that map is legal
abbrev pub WritesFront : MapKind → Call → RequestView → List File → Type 0
WritesFront maps call asked files =
    call.status ≡ 5
    → (call.after.out ≡ call.before.out)
    ⊎ ((work : FillWork maps call.rules asked files) × (m : maps.Map) × IsFoundMap asked work m × IsLegalMap asked work m
    × IsFaultAfterFront call.before.out call.after.out (map_text_of asked work m))

-- status 1 of `fill`: no map is legal, and nothing was written
abbrev pub HasNoMap : MapKind → Call → RequestView → List File → Type 0
HasNoMap maps call asked files =
    call.status ≡ 1
    → (work : FillWork maps call.rules asked files) × ((m : maps.Map) → IsLegalMap asked work m → ⊥) × (call.after.out ≡ call.before.out)

-- statuses 0, 1 and 2 of `fill`: the run of its problem by the rule, the budget and the seed asked
-- for ends in a map, in no map, or spent, in this order, and what is written is the map of its
-- assignment
abbrev pub IsAsRun : MapKind → Call → RequestView → List File → Type 0
IsAsRun maps call asked files =
    HasAnswer call.status
    → (work : FillWork maps call.rules asked files) × (end : Outcome × State)
    × (end_of call.rules asked.rule work.P asked.budget asked.seed ≡ Some end)
    × (call.status ≡ outcome_status end.0) × Takes (fill_text (assignment_text asked work) work.P end) call.before.out call.after.out

-- with status 2 of `fill` the budget is below the volume of the problem
abbrev pub IsNeverSpent : MapKind → Call → RequestView → List File → Type 0
IsNeverSpent maps call asked files =
    call.status ≡ 2
    → (work : FillWork maps call.rules asked files) × (asked.budget + 1 ≤ volume_of work.P)

-- what a call promises of a request for `fill`
pub record FillPromise (maps : MapKind) (call : Call) (asked : RequestView) (files : List File) : Type 0 where
  pub legal : WritesLegalMap maps call asked files
  pub front : WritesFront maps call asked files
  pub no_map : HasNoMap maps call asked files
  pub as_run : IsAsRun maps call asked files
  pub never_spent : IsNeverSpent maps call asked files

-- this, of each request over told files
abbrev pub FillPromises : Call → Type 0
FillPromises call = Promises commands.Fill (FillPromise flat_maps) call
