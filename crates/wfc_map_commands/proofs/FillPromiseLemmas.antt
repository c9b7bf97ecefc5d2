-- What a call promises of `fill`, whose maps are of windows or of tiles.
use Rattle.wfc_plan.specs.Kinds.{HasChoosers}
use Rattle.std.proofs.Common.{List, None, Ok, Option, Some, ap, arith, inl, inr, refl, subst, sym, true, ◌+◌, ◌∙◌, ◌≡◌, ◌≤◌, ◌⊎◌}
use Rattle.wfc_choose.specs.Pick.{Rule}
use Rattle.wfc_lines.specs.Outcome.{no_map_text}
use Rattle.wfc_map_commands.proofs.FillGivenLemmas.{fill_given, fill_tiles_given}
use Rattle.wfc_map_commands.proofs.FillMapLemmas as maps
use Rattle.wfc_map_commands.proofs.FillMapLemmas.{HasFilled, filled_with}
use Rattle.wfc_map_commands.specs.FillAnswer.{fill_answer, fill_by, fill_text}
use Rattle.wfc_map_commands.specs.FillClaims.{FillPromise, FillWork, HasNoMap, IsAsRun, IsFoundMap, IsLegalMap, IsNeverSpent, WritesFront, WritesLegalMap, assignment_text, map_text_of}
use Rattle.wfc_map_commands.specs.FillCommand.{FillAnswers, fill_command}
use Rattle.wfc_map_commands.specs.FillTask.{FillTask, fill, fill_plan, fill_tiles}
use Rattle.wfc_model.specs.Raster.{Raster}
use Rattle.wfc_outside.specs.Folder.{File}
use Rattle.wfc_outside.specs.Sink.{IsFaultAfterFront, after_bytes, after_finish}
use Rattle.wfc_plan.specs.Plan.{outcome}
use Rattle.wfc_problem.specs.Network.{Network}
use Rattle.wfc_render.specs.declared.form.Layout.{Layout}
use Rattle.wfc_reply.proofs.CallerLemmas.{CameTo, EndsSo, HasAnswered, IsEnding, as_asked, as_no, as_spent, cut, five_apart, none, ran_by, verdict_apart, verdict_outcome, whole}
use Rattle.wfc_reply.specs.Asking.{IsCommand}
use Rattle.wfc_reply.specs.Call.{Call}
use Rattle.wfc_reply.specs.Choosers.{kinds_of}
use Rattle.wfc_reply.specs.Outcomes.{outcome_status, verdict_of}
use Rattle.wfc_reply.specs.Reply.{Answered, CutsOff, Takes, TakesWhole, verdict_status}
use Rattle.wfc_reply.specs.RunEnds.{end_of}
use Rattle.wfc_runs.specs.Words.{words_of_seed}
use Rattle.wfc_search.proofs.CallerLemmas.{outcome_map, outcome_none, outcome_spent}
use Rattle.wfc_search.specs.Run.{State}
use Rattle.wfc_search.specs.Search.{assignment_of}
use Rattle.wfc_search.specs.Volume.{volume_of}
use Rattle.wfc_search.specs.declared.Outcome.{Outcome}
use Rattle.wfc_search.specs.declared.Outcome.TheVariants as outcome
use Rattle.wfc_task.proofs.CallerLemmas.{TakesSides, command_bridged, flat_problem}
use Rattle.wfc_task.specs.MapKind.{IsMapProblem}
use Rattle.wfc_task.specs.Maps.{IsLaidBy, flat_maps, map_by, map_of, map_text_by}
use Rattle.wfc_task.specs.Posed.{Posed, PosedBy}
use Rattle.wfc_task.specs.Sources.{is_of_windows}
use Rattle.wfc_words.specs.RequestView.{RequestView}
use Rattle.wfc_words.specs.declared.kinds.CommandKind.TheVariants as commands
use Rattle.wfc_words.specs.declared.kinds.SourceModel.{SourceModel}
use Rattle.wfc_words.specs.declared.kinds.SourceModel.TheVariants.{Overlap, Tiles}

-- the task of `fill` for a problem of the request
abbrev fill_task_by : (source : SourceModel) (asked : RequestView) (files : List File) (P : Network) → PosedBy source asked files P → Layout → FillTask
fill_task_by (Overlap n) asked files P of layout = fill of.patterns of.palette layout P
fill_task_by Tiles asked files P of layout = fill_tiles of.set of.mask layout P

-- what `fill` came to
record HasFillTask (source : SourceModel) (rules : List Rule) (asked : RequestView) (files : List File) (task : FillTask) : Type 0 where
  chooser : HasChoosers 1 (kinds_of rules) asked.rule
  P : Network
  posed : PosedBy source asked files P
  layout : Layout
  laid : IsLaidBy source asked files P posed layout
  same : fill_task_by source asked files P posed layout ≡ task

has_fill_task : (source : SourceModel) (rules : List Rule) (asked : RequestView) (files : List File) (task : FillTask) → asked.source ≡ source → outcome (fill_plan (kinds_of rules) asked) files ≡ Ok task
    → HasFillTask source rules asked files task
has_fill_task (Overlap n) rules asked files task is comes =
    let given = fill_given (kinds_of rules) asked files task (ap is_of_windows is) comes in
    let is_task = given.5 in
    record {
      chooser = is_task.chooser;
      P = given.3;
      posed = record { kind = is_task.kind; patterns = given.0; palette = given.1; sample = is_task.sample; problem = is_task.problem };
      layout = given.2;
      laid = is_task.written;
      same = given.4;
    }
has_fill_task Tiles rules asked files task is comes =
    let given = fill_tiles_given (kinds_of rules) asked files task (ap is_of_windows is) comes in
    let is_task = given.5 in
    record {
      chooser = is_task.chooser;
      P = given.3;
      posed = record { set = given.0; tiles = is_task.tiles; mask = given.1; problem = is_task.problem };
      layout = given.2;
      laid = is_task.written;
      same = given.4;
    }

-- an answer to it
fill_answers : (source : SourceModel) (rules : List Rule) (asked : RequestView) (files : List File) (P : Network) (posed : PosedBy source asked files P) (layout : Layout) (answered : Answered)
    → FillAnswers rules asked (fill_task_by source asked files P posed layout) answered
    → fill_by rules asked (λ a. map_text_by source asked files P posed layout (map_by source asked files P posed a)) P ≡ Some answered
fill_answers (Overlap n) rules asked files P of layout answered answers = answers
fill_answers Tiles rules asked files P of layout answered answers = answers

sides_of_fill : TakesSides commands.Fill
sides_of_fill = record { model = refl; width = refl; height = refl }

-- what is known of the problem of a `fill`
known : (call : Call) (asked : RequestView) (files : List File) → IsCommand commands.Fill call asked files → (P : Network) (posed : Posed asked files P) → IsMapProblem flat_maps asked files P posed
known call asked files is P posed = flat_problem asked files P posed (command_bridged commands.Fill call.words asked files P posed sides_of_fill is.given.spelled is.command_is)

-- what `fill` answered
filled_by : (call : Call) (asked : RequestView) (files : List File) (answered : Answered) → IsCommand commands.Fill call asked files → HasAnswered fill_command call.rules asked files answered
    → HasFilled flat_maps call.rules asked files answered
filled_by call asked files answered is has =
    let made = has_fill_task asked.source call.rules asked files has.task refl has.is in
    let answers = fill_answers asked.source call.rules asked files made.P made.posed made.layout answered (subst (λ task. FillAnswers call.rules asked task answered) (sym made.same) has.answers) in
    filled_with flat_maps call.rules asked files answered (record { chooser = made.chooser; P = made.P; posed = made.posed; layout = made.layout; laid = made.laid }) answers

-- all that `fill` promises
pub fill_promise : (call : Call) (asked : RequestView) (files : List File) → IsCommand commands.Fill call asked files → CameTo fill_command call asked files → FillPromise flat_maps call asked files
fill_promise call asked files is came = maps.map_promise flat_maps commands.Fill fill_command known filled_by call asked files is came

pub fill_ends : EndsSo commands.Fill fill_command
fill_ends = maps.map_ends flat_maps commands.Fill fill_command known filled_by (λ rules asked files. refl) (λ asked. refl)
