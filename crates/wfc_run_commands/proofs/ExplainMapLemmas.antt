-- Legal maps of the lines kept, and legal assignments of their problem, are each other's.
use Rattle.std.proofs.Common.{Bool, List, ap, arith, length, refl, ◌<◌, ◌≤◌}
use Rattle.wfc_explain.proofs.KeptLemmas.{All-kept, as_many}
use Rattle.wfc_explain.proofs.ProblemLemmas.{sample_is_pinned, tiles_are_pinned}
use Rattle.wfc_explain.specs.Blame.{HasMap}
use Rattle.wfc_explain.specs.KeptLines.{kept_of}
use Rattle.wfc_explain.specs.Pinned.{IsPinned}
use Rattle.wfc_explain.specs.Problems.{SamplePins, TilesPins}
use Rattle.wfc_model.specs.Legal.{Pin}
use Rattle.wfc_model.specs.Raster.{Raster}
use Rattle.wfc_outside.specs.Folder.{File}
use Rattle.wfc_overlap.proofs.CallerLemmas.{back, there}
use Rattle.wfc_overlap.specs.Bridge.{AreInside, IsTaughtBy, numbers_of_windows, picture_of}
use Rattle.wfc_overlap.specs.Built as overlap
use Rattle.wfc_pattern.specs.Patterns.{PatternsView}
use Rattle.wfc_problem.specs.Network.{Network}
use Rattle.wfc_run_commands.specs.ExplainClaims.{IsKeptBy}
use Rattle.wfc_run_commands.specs.ExplainGiven.{pin_lines_by, pinned_by}
use Rattle.wfc_run_commands.specs.declared.explaining.TheConstants.{MAX_LINES}
use Rattle.wfc_task.proofs.CallerLemmas.{pins_inside, set_is}
use Rattle.wfc_task.proofs.GivenLemmas.{sample_lesson}
use Rattle.wfc_task.proofs.LessonLemmas.{learned_is}
use Rattle.wfc_task.proofs.TilingLemmas.{held_mask, pins_placed}
use Rattle.wfc_task.specs.Asked.{AskedBy, IsOutputAsked}
use Rattle.wfc_task.specs.Maps.{asked_output, rules_of}
use Rattle.wfc_task.specs.Posed.{PosedBy}
use Rattle.wfc_task.specs.Sources.{window_side_of}
use Rattle.wfc_tiled.proofs.CallerLemmas.{assignment_is_map, map_is_assignment, tiles_problem}
use Rattle.wfc_tiled.specs.Built as tiled
use Rattle.wfc_tiled.specs.Maps.{IsPlaced, numbers_of_places, tile_map}
use Rattle.wfc_words.specs.RequestView.{RequestView}
use Rattle.wfc_words.specs.declared.kinds.SourceModel.{SourceModel}
use Rattle.wfc_words.specs.declared.kinds.SourceModel.TheVariants.{Overlap, Tiles}

-- the problems of the lines kept are pinned; where one has a legal assignment there is a map, and where there is a map it has one
pub record IsBridgedWith (source : SourceModel) (asked : RequestView) (files : List File) (P : Network) (posed : PosedBy source asked files P) : Type 0 where
  pub pinned : IsPinned (pinned_by source asked files P posed)
  pub makes : (keep : List Bool) → HasMap ((pinned_by source asked files P posed).problem_of keep) → (m : Raster) × IsKeptBy source asked files P posed keep m
  pub assigned : (keep : List Bool) (m : Raster) → IsKeptBy source asked files P posed keep m → HasMap ((pinned_by source asked files P posed).problem_of keep)

pub bridged_with : (source : SourceModel) (asked : RequestView) (files : List File) (P : Network) (posed : PosedBy source asked files P) → AskedBy source asked → IsOutputAsked asked
    → length (pin_lines_by source asked files P posed) ≤ MAX_LINES → IsBridgedWith source asked files P posed
bridged_with (Overlap n) asked files P of asks output few =
    let sample = of.sample in
    let problem = of.problem in
    let lesson = sample_lesson asked files of.kind of.patterns of.palette asks sample in
    let learned = learned_is sample.picture (window_side_of asked.source) asked.symmetry asked.wrap_in of.patterns sample.learned in
    let taught : IsTaughtBy sample.picture (rules_of asked) of.patterns (asked_output asked) =
    record { same_side = ap (λ (p : PatternsView). p.n) learned.2; same_wrap = refl; windows = ap (λ (p : PatternsView). p.windows) learned.2 } in
    let inside : AreInside (asked_output asked) problem.pins = pins_inside (overlap.texts_of of.palette) asked.width asked.height problem.lines problem.pins problem.meant in
    let many = as_many (overlap.picture_pin (overlap.texts_of of.palette) asked.width asked.height) problem.lines problem.pins problem.meant in
    let s : SamplePins = record { patterns = of.patterns; output = asked_output asked; pins = problem.pins } in
    record {
      pinned = sample_is_pinned s (record {
        patterns_are = lesson.patterns;
        room = problem.room;
        width_limit = output.width_limit;
        height_limit = output.height_limit;
        inside = inside;
        few_lines = omega (arith, many, few);
      });
      makes = λ keep found. (
        picture_of of.patterns (asked_output asked) found.0,
        back sample.picture (rules_of asked) of.patterns (asked_output asked) (kept_of keep problem.pins) found.0 lesson.patterns problem.room taught
            (All-kept (λ (pin : Pin). (pin.column < asked.width) × (pin.row < asked.height)) keep problem.pins inside) found.1,
      );
      assigned = λ keep m legal. (
        numbers_of_windows of.patterns (asked_output asked) m,
        there sample.picture (rules_of asked) of.patterns (asked_output asked) (kept_of keep problem.pins) m lesson.patterns taught legal,
      );
    }
bridged_with Tiles asked files P of asks output few =
    let problem = of.problem in
    let mask = held_mask asked files asked.mask of.mask output problem.masked in
    let placed = pins_placed of.set.tiles of.mask problem.lines problem.pins problem.meant in
    let many = as_many (tiled.tile_map_pin of.set.tiles of.mask) problem.lines problem.pins problem.meant in
    let tiles = set_is asked files of.set of.tiles in
    let s : TilesPins = record { tiles = of.set; mask = of.mask; wrap = asked.wrap_out; pins = problem.pins } in
    let pinned = tiles_are_pinned s (record { tiles_are = tiles; mask_is = mask; few_pairs = problem.few_pairs; placed = placed; few_lines = omega (arith, many, few) }) in
    record {
      pinned = pinned;
      makes = λ keep found. (
        tile_map of.mask found.0,
        assignment_is_map of.set of.mask asked.wrap_out (kept_of keep problem.pins) found.0 mask (tiles_problem of.set of.mask asked.wrap_out (kept_of keep problem.pins) tiles mask problem.few_pairs)
            (All-kept (IsPlaced of.mask) keep problem.pins placed) found.1,
      );
      assigned = λ keep m legal. (
        numbers_of_places of.mask m,
        map_is_assignment of.set of.mask asked.wrap_out (kept_of keep problem.pins) m mask legal,
      );
    }
