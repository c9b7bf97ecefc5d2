-- What `fill` comes to over told files, in the subject's words.
use Rattle.std.proofs.Common.{List, Ok, false, refl, sym, true, ◌∙◌, ◌≡◌}
use Rattle.wfc_choose.specs.declared.RuleKind.{RuleKind}
use Rattle.wfc_map_commands.specs.FillGiven.{IsFillTask, IsTileFillTask}
use Rattle.wfc_map_commands.specs.FillTask.{FillTask, fill, fill_plan, fill_plan_by, fill_sample_plan, fill_tiles, fill_tiles_plan}
use Rattle.wfc_outside.specs.Folder.{File}
use Rattle.wfc_pattern.specs.Patterns.{PatternsView}
use Rattle.wfc_picture.specs.declared.symbol.Symbol.{Symbol}
use Rattle.wfc_plan.proofs.CallerLemmas.{as_outcome, choosers_given, done_is, given_choosers, ok_refused, ok_step, outcome_on, outcome_parts, step_ok, unrefused}
use Rattle.wfc_plan.specs.Kinds.{HasChoosers, enough}
use Rattle.wfc_plan.specs.Plan.{Plan, and_then, done, outcome, step}
use Rattle.wfc_plan.specs.declared.fault.Refusal.TheVariants as refusals
use Rattle.wfc_problem.specs.Network.{Network}
use Rattle.wfc_render.specs.Layout.{layout_of}
use Rattle.wfc_render.specs.declared.form.Layout.{Layout}
use Rattle.wfc_task.proofs.CallerLemmas.{given_problem, given_sample, given_tiled, given_tiles, problem_given, sample_given, tiled_given, tiles_given}
use Rattle.wfc_task.specs.SamplePlans.{problem_plan, sample_plan}
use Rattle.wfc_task.specs.Sources.{is_of_windows}
use Rattle.wfc_task.specs.Steps.{sample_layout}
use Rattle.wfc_task.specs.TilePlans.{tiled_plan, tiles_plan}
use Rattle.wfc_task.specs.TileSteps.{tile_layout}
use Rattle.wfc_task.specs.declared.lesson.Taught.{Taught}
use Rattle.wfc_tiled.specs.Mask.{MaskView}
use Rattle.wfc_tileset.specs.Pictures.{kind_of, side_of}
use Rattle.wfc_tileset.specs.Tiles.{TileSetView}
use Rattle.wfc_words.specs.RequestView.{RequestView}
use Rattle.wfc_words.specs.declared.kinds.SourceModel.{SourceModel}
use Rattle.wfc_words.specs.declared.kinds.SourceModel.TheVariants.{Overlap, Tiles}

-- ---- `fill` behind its chooser

-- what `fill` comes to for a sample
pub record SampleFilled (asked : RequestView) (files : List File) (task : FillTask) : Type 0 where
  pub patterns : PatternsView
  pub palette : List Symbol
  pub layout : Layout
  pub P : Network
  pub is : fill patterns palette layout P ≡ task
  pub given : (kinds : List RuleKind) → HasChoosers 1 kinds asked.rule → IsFillTask kinds asked files patterns palette layout P

-- and for a tile set
pub record TilesFilled (asked : RequestView) (files : List File) (task : FillTask) : Type 0 where
  pub set : TileSetView
  pub mask : MaskView
  pub layout : Layout
  pub P : Network
  pub is : fill_tiles set mask layout P ≡ task
  pub given : (kinds : List RuleKind) → HasChoosers 1 kinds asked.rule → IsTileFillTask kinds asked files set mask layout P

abbrev pub behind_layout : RequestView → Taught → Layout → Plan FillTask
behind_layout asked lesson layout = and_then (problem_plan asked lesson) (λ P. done (fill lesson.patterns lesson.palette layout P))

abbrev pub behind_sample : RequestView → Taught → Plan FillTask
behind_sample asked lesson = and_then (step (sample_layout lesson.kind asked)) (behind_layout asked lesson)

sample_filled : (asked : RequestView) (files : List File) (task : FillTask) → outcome (fill_sample_plan asked) files ≡ Ok task → SampleFilled asked files task
sample_filled asked files task is =
    let known = outcome_parts (sample_plan asked) (behind_sample asked) files task is in
    let written = outcome_parts (step (sample_layout known.0.kind asked)) (behind_layout asked known.0) files task known.2 in
    let made = outcome_parts (problem_plan asked known.0) (λ P. let end : Plan FillTask = done (fill known.0.patterns known.0.palette written.0 P) in end) files task written.2 in
    record {
      patterns = known.0.patterns;
      palette = known.0.palette;
      layout = written.0;
      P = made.0;
      is = done_is _ task files made.2;
      given = λ kinds there. record {
        chooser = there;
        kind = known.0.kind;
        sample = sample_given asked files known.0 known.1;
        written = unrefused refusals.Render (layout_of known.0.kind asked.form asked.width asked.height 1) written.0 (step_ok (sample_layout known.0.kind asked) files written.0 written.1);
        problem = problem_given asked files known.0 made.0 made.1;
      };
    }

filled_of_sample : (kinds : List RuleKind) (asked : RequestView) (files : List File) (patterns : PatternsView) (palette : List Symbol) (layout : Layout) (P : Network)
    → IsFillTask kinds asked files patterns palette layout P → outcome (fill_sample_plan asked) files ≡ Ok (fill patterns palette layout P)
filled_of_sample kinds asked files patterns palette layout P task =
    let lesson : Taught = record { kind = task.kind; palette = palette; patterns = patterns } in
    outcome_on (sample_plan asked) (behind_sample asked) files lesson (given_sample asked files task.kind patterns palette task.sample)
    ∙ outcome_on (step (sample_layout task.kind asked)) (behind_layout asked lesson) files layout (ok_step (sample_layout task.kind asked) files layout (ok_refused refusals.Render (layout_of task.kind asked.form asked.width asked.height 1) layout task.written))
    ∙ outcome_on (problem_plan asked lesson) (λ P. let end : Plan FillTask = done (fill patterns palette layout P) in end) files P (given_problem asked files lesson P task.problem)

-- what follows the problem of a tile set in `fill`, what follows its layout, and what follows the tile set
abbrev pub fill_made_tiles : TileSetView → Layout → MaskView × Network → Plan FillTask
fill_made_tiles set layout made = done (fill_tiles set made.0 layout made.1)

abbrev pub behind_tile_layout : RequestView → TileSetView → Layout → Plan FillTask
behind_tile_layout asked set layout = and_then (tiled_plan asked set) (fill_made_tiles set layout)

abbrev pub behind_set : RequestView → TileSetView → Plan FillTask
behind_set asked set = and_then (step (tile_layout set asked)) (behind_tile_layout asked set)

tiles_filled : (asked : RequestView) (files : List File) (task : FillTask) → outcome (fill_tiles_plan asked) files ≡ Ok task → TilesFilled asked files task
tiles_filled asked files task is =
    let known = outcome_parts (tiles_plan asked) (behind_set asked) files task is in
    let set = known.0 in
    let written = outcome_parts (step (tile_layout set asked)) (behind_tile_layout asked set) files task known.2 in
    let made = outcome_parts (tiled_plan asked set) (fill_made_tiles set written.0) files task written.2 in
    record {
      set = set;
      mask = made.0.0;
      layout = written.0;
      P = made.0.1;
      is = done_is _ task files made.2;
      given = λ kinds there. record {
        chooser = there;
        tiles = tiles_given asked files set known.1;
        written = unrefused refusals.Render (layout_of (kind_of set.pictures) asked.form asked.width asked.height (side_of set.pictures)) written.0 (step_ok (tile_layout set asked) files written.0 written.1);
        problem = tiled_given asked files set made.0.0 made.0.1 made.1;
      };
    }

filled_of_tiles : (kinds : List RuleKind) (asked : RequestView) (files : List File) (set : TileSetView) (mask : MaskView) (layout : Layout) (P : Network)
    → IsTileFillTask kinds asked files set mask layout P → outcome (fill_tiles_plan asked) files ≡ Ok (fill_tiles set mask layout P)
filled_of_tiles kinds asked files set mask layout P task =
    outcome_on (tiles_plan asked) (behind_set asked) files set (given_tiles asked files set task.tiles)
    ∙ outcome_on (step (tile_layout set asked)) (behind_tile_layout asked set) files layout
    (ok_step (tile_layout set asked) files layout (ok_refused refusals.Render (layout_of (kind_of set.pictures) asked.form asked.width asked.height (side_of set.pictures)) layout task.written))
    ∙ outcome_on (tiled_plan asked set) (fill_made_tiles set layout) files (mask, P) (given_tiled asked files set mask P task.problem)

pub windows_fill : (source : SourceModel) (asked : RequestView) → is_of_windows source ≡ true → fill_plan_by source asked ≡ fill_sample_plan asked
windows_fill (Overlap n) asked is = refl
windows_fill Tiles asked is = absurd (cc)

pub tiles_fill : (source : SourceModel) (asked : RequestView) → is_of_windows source ≡ false → fill_plan_by source asked ≡ fill_tiles_plan asked
tiles_fill (Overlap n) asked is = absurd (cc)
tiles_fill Tiles asked is = refl

-- what `fill` comes to
pub fill_given : (kinds : List RuleKind) (asked : RequestView) (files : List File) (task : FillTask) → is_of_windows asked.source ≡ true → outcome (fill_plan kinds asked) files ≡ Ok task
    → (patterns : PatternsView) × (palette : List Symbol) × (layout : Layout) × (P : Network) × (fill patterns palette layout P ≡ task) × IsFillTask kinds asked files patterns palette layout P
fill_given kinds asked files task windows is =
    let found = outcome_parts (step (enough 1 kinds asked.rule)) (λ _. fill_plan_by asked.source asked) files task is in
    let made = sample_filled asked files task (as_outcome (fill_plan_by asked.source asked) (fill_sample_plan asked) files task (windows_fill asked.source asked windows) found.2) in
    (made.patterns, made.palette, made.layout, made.P, made.is, made.given kinds (choosers_given 1 kinds asked.rule found.0 (step_ok (enough 1 kinds asked.rule) files found.0 found.1)))

pub given_fill : (kinds : List RuleKind) (asked : RequestView) (files : List File) (patterns : PatternsView) (palette : List Symbol) (layout : Layout) (P : Network) → is_of_windows asked.source ≡ true
    → IsFillTask kinds asked files patterns palette layout P → outcome (fill_plan kinds asked) files ≡ Ok (fill patterns palette layout P)
given_fill kinds asked files patterns palette layout P windows task =
    outcome_on (step (enough 1 kinds asked.rule)) (λ _. fill_plan_by asked.source asked) files tt (ok_step (enough 1 kinds asked.rule) files tt (given_choosers 1 kinds asked.rule task.chooser))
    ∙ as_outcome (fill_sample_plan asked) (fill_plan_by asked.source asked) files (fill patterns palette layout P) (sym (windows_fill asked.source asked windows)) (filled_of_sample kinds asked files patterns palette layout P task)

pub fill_tiles_given : (kinds : List RuleKind) (asked : RequestView) (files : List File) (task : FillTask) → is_of_windows asked.source ≡ false → outcome (fill_plan kinds asked) files ≡ Ok task
    → (set : TileSetView) × (mask : MaskView) × (layout : Layout) × (P : Network) × (fill_tiles set mask layout P ≡ task) × IsTileFillTask kinds asked files set mask layout P
fill_tiles_given kinds asked files task tiles is =
    let found = outcome_parts (step (enough 1 kinds asked.rule)) (λ _. fill_plan_by asked.source asked) files task is in
    let made = tiles_filled asked files task (as_outcome (fill_plan_by asked.source asked) (fill_tiles_plan asked) files task (tiles_fill asked.source asked tiles) found.2) in
    (made.set, made.mask, made.layout, made.P, made.is, made.given kinds (choosers_given 1 kinds asked.rule found.0 (step_ok (enough 1 kinds asked.rule) files found.0 found.1)))

pub given_fill_tiles : (kinds : List RuleKind) (asked : RequestView) (files : List File) (set : TileSetView) (mask : MaskView) (layout : Layout) (P : Network) → is_of_windows asked.source ≡ false
    → IsTileFillTask kinds asked files set mask layout P → outcome (fill_plan kinds asked) files ≡ Ok (fill_tiles set mask layout P)
given_fill_tiles kinds asked files set mask layout P tiles task =
    outcome_on (step (enough 1 kinds asked.rule)) (λ _. fill_plan_by asked.source asked) files tt (ok_step (enough 1 kinds asked.rule) files tt (given_choosers 1 kinds asked.rule task.chooser))
    ∙ as_outcome (fill_tiles_plan asked) (fill_plan_by asked.source asked) files (fill_tiles set mask layout P) (sym (tiles_fill asked.source asked tiles)) (filled_of_tiles kinds asked files set mask layout P task)
