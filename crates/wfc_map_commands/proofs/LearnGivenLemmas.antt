-- What `learn` comes to over told files, in the subject's words.
use Rattle.std.proofs.Common.{List, Ok, false, refl, sym, true, ◌≡◌}
use Rattle.wfc_map_commands.specs.LearnTask.{LearnTask, learn, learn_plan, learn_plan_by, learn_sample_plan, learn_tiles, learn_tiles_plan}
use Rattle.wfc_outside.specs.Folder.{File}
use Rattle.wfc_pattern.specs.Patterns.{PatternsView}
use Rattle.wfc_picture.specs.declared.symbol.Symbol.{Symbol}
use Rattle.wfc_plan.proofs.CallerLemmas.{as_outcome, done_is, outcome_on, outcome_parts}
use Rattle.wfc_plan.specs.Plan.{Plan, done, outcome}
use Rattle.wfc_task.proofs.CallerLemmas.{given_sample, given_tiles, sample_given, tiles_given}
use Rattle.wfc_task.specs.Given.{IsTaught}
use Rattle.wfc_task.specs.SamplePlans.{sample_plan}
use Rattle.wfc_task.specs.Sources.{is_of_windows}
use Rattle.wfc_task.specs.TileGiven.{IsTileSetOf}
use Rattle.wfc_task.specs.TilePlans.{tiles_plan}
use Rattle.wfc_task.specs.declared.lesson.Taught.{Taught}
use Rattle.wfc_tileset.specs.Tiles.{TileSetView}
use Rattle.wfc_words.specs.RequestView.{RequestView}
use Rattle.wfc_words.specs.declared.kinds.SourceModel.{SourceModel}
use Rattle.wfc_words.specs.declared.kinds.SourceModel.TheVariants.{Overlap, Tiles}

abbrev pub learned_sample : Taught → Plan LearnTask
learned_sample lesson = done (learn lesson.patterns lesson.palette)

-- ---- `learn`

sample_learned : (asked : RequestView) (files : List File) (task : LearnTask) → outcome (learn_sample_plan asked) files ≡ Ok task
    → (patterns : PatternsView) × (palette : List Symbol) × (learn patterns palette ≡ task) × IsTaught asked files patterns palette
sample_learned asked files task is =
    let known = outcome_parts (sample_plan asked) learned_sample files task is in
    (known.0.patterns, known.0.palette, done_is _ task files known.2, (known.0.kind, sample_given asked files known.0 known.1))

learned_of_sample : (asked : RequestView) (files : List File) (patterns : PatternsView) (palette : List Symbol) → IsTaught asked files patterns palette → outcome (learn_sample_plan asked) files ≡ Ok (learn patterns palette)
learned_of_sample asked files patterns palette sample =
    outcome_on (sample_plan asked) learned_sample files (record { kind = sample.0; palette = palette; patterns = patterns }) (given_sample asked files sample.0 patterns palette sample.1)

-- what follows a tile set in `learn`, and what follows a sample
abbrev pub learned_tiles : TileSetView → Plan LearnTask
learned_tiles set = done (learn_tiles set)

tiles_learned : (asked : RequestView) (files : List File) (task : LearnTask) → outcome (learn_tiles_plan asked) files ≡ Ok task → (set : TileSetView) × (learn_tiles set ≡ task) × IsTileSetOf asked files set
tiles_learned asked files task is =
    let known = outcome_parts (tiles_plan asked) learned_tiles files task is in
    (known.0, done_is _ task files known.2, tiles_given asked files known.0 known.1)

learned_of_tiles : (asked : RequestView) (files : List File) (set : TileSetView) → IsTileSetOf asked files set → outcome (learn_tiles_plan asked) files ≡ Ok (learn_tiles set)
learned_of_tiles asked files set of = outcome_on (tiles_plan asked) learned_tiles files set (given_tiles asked files set of)

-- ---- by what the map is made of

windows_learn : (source : SourceModel) (asked : RequestView) → is_of_windows source ≡ true → learn_plan_by source asked ≡ learn_sample_plan asked
windows_learn (Overlap n) asked is = refl
windows_learn Tiles asked is = absurd (cc)

tiles_learn : (source : SourceModel) (asked : RequestView) → is_of_windows source ≡ false → learn_plan_by source asked ≡ learn_tiles_plan asked
tiles_learn (Overlap n) asked is = absurd (cc)
tiles_learn Tiles asked is = refl

-- what `learn` comes to
pub learn_given : (asked : RequestView) (files : List File) (task : LearnTask) → is_of_windows asked.source ≡ true → outcome (learn_plan asked) files ≡ Ok task
    → (patterns : PatternsView) × (palette : List Symbol) × (learn patterns palette ≡ task) × IsTaught asked files patterns palette
learn_given asked files task windows is = sample_learned asked files task (as_outcome (learn_plan asked) (learn_sample_plan asked) files task (windows_learn asked.source asked windows) is)

pub given_learn : (asked : RequestView) (files : List File) (patterns : PatternsView) (palette : List Symbol) → is_of_windows asked.source ≡ true → IsTaught asked files patterns palette
    → outcome (learn_plan asked) files ≡ Ok (learn patterns palette)
given_learn asked files patterns palette windows sample =
    as_outcome (learn_sample_plan asked) (learn_plan asked) files (learn patterns palette) (sym (windows_learn asked.source asked windows)) (learned_of_sample asked files patterns palette sample)

pub learn_tiles_given : (asked : RequestView) (files : List File) (task : LearnTask) → is_of_windows asked.source ≡ false → outcome (learn_plan asked) files ≡ Ok task
    → (set : TileSetView) × (learn_tiles set ≡ task) × IsTileSetOf asked files set
learn_tiles_given asked files task tiles is = tiles_learned asked files task (as_outcome (learn_plan asked) (learn_tiles_plan asked) files task (tiles_learn asked.source asked tiles) is)

pub given_learn_tiles : (asked : RequestView) (files : List File) (set : TileSetView) → is_of_windows asked.source ≡ false → IsTileSetOf asked files set → outcome (learn_plan asked) files ≡ Ok (learn_tiles set)
given_learn_tiles asked files set tiles of =
    as_outcome (learn_tiles_plan asked) (learn_plan asked) files (learn_tiles set) (sym (tiles_learn asked.source asked tiles)) (learned_of_tiles asked files set of)
