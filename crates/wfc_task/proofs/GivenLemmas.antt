-- What plans come to over told files, in the subject's words.
use Rattle.std.proofs.Common.{Bool, Err, List, None, Ok, Option, Result, Some, [], ap, arith, false, inl, nat_lt, refl, subst, sym, true, ℕ, ◌∙◌, ◌≡◌}
use Rattle.std.proofs.lemmas.Bool.Decides.{nat_tests}
use Rattle.wfc_grid.proofs.CallerLemmas.{grid_read, read_grid}
use Rattle.wfc_grid.specs.Grid.{GridView}
use Rattle.wfc_grid.specs.Reading.{grid_of}
use Rattle.wfc_grid.specs.declared.reading.GridFault.{GridFault}
use Rattle.wfc_model.specs.Legal.{Pin}
use Rattle.wfc_model.specs.Raster.{Raster}
use Rattle.wfc_outside.specs.Folder.{File}
use Rattle.wfc_outside.specs.Gives.{result_map}
use Rattle.wfc_overlap.specs.Bridge.{IsRoom, window_pair_count}
use Rattle.wfc_overlap.specs.Built.{picture_problem, picture_pins, texts_of}
use Rattle.wfc_overlap.specs.Sample.{Output, output_with, problem_of_sample}
use Rattle.wfc_pattern.specs.Learning.{patterns_of}
use Rattle.wfc_pattern.specs.Patterns.{PatternsView}
use Rattle.wfc_picture.specs.Palette.{picture_and_palette}
use Rattle.wfc_picture.specs.declared.palette.PaletteFault.{PaletteFault}
use Rattle.wfc_picture.specs.declared.symbol.Kind.{Kind}
use Rattle.wfc_picture.specs.declared.symbol.Symbol.{Symbol}
use Rattle.wfc_pins.specs.PinView.{PinView}
use Rattle.wfc_pins.specs.Pins.{pins_of}
use Rattle.wfc_pins.specs.declared.fault.BuildFault.{BuildFault}
use Rattle.wfc_plan.proofs.CallerLemmas.{done_is, file_given, given_file, ok_refused, ok_step, outcome_on, outcome_parts, step_ok, unrefused}
use Rattle.wfc_plan.specs.Files.{file_plan}
use Rattle.wfc_plan.specs.Plan.{Plan, done, or_refuse, outcome, step}
use Rattle.wfc_plan.specs.declared.fault.Fault.{Fault}
use Rattle.wfc_plan.specs.declared.fault.Refusal.{Refusal}
use Rattle.wfc_plan.specs.declared.fault.Refusal.TheVariants as refusals
use Rattle.wfc_plan.specs.declared.fault.Source.TheVariants.{Pins, Sample}
use Rattle.wfc_ppm.proofs.CallerLemmas.{read-picture, read-spelled}
use Rattle.wfc_ppm.specs.Ppm.{PpmView}
use Rattle.wfc_ppm.specs.Reading.{ppm_of}
use Rattle.wfc_ppm.specs.declared.reading.PpmFault.{PpmFault}
use Rattle.wfc_problem.specs.Network.{Network}
use Rattle.wfc_problem.specs.declared.TheConstants.{MAX_PAIRS}
use Rattle.wfc_task.proofs.LessonLemmas.{built_is, grid_sampled, lesson_of, made_small, numbered_sample, ppm_sampled}
use Rattle.wfc_task.proofs.TaskLemmas.{behind_picture, behind_sampled}
use Rattle.wfc_task.specs.Asked.{IsSampleAsked}
use Rattle.wfc_task.specs.Given.{HoldsPins, IsProblemOf, IsSample, IsSampleFile, Shows, ShowsGrid, ShowsPpm}
use Rattle.wfc_task.specs.Lesson.{IsLesson, HasShownNumbers, IsSampled}
use Rattle.wfc_task.specs.SamplePlans.{picture_plan, pins_plan, problem_plan, sample_plan, sampled_plan}
use Rattle.wfc_task.specs.Sampled.{SampledView, shown_by_grid, shown_by_ppm}
use Rattle.wfc_task.specs.Sources.{window_side_of}
use Rattle.wfc_tileset.specs.Document.{is_ppm_name}
use Rattle.wfc_task.specs.Steps.{sample_in_numbers, read_pin_lines as lines_in, problem_of_lines, sampled_in, shown_in, patterns_taught}
use Rattle.wfc_task.specs.declared.lesson.Taught.{Taught}
use Rattle.wfc_words.specs.RequestView.{RequestView}

-- samples
grid_shown : (bytes : List ℕ) (sampled : SampledView) → shown_in false bytes ≡ Ok sampled → ShowsGrid bytes sampled
grid_shown bytes sampled is = by_grid (grid_of bytes) refl is
  where
    by_grid : (read : Result GridView GridFault) → grid_of bytes ≡ read → result_map shown_by_grid (or_refuse (refusals.Grid Sample) read) ≡ Ok sampled → ShowsGrid bytes sampled
    by_grid (Ok grid) was is = let spelled = read_grid bytes grid was in record { grid = grid; spelled = spelled.0; small = spelled.1; shows = let same : shown_by_grid grid ≡ sampled = cc (is) in sym same }
    by_grid (Err fault) was is = absurd (cc (is))

ppm_shown : (bytes : List ℕ) (sampled : SampledView) → shown_in true bytes ≡ Ok sampled → ShowsPpm bytes sampled
ppm_shown bytes sampled is = by_ppm (ppm_of bytes) refl is
  where
    by_ppm : (read : Result PpmView PpmFault) → ppm_of bytes ≡ read → result_map shown_by_ppm (or_refuse (refusals.Ppm Sample) read) ≡ Ok sampled → ShowsPpm bytes sampled
    by_ppm (Ok ppm) was is = record { ppm = ppm; read = was; spelled = λ numbers. (read-spelled bytes ppm numbers was).0; small = (read-picture bytes ppm was).1; shows = let same : shown_by_ppm ppm ≡ sampled = cc (is) in sym same }
    by_ppm (Err fault) was is = absurd (cc (is))

shown_given : (picture : Bool) (bytes : List ℕ) (sampled : SampledView) → shown_in picture bytes ≡ Ok sampled → Shows picture bytes sampled
shown_given true bytes sampled is = ppm_shown bytes sampled is
shown_given false bytes sampled is = grid_shown bytes sampled is

given_shown : (picture : Bool) (bytes : List ℕ) (sampled : SampledView) → Shows picture bytes sampled → shown_in picture bytes ≡ Ok sampled
given_shown true bytes sampled shown =
    ap (λ read. result_map shown_by_ppm (or_refuse (refusals.Ppm Sample) read)) shown.read
    ∙ ap (λ sampled. let end : Result SampledView Refusal = Ok sampled in end) (sym shown.shows)
given_shown false bytes sampled shown =
    ap (λ read. result_map shown_by_grid (or_refuse (refusals.Grid Sample) read)) (grid_read bytes shown.grid shown.spelled shown.small)
    ∙ ap (λ sampled. let end : Result SampledView Refusal = Ok sampled in end) (sym shown.shows)

pub sampled_given : (asked : RequestView) (files : List File) (sampled : SampledView) → outcome (sampled_plan asked) files ≡ Ok sampled → IsSampleFile files asked.file sampled
sampled_given asked files sampled is =
    let parts = outcome_parts (file_plan Sample asked.file) (λ bytes. step (sampled_in asked bytes)) files sampled is in
    record { bytes = parts.0; file = file_given Sample asked.file files parts.0 parts.1; shows = shown_given (is_ppm_name asked.file) parts.0 sampled (step_ok (sampled_in asked parts.0) files sampled parts.2) }

pub given_sampled : (asked : RequestView) (files : List File) (sampled : SampledView) → IsSampleFile files asked.file sampled → outcome (sampled_plan asked) files ≡ Ok sampled
given_sampled asked files sampled file =
    outcome_on (file_plan Sample asked.file) (λ bytes. step (sampled_in asked bytes)) files file.bytes (given_file Sample asked.file files file.bytes file.file)
    ∙ ok_step (sampled_in asked file.bytes) files sampled (given_shown (is_ppm_name asked.file) file.bytes sampled file.shows)

pub sample_given : (asked : RequestView) (files : List File) (lesson : Taught) → outcome (sample_plan asked) files ≡ Ok lesson → IsSample asked files lesson.kind lesson.patterns lesson.palette
sample_given asked files lesson is =
    let seen = outcome_parts (picture_plan asked) (behind_picture asked) files lesson is in
    let shown = outcome_parts (sampled_plan asked) behind_sampled files seen.0 seen.1 in
    let painted = outcome_parts (step (sample_in_numbers shown.0)) (λ made. let end : Plan (Kind × Raster × List Symbol) = done (shown.0.kind, made.0, made.1) in end) files seen.0 shown.2 in
    let known = outcome_parts (step (patterns_taught asked seen.0.1)) (λ patterns. let end : Plan Taught = done (record { kind = seen.0.0; palette = seen.0.2; patterns = patterns }) in end) files lesson seen.2 in
    let same : record { kind = seen.0.0; palette = seen.0.2; patterns = known.0 } ≡ lesson = done_is _ lesson files known.2 in
    let pieces : (shown.0.kind, painted.0.0, painted.0.1) ≡ seen.0 = done_is _ seen.0 files painted.2 in
    let numbers : picture_and_palette shown.0.symbols shown.0.width ≡ Ok painted.0 = unrefused refusals.Colours (picture_and_palette shown.0.symbols shown.0.width) painted.0 (step_ok (sample_in_numbers shown.0) files painted.0 painted.1) in
    subst (λ (lesson : Taught). IsSample asked files lesson.kind lesson.patterns lesson.palette) same (record {
      sampled = shown.0;
      file = sampled_given asked files shown.0 shown.1;
      same_kind = ap (λ (made : Kind × Raster × List Symbol). made.0) pieces;
      picture = seen.0.1;
      numbered = numbers ∙ ap (λ (made : Kind × Raster × List Symbol). let end : Result (Raster × List Symbol) PaletteFault = Ok (made.1, made.2) in end) pieces;
      learned = unrefused refusals.Learn (patterns_of seen.0.1 (window_side_of asked.source) asked.symmetry asked.wrap_in) known.0 (step_ok (patterns_taught asked seen.0.1) files known.0 known.1);
    })

pub given_sample : (asked : RequestView) (files : List File) (kind : Kind) (patterns : PatternsView) (palette : List Symbol) → IsSample asked files kind patterns palette
    → outcome (sample_plan asked) files ≡ Ok (record { kind = kind; palette = palette; patterns = patterns })
given_sample asked files kind patterns palette sample =
    let sampled = sample.sampled in
    let coloured_as : outcome (step (sample_in_numbers sampled)) files ≡ Ok (sample.picture, palette)
    = ok_step (sample_in_numbers sampled) files (sample.picture, palette) (ok_refused refusals.Colours (picture_and_palette sampled.symbols sampled.width) (sample.picture, palette) sample.numbered) in
    let seen : outcome (picture_plan asked) files ≡ Ok (kind, sample.picture, palette)
    = outcome_on (sampled_plan asked) behind_sampled files sampled (given_sampled asked files sampled sample.file)
    ∙ outcome_on (step (sample_in_numbers sampled)) (λ made. let end : Plan (Kind × Raster × List Symbol) = done (sampled.kind, made.0, made.1) in end) files (sample.picture, palette) coloured_as
    ∙ ap (λ kind. let end : Result (Kind × Raster × List Symbol) Fault = Ok (kind, sample.picture, palette) in end) sample.same_kind in
    let known : outcome (step (patterns_taught asked sample.picture)) files ≡ Ok patterns
    = ok_step (patterns_taught asked sample.picture) files patterns (ok_refused refusals.Learn (patterns_of sample.picture (window_side_of asked.source) asked.symmetry asked.wrap_in) patterns sample.learned) in
    outcome_on (picture_plan asked) (behind_picture asked) files (kind, sample.picture, palette) seen
    ∙ outcome_on (step (patterns_taught asked sample.picture)) (λ patterns. let end : Plan Taught = done (record { kind = kind; palette = palette; patterns = patterns }) in end) files patterns known

-- what a file shows are the pixels of a picture
file_sampled : (files : List File) (name : List ℕ) (sampled : SampledView) → IsSampleFile files name sampled → IsSampled sampled
file_sampled files name sampled file = by_name (is_ppm_name name) file.shows
  where
    by_name : (picture : Bool) → Shows picture file.bytes sampled → IsSampled sampled
    by_name true shown = let made = read-picture file.bytes shown.ppm shown.read in subst IsSampled (sym shown.shows) (ppm_sampled shown.ppm made.0 made.1)
    by_name false shown = subst IsSampled (sym shown.shows) (grid_sampled shown.grid shown.spelled.grid shown.small)

-- what a sample teaches are patterns of its palette's numbers
pub sample_lesson : (asked : RequestView) (files : List File) (kind : Kind) (patterns : PatternsView) (palette : List Symbol) → IsSampleAsked asked → IsSample asked files kind patterns palette
    → IsLesson (record { kind = kind; palette = palette; patterns = patterns })
sample_lesson asked files kind patterns palette asks sample =
    let sampled = sample.sampled in
    let shows = file_sampled files asked.file sampled sample.file in
    let of_palette = numbered_sample sampled (sample.picture, palette) shows (ok_refused refusals.Colours (picture_and_palette sampled.symbols sampled.width) (sample.picture, palette) sample.numbered) in
    let small = made_small sampled.symbols sampled.width (sample.picture, palette) (inl (sym sample.numbered)) shows.small in
    lesson_of asked kind sample.picture palette patterns asks (subst (λ kind. HasShownNumbers kind sample.picture palette) sample.same_kind of_palette) small
    (ok_refused refusals.Learn (patterns_of sample.picture (window_side_of asked.source) asked.symmetry asked.wrap_in) patterns sample.learned)

-- pins and steps
pub pins_given : (name : Option (List ℕ)) (files : List File) (lines : List PinView) → outcome (pins_plan name) files ≡ Ok lines → HoldsPins files name lines
pins_given None files lines is = done_is [] lines files is
pins_given (Some name) files lines is =
    let parts = outcome_parts (file_plan Pins name) (λ bytes. step (lines_in bytes)) files lines is in
    (parts.0, file_given Pins name files parts.0 parts.1, unrefused refusals.Pins (pins_of parts.0) lines (step_ok (lines_in parts.0) files lines parts.2))

pub given_pins : (name : Option (List ℕ)) (files : List File) (lines : List PinView) → HoldsPins files name lines → outcome (pins_plan name) files ≡ Ok lines
given_pins None files lines held = ap (λ lines. let end : Result (List PinView) Fault = Ok lines in end) held
given_pins (Some name) files lines held =
    outcome_on (file_plan Pins name) (λ bytes. step (lines_in bytes)) files held.0 (given_file Pins name files held.0 held.1)
    ∙ ok_step (lines_in held.0) files lines (ok_refused refusals.Pins (pins_of held.0) lines held.2)

-- problems
pub problem_given : (asked : RequestView) (files : List File) (lesson : Taught) (P : Network) → outcome (problem_plan asked lesson) files ≡ Ok P → IsProblemOf asked files lesson.patterns lesson.palette P
problem_given asked files lesson P is =
    let output = output_with asked.width asked.height asked.wrap_out in
    let held = outcome_parts (pins_plan asked.pins) (λ lines. step (problem_of_lines asked lesson.patterns lesson.palette lines)) files P is in
    let made = built_is lesson.patterns lesson.palette output held.0 P
    (unrefused refusals.Build (picture_problem lesson.patterns lesson.palette output held.0) P (step_ok (problem_of_lines asked lesson.patterns lesson.palette held.0) files P held.2)) in
    record { lines = held.0; held = pins_given asked.pins files held.0 held.1; room = made.0; pins = made.1.0; meant = made.1.1; problem = made.1.2 }

given_built : (patterns : PatternsView) (palette : List Symbol) (output : Output) (lines : List PinView) (pins : List Pin) → IsRoom patterns output
    → picture_pins (texts_of palette) output.width output.height lines ≡ Ok pins → picture_problem patterns palette output lines ≡ Ok (problem_of_sample patterns output pins)
given_built patterns palette output lines pins room meant =
    let wide : nat_lt output.width patterns.n ≡ false = grind (arith, nat_tests, room.wide) in
    let high : nat_lt output.height patterns.n ≡ false = grind (arith, nat_tests, room.high) in
    let few : nat_lt MAX_PAIRS (window_pair_count patterns output) ≡ false = grind (arith, nat_tests, room.few_pairs) in
    rw (wide, high, few, meant) refl

pub given_problem : (asked : RequestView) (files : List File) (lesson : Taught) (P : Network) → IsProblemOf asked files lesson.patterns lesson.palette P → outcome (problem_plan asked lesson) files ≡ Ok P
given_problem asked files lesson P task =
    let output = output_with asked.width asked.height asked.wrap_out in
    outcome_on (pins_plan asked.pins) (λ lines. step (problem_of_lines asked lesson.patterns lesson.palette lines)) files task.lines (given_pins asked.pins files task.lines task.held)
    ∙ ok_step (problem_of_lines asked lesson.patterns lesson.palette task.lines) files P
    (ok_refused refusals.Build (picture_problem lesson.patterns lesson.palette output task.lines) P (given_built lesson.patterns lesson.palette output task.lines task.pins task.room task.meant ∙ ap (λ P. let end : Result Network BuildFault = Ok P in end) (sym task.problem)))
