-- The first faults of what is read of a sample and of the files beside it.
use Rattle.std.proofs.Common.{Bool, Err, List, Ok, Result, [], ap, false, refl, subst, true, ℕ, ◌∙◌, ◌∷◌, ◌≡◌}
use Rattle.std.specs.Prelude.{◌↔◌}
use Rattle.wfc_grid.specs.Grid.{GridView}
use Rattle.wfc_grid.specs.Reading.{grid_of}
use Rattle.wfc_grid.specs.declared.reading.GridFault.{GridFault}
use Rattle.wfc_model.specs.Raster.{Raster}
use Rattle.wfc_outside.specs.Folder.{File}
use Rattle.wfc_outside.specs.Gives.{result_map}
use Rattle.wfc_pattern.specs.Learning.{patterns_of}
use Rattle.wfc_picture.specs.Palette.{picture_and_palette}
use Rattle.wfc_picture.specs.declared.symbol.Kind.{Kind}
use Rattle.wfc_picture.specs.declared.symbol.Symbol.{Symbol}
use Rattle.wfc_plan.proofs.CallerLemmas.{Faults, Same, faults_as, faults_first, faults_group, faults_last, faults_none, faults_reading, faults_step, file_given, one_file, one_value, outcome_parts, same_known, step_ok, unrefused}
use Rattle.wfc_plan.specs.Files.{IsFile, file_plan}
use Rattle.wfc_plan.specs.Order.{IsFirstFault}
use Rattle.wfc_plan.specs.Plan.{Plan, done, or_refuse, outcome, step}
use Rattle.wfc_plan.specs.Stages.{IsReadingFault, IsRefusal, TaskStage}
use Rattle.wfc_plan.specs.declared.fault.Refusal.TheVariants as refusals
use Rattle.wfc_plan.specs.declared.fault.Source.TheVariants.{Sample}
use Rattle.wfc_ppm.specs.Ppm.{PpmView}
use Rattle.wfc_ppm.specs.Reading.{ppm_of}
use Rattle.wfc_ppm.specs.declared.reading.PpmFault.{PpmFault}
use Rattle.wfc_render.specs.Layout.{layout_of}
use Rattle.wfc_task.proofs.GivenLemmas.{given_sample, given_sampled, sample_given, sampled_given}
use Rattle.wfc_task.proofs.TaskLemmas.{behind_picture, behind_sampled}
use Rattle.wfc_task.specs.Given.{IsSampleFile}
use Rattle.wfc_task.specs.SamplePlans.{picture_plan, sample_plan, sampled_plan}
use Rattle.wfc_task.specs.Sampled.{SampledView, shown_by_grid, shown_by_ppm}
use Rattle.wfc_task.specs.Sources.{window_side_of}
use Rattle.wfc_tileset.specs.Document.{is_ppm_name}
use Rattle.wfc_task.specs.Stages.{IsFormFault, IsLayoutFault, IsLearnFault, IsReadPicture, IsShownFault, IsSymbolsFault, Teaches}
use Rattle.wfc_task.specs.Steps.{sample_in_numbers, sample_layout, sampled_in, shown_in, patterns_taught}
use Rattle.wfc_task.specs.declared.lesson.Taught.{Taught}
use Rattle.wfc_words.specs.RequestView.{RequestView}

-- ---- samples

-- what the bytes of a sample show
faults_shown : (picture : Bool) (bytes : List ℕ) (files : List File) → Faults (step (shown_in picture bytes)) files (IsShownFault picture bytes)
faults_shown true bytes files fault = by_ppm (ppm_of bytes)
  where
    by_ppm : (read : Result PpmView PpmFault) → (outcome (step (result_map shown_by_ppm (or_refuse (refusals.Ppm Sample) read))) files ≡ Err fault) ↔ IsRefusal (refusals.Ppm Sample) read fault
    by_ppm (Ok ppm) = (λ is. absurd (cc (is)), λ has. absurd (cc (has.1)))
    by_ppm (Err why) = (λ is. (why, refl, cc (is)), λ has. cc (has.1, has.2))
faults_shown false bytes files fault = by_grid (grid_of bytes)
  where
    by_grid : (read : Result GridView GridFault) → (outcome (step (result_map shown_by_grid (or_refuse (refusals.Grid Sample) read))) files ≡ Err fault) ↔ IsRefusal (refusals.Grid Sample) read fault
    by_grid (Ok grid) = (λ is. absurd (cc (is)), λ has. absurd (cc (has.1)))
    by_grid (Err why) = (λ is. (why, refl, cc (is)), λ has. cc (has.1, has.2))

faults_sampled : (asked : RequestView) (files : List File) → Faults (sampled_plan asked) files (IsFirstFault (IsReadingFault Sample files asked.file ∷ IsFormFault asked files ∷ []))
faults_sampled asked files =
    faults_first (file_plan Sample asked.file) (λ bytes. step (sampled_in asked bytes)) files (IsReadingFault Sample files asked.file) (IsFormFault asked files ∷ []) (faults_reading Sample files asked.file)
    (λ bytes was.
    let file = file_given Sample asked.file files bytes was in
    faults_last (step (sampled_in asked bytes)) files (IsFormFault asked files)
    (faults_as (step (sampled_in asked bytes)) files (IsShownFault (is_ppm_name asked.file) bytes) (IsFormFault asked files)
    (same_known (λ other. IsFile files asked.file other) (λ other. IsShownFault (is_ppm_name asked.file) other) bytes file (λ other also. one_file files asked.file bytes other file also))
    (faults_shown (is_ppm_name asked.file) bytes files)))

faults_picture : (asked : RequestView) (files : List File)
    → Faults (picture_plan asked) files (IsFirstFault (IsReadingFault Sample files asked.file ∷ IsFormFault asked files ∷ IsSymbolsFault asked files ∷ []))
faults_picture asked files =
    faults_group (sampled_plan asked) behind_sampled files (IsReadingFault Sample files asked.file ∷ IsFormFault asked files ∷ []) (IsSymbolsFault asked files ∷ []) (faults_sampled asked files)
    (λ sampled was.
    faults_first (step (sample_in_numbers sampled)) (λ made. let end : Plan (Kind × Raster × List Symbol) = done (sampled.kind, made.0, made.1) in end) files (IsSymbolsFault asked files) []
    (faults_as (step (sample_in_numbers sampled)) files (IsRefusal refusals.Colours (picture_and_palette sampled.symbols sampled.width)) (IsSymbolsFault asked files)
    (same_known (λ other. IsSampleFile files asked.file other) (λ other. IsRefusal refusals.Colours (picture_and_palette other.symbols other.width)) sampled (sampled_given asked files sampled was)
    (λ other also. one_value (sampled_plan asked) files sampled other was (given_sampled asked files other also)))
    (faults_step refusals.Colours (picture_and_palette sampled.symbols sampled.width) files))
    (λ made colours. faults_none (sampled.kind, made.0, made.1) files))

-- the picture that a plan came to is the file's, and there is one
picture_given : (asked : RequestView) (files : List File) (made : Kind × Raster × List Symbol) → outcome (picture_plan asked) files ≡ Ok made → IsReadPicture asked files (made.1, made.2)
picture_given asked files made was =
    let shown = outcome_parts (sampled_plan asked) behind_sampled files made was in
    let painted = outcome_parts (step (sample_in_numbers shown.0)) (λ made. let end : Plan (Kind × Raster × List Symbol) = done (shown.0.kind, made.0, made.1) in end) files made shown.2 in
    let pieces : (shown.0.kind, painted.0.0, painted.0.1) ≡ made = cc (painted.2) in
    let numbers : picture_and_palette shown.0.symbols shown.0.width ≡ Ok painted.0 = unrefused refusals.Colours (picture_and_palette shown.0.symbols shown.0.width) painted.0 (step_ok (sample_in_numbers shown.0) files painted.0 painted.1) in
    record {
      sampled = shown.0;
      file = sampled_given asked files shown.0 shown.1;
      numbered = numbers ∙ ap (λ (made : Kind × Raster × List Symbol). let end : Result (Raster × List Symbol) _ = Ok (made.1, made.2) in end) pieces;
    }

one_picture : (asked : RequestView) (files : List File) (made other : Raster × List Symbol) → IsReadPicture asked files made → IsReadPicture asked files other → other ≡ made
one_picture asked files made other is also =
    let same : also.sampled ≡ is.sampled = one_value (sampled_plan asked) files is.sampled also.sampled (given_sampled asked files is.sampled is.file) (given_sampled asked files also.sampled also.file) in
    let numbers : picture_and_palette is.sampled.symbols is.sampled.width ≡ Ok other = subst (λ (s : SampledView). picture_and_palette s.symbols s.width ≡ Ok other) same also.numbered in
    cc (numbers, is.numbered)

-- of a sample and what it teaches
abbrev pub sample_stages : RequestView → List File → List TaskStage
sample_stages asked files = IsReadingFault Sample files asked.file ∷ IsFormFault asked files ∷ IsSymbolsFault asked files ∷ IsLearnFault asked files ∷ []

pub faults_sample : (asked : RequestView) (files : List File) → Faults (sample_plan asked) files (IsFirstFault (sample_stages asked files))
faults_sample asked files =
    faults_group (picture_plan asked) (behind_picture asked) files (IsReadingFault Sample files asked.file ∷ IsFormFault asked files ∷ IsSymbolsFault asked files ∷ []) (IsLearnFault asked files ∷ []) (faults_picture asked files)
    (λ made was.
    let picture = picture_given asked files made was in
    faults_first (step (patterns_taught asked made.1)) (λ patterns. let end : Plan Taught = done (record { kind = made.0; palette = made.2; patterns = patterns }) in end) files (IsLearnFault asked files) []
    (faults_as (step (patterns_taught asked made.1)) files (IsRefusal refusals.Learn (patterns_of made.1 (window_side_of asked.source) asked.symmetry asked.wrap_in)) (IsLearnFault asked files)
    (same_known (λ other. IsReadPicture asked files other) (λ other. IsRefusal refusals.Learn (patterns_of other.0 (window_side_of asked.source) asked.symmetry asked.wrap_in)) (made.1, made.2) picture
    (λ other also. one_picture asked files (made.1, made.2) other picture also))
    (faults_step refusals.Learn (patterns_of made.1 (window_side_of asked.source) asked.symmetry asked.wrap_in) files))
    (λ patterns learned. faults_none (record { kind = made.0; palette = made.2; patterns = patterns }) files))

-- a sample teaches one thing
pub one_lesson : (asked : RequestView) (files : List File) (lesson : Taught) → outcome (sample_plan asked) files ≡ Ok lesson → (other : Taught) → Teaches asked files other → other ≡ lesson
one_lesson asked files lesson was other also = one_value (sample_plan asked) files lesson other was (given_sample asked files other.kind other.patterns other.palette also)

-- what is looked at of what a sample teaches
pub same_lesson : (asked : RequestView) (files : List File) (lesson : Taught) (stage : Taught → TaskStage) → outcome (sample_plan asked) files ≡ Ok lesson
    → Same (stage lesson) (λ fault. (other : Taught) × Teaches asked files other × stage other fault)
same_lesson asked files lesson stage was = same_known (λ other. Teaches asked files other) stage lesson (sample_given asked files lesson was) (one_lesson asked files lesson was)

pub faults_layout : (asked : RequestView) (files : List File) (lesson : Taught) → outcome (sample_plan asked) files ≡ Ok lesson → Faults (step (sample_layout lesson.kind asked)) files (IsLayoutFault asked files)
faults_layout asked files lesson was =
    faults_as (step (sample_layout lesson.kind asked)) files (IsRefusal refusals.Render (layout_of lesson.kind asked.form asked.width asked.height 1)) (IsLayoutFault asked files)
    (same_lesson asked files lesson (λ other. IsRefusal refusals.Render (layout_of other.kind asked.form asked.width asked.height 1)) was)
    (faults_step refusals.Render (layout_of lesson.kind asked.form asked.width asked.height 1) files)
