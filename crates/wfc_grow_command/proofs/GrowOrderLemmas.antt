-- The first faults of `grow`.
use Rattle.std.proofs.Common.{Bool, Err, List, None, Ok, Option, Result, Some, [], ap, arith, false, if◌then◌else◌, inl, inr, nat_lt, refl, subst, sym, true, ℕ, ◌&&◌, ◌++◌, ◌<◌, ◌||◌, ◌∙◌, ◌∷◌, ◌≡◌, ◌⊎◌}
use Rattle.std.proofs.lemmas.Bool.{or_parts}
use Rattle.std.proofs.lemmas.Bool.Decides.{nat_tests}
use Rattle.std.specs.Option.{ok_or, option_map}
use Rattle.std.specs.Prelude.{position, ◌↔◌}
use Rattle.std.specs.Str.{bytes_eq}
use Rattle.wfc_blocks.specs.Blocks.{block_at, block_count, output_of_block}
use Rattle.wfc_blocks.specs.Grown.{grow_fault, or_grow_fault}
use Rattle.wfc_blocks.specs.declared.TheConstants.{MAX_BLOCKS}
use Rattle.wfc_blocks.specs.declared.grown.GrowFault.{GrowFault}
use Rattle.wfc_blocks.specs.declared.grown.GrowFault.TheVariants as faults
use Rattle.wfc_choose.specs.declared.RuleKind.{RuleKind}
use Rattle.wfc_grow_command.proofs.GrowGivenLemmas.{behind_enough, behind_growable, behind_layout, behind_lesson, behind_lines, read_for}
use Rattle.wfc_grow_command.specs.GrowOrder.{IsBlocksFault, IsFirstBlockFault, IsManyFault, grow_order}
use Rattle.wfc_grow_command.specs.GrowTask.{GrowTask, area_asked, grow_plan, grow_refusal, growable, grown_plan, read_plan, task_with}
use Rattle.wfc_grow_command.specs.declared.growing.TheConstants.{GROW_CHOOSERS}
use Rattle.wfc_model.specs.Legal.{Pin}
use Rattle.wfc_outside.specs.Folder.{File}
use Rattle.wfc_overlap.specs.Bridge.{window_pair_count}
use Rattle.wfc_overlap.specs.Built.{picture_pin, marked_pin, picture_pins, texts_of}
use Rattle.wfc_pins.specs.InOrder.{and_rest}
use Rattle.wfc_pins.specs.PinView.{PinView}
use Rattle.wfc_pins.specs.declared.fault.BuildFault.{BuildFault}
use Rattle.wfc_pins.specs.declared.fault.BuildFault.TheVariants.{PinOutside, UnknownSymbol}
use Rattle.wfc_plan.proofs.CallerLemmas.{Faults, Same, faults_as, faults_choosers, faults_first, faults_group, faults_last, faults_none, same_first, same_on}
use Rattle.wfc_plan.specs.Kinds.{enough}
use Rattle.wfc_plan.specs.Order.{IsFirstFault, IsInOrder}
use Rattle.wfc_plan.specs.Plan.{or_refuse, outcome, step}
use Rattle.wfc_plan.specs.Stages.{IsChooserFault, IsRefusal, TaskStage}
use Rattle.wfc_plan.specs.declared.fault.Fault.{Fault}
use Rattle.wfc_plan.specs.declared.fault.Fault.TheVariants.{Refused}
use Rattle.wfc_plan.specs.declared.fault.Refusal.{Refusal}
use Rattle.wfc_plan.specs.declared.fault.Refusal.TheVariants as refusals
use Rattle.wfc_problem.specs.declared.TheConstants.{MAX_PAIRS}
use Rattle.wfc_render.specs.declared.form.Layout.{Layout}
use Rattle.wfc_task.proofs.CallerLemmas.{faults_layout, faults_sample, sample_stages}
use Rattle.wfc_task.proofs.ProblemOrderLemmas.{faults_pins, pins_stages, same_lines}
use Rattle.wfc_task.proofs.SampleOrderLemmas.{same_lesson}
use Rattle.wfc_task.specs.Given.{HoldsPins}
use Rattle.wfc_task.specs.SamplePlans.{pins_plan, sample_plan}
use Rattle.wfc_task.specs.Stages.{IsBelowFault, IsCountFault, IsLayoutFault, IsPinFault, IsSizeFault}
use Rattle.wfc_task.specs.Steps.{sample_layout}
use Rattle.wfc_task.specs.declared.lesson.Taught.{Taught}
use Rattle.wfc_words.specs.RequestView.{RequestView}

-- ---- a limit, and what is looked at behind it

-- a test that refuses, whose stage has just this fault
faults_if : {T : Type 0} (refusal : GrowFault → Refusal) (files : List File) (test : Bool) (why : GrowFault) (rest : Result T GrowFault) (stage : TaskStage) (later : List TaskStage) → (test ≡ true → (fault : Fault) → stage fault ↔ (fault ≡ Refused (refusal why))) → (test ≡ false → IsInOrder stage)
    → Faults (step (or_refuse refusal rest)) files (IsFirstFault later) → Faults (step (or_refuse refusal (if test then Err why else rest))) files (IsFirstFault (stage ∷ later))
faults_if {T} refusal files true why rest stage later has none others fault = (λ is. inl ((has refl fault).1 (cc (is))), from)
  where
    from : IsFirstFault (stage ∷ later) fault → (let end : Result T Fault = Err (Refused (refusal why)) in end) ≡ Err fault
    from (inl one) = ap (λ f. let end : Result T Fault = Err f in end) (sym ((has refl fault).0 one))
    from (inr (order, _)) = absurd (order (Refused (refusal why)) ((has refl (Refused (refusal why))).1 refl))
faults_if {T} refusal files false why rest stage later has none others fault = (λ is. inr (none refl, (others fault).0 is), from)
  where
    from : IsFirstFault (stage ∷ later) fault → outcome (step (or_refuse refusal rest)) files ≡ Err fault
    from (inl one) = absurd (none refl fault one)
    from (inr (_, more)) = (others fault).1 more

-- ---- the lines

-- the fault of a line is written as that of a problem
line_refused : (texts : List (List ℕ)) (width height : ℕ) (line : PinView) (why : BuildFault) → picture_pin texts width height line ≡ Err why → grow_refusal (grow_fault why) ≡ refusals.Build why
line_refused texts width height line why is = by_test (nat_lt line.x width && nat_lt line.y height) (position (λ text. bytes_eq text line.symbol) texts) is
  where
    Is : BuildFault → Type 0
    Is why = grow_refusal (grow_fault why) ≡ refusals.Build why

    by_test : (inside : Bool) (place : Option ℕ) → (if inside then ok_or (option_map (marked_pin line) place) (UnknownSymbol line.line) else Err (PinOutside line.line)) ≡ Err why → Is why
    by_test true (Some number) e = absurd (cc (e))
    by_test true None e = let same : UnknownSymbol line.line ≡ why = cc (e) in subst Is same refl
    by_test false place e = let same : PinOutside line.line ≡ why = cc (e) in subst Is same refl

lines_refused : (texts : List (List ℕ)) (width height : ℕ) (lines : List PinView) (why : BuildFault) → picture_pins texts width height lines ≡ Err why → grow_refusal (grow_fault why) ≡ refusals.Build why
lines_refused texts width height [] why is = absurd (cc (is))
lines_refused texts width height (line ∷ lines) why is = by_first (picture_pin texts width height line) (picture_pins texts width height lines) refl refl is (λ later. lines_refused texts width height lines why later)
  where
    by_first : (first : Result Pin BuildFault) (rest : Result (List Pin) BuildFault) → picture_pin texts width height line ≡ first → picture_pins texts width height lines ≡ rest → and_rest first rest ≡ Err why
        → (picture_pins texts width height lines ≡ Err why → grow_refusal (grow_fault why) ≡ refusals.Build why) → grow_refusal (grow_fault why) ≡ refusals.Build why
    by_first (Err fault) rest p q e later =
        let same : fault ≡ why = cc (e) in
        line_refused texts width height line why (p ∙ ap (λ (f : BuildFault). let end : Result Pin BuildFault = Err f in end) same)
    by_first (Ok pin) (Err fault) p q e later =
        let same : fault ≡ why = cc (e) in later (q ∙ ap (λ (f : BuildFault). let end : Result (List Pin) BuildFault = Err f in end) same)
    by_first (Ok pin) (Ok pins) p q e later = absurd (cc (e))

faults_meant : (texts : List (List ℕ)) (width height : ℕ) (lines : List PinView) (files : List File)
    → Faults (step (or_refuse grow_refusal (or_grow_fault (picture_pins texts width height lines)))) files (IsRefusal refusals.Build (picture_pins texts width height lines))
faults_meant texts width height lines files fault = by_meant (picture_pins texts width height lines) (λ why is. lines_refused texts width height lines why is)
  where
    by_meant : (meant : Result (List Pin) BuildFault) → ((why : BuildFault) → meant ≡ Err why → grow_refusal (grow_fault why) ≡ refusals.Build why)
        → (outcome (step (or_refuse grow_refusal (or_grow_fault meant))) files ≡ Err fault) ↔ IsRefusal refusals.Build meant fault
    by_meant (Ok pins) written = (λ is. absurd (cc (is)), λ has. absurd (cc (has.1)))
    by_meant (Err why) written =
        let same : Refused (grow_refusal (grow_fault why)) ≡ Refused (refusals.Build why) = ap Refused (written why refl) in (
          λ is. let refused : Refused (grow_refusal (grow_fault why)) ≡ fault = cc (is) in (why, refl, sym refused ∙ same),
          λ has.
              let other : why ≡ has.0 = cc (has.1) in
              ap (λ (f : Fault). let end : Result (List Pin) Fault = Err f in end) (same ∙ ap (λ (w : BuildFault). Refused (refusals.Build w)) other ∙ sym has.2),
        )

-- ---- what can be grown

-- the stages of it, by what was read
abbrev grown_stages : RequestView → Taught → List PinView → List TaskStage
grown_stages asked lesson lines =
    IsBelowFault asked lesson.patterns.n
    ∷ IsManyFault (block_count lesson.patterns.n (area_asked asked))
    ∷ IsCountFault (window_pair_count lesson.patterns (output_of_block (block_at lesson.patterns.n (area_asked asked) 0)))
    ∷ IsRefusal refusals.Build (picture_pins (texts_of lesson.palette) asked.width asked.height lines)
    ∷ []

-- a side is below that of a window exactly where a test says so
is_below : (asked : RequestView) (n : ℕ) → (nat_lt asked.width n || nat_lt asked.height n) ≡ true → (asked.width < n) ⊎ (asked.height < n)
is_below asked n is = by_test (nat_lt asked.width n) (nat_lt asked.height n) refl refl is
  where
    by_test : (narrow low : Bool) → nat_lt asked.width n ≡ narrow → nat_lt asked.height n ≡ low → (narrow || low) ≡ true → (asked.width < n) ⊎ (asked.height < n)
    by_test true low w h e = inl (grind (arith, nat_tests, w))
    by_test false true w h e = inr (grind (arith, nat_tests, h))
    by_test false false w h e = absurd (cc (e))

not_below : (asked : RequestView) (n : ℕ) → (nat_lt asked.width n || nat_lt asked.height n) ≡ false → IsInOrder (IsBelowFault asked n)
not_below asked n is fault has =
    let sides = or_parts (nat_lt asked.width n) (nat_lt asked.height n) is in
    let w = sides.0 in
    let h = sides.1 in
    elim has.below [ inl narrow ↦ grind (arith, nat_tests, w, narrow) | inr low ↦ grind (arith, nat_tests, h, low) ]

faults_growable : (asked : RequestView) (lesson : Taught) (layout : Layout) (lines : List PinView) (files : List File) → Faults (step (growable asked (task_with lesson layout lines))) files (IsFirstFault (grown_stages asked lesson lines))
faults_growable asked lesson layout lines files =
    let n = lesson.patterns.n in
    let count = block_count n (area_asked asked) in
    let product = window_pair_count lesson.patterns (output_of_block (block_at n (area_asked asked) 0)) in
    let meant = picture_pins (texts_of lesson.palette) asked.width asked.height lines in
    let at_lines = IsRefusal refusals.Build meant ∷ [] in
    let rest : Result (List Pin) GrowFault = or_grow_fault meant in
    let counted : Result (List Pin) GrowFault = if nat_lt MAX_PAIRS product then Err (faults.TooLarge product) else rest in
    let many : Result (List Pin) GrowFault = if nat_lt MAX_BLOCKS count then Err (faults.TooManyBlocks count) else counted in
    faults_if grow_refusal files (nat_lt asked.width n || nat_lt asked.height n) faults.SizeBelowN many (IsBelowFault asked n) (IsManyFault count ∷ IsCountFault product ∷ at_lines)
    (λ test fault. (λ has. has.is, λ is. record { below = is_below asked n test; is = is })) (not_below asked n)
    (faults_if grow_refusal files (nat_lt MAX_BLOCKS count) (faults.TooManyBlocks count) counted (IsManyFault count) (IsCountFault product ∷ at_lines)
    (λ test fault. (λ has. has.is, λ is. record { many = grind (arith, nat_tests, test); is = is })) (λ test fault has. grind (arith, nat_tests, test, has.many))
    (faults_if grow_refusal files (nat_lt MAX_PAIRS product) (faults.TooLarge product) rest (IsCountFault product) at_lines
    (λ test fault. (λ has. has.is, λ is. record { many = grind (arith, nat_tests, test); is = is })) (λ test fault has. grind (arith, nat_tests, test, has.many))
    (faults_last (step (or_refuse grow_refusal rest)) files (IsRefusal refusals.Build meant) (faults_meant (texts_of lesson.palette) asked.width asked.height lines files))))

-- the stages of it
abbrev growth_stages : RequestView → List File → List TaskStage
growth_stages asked files = IsSizeFault asked files ∷ IsBlocksFault asked files ∷ IsFirstBlockFault asked files ∷ IsPinFault asked files ∷ []

same_grown : (asked : RequestView) (files : List File) (lesson : Taught) (lines : List PinView) → outcome (sample_plan asked) files ≡ Ok lesson → outcome (pins_plan asked.pins) files ≡ Ok lines
    → Same (IsFirstFault (grown_stages asked lesson lines)) (IsFirstFault (growth_stages asked files))
same_grown asked files lesson lines was held =
    let meant : Taught → List PinView → TaskStage = λ other lines. IsRefusal refusals.Build (picture_pins (texts_of other.palette) asked.width asked.height lines) in
    let of_lines : Taught → TaskStage = λ other fault. (lines : List PinView) × HoldsPins files asked.pins lines × meant other lines fault in
    let many : Taught → TaskStage = λ other. IsManyFault (block_count other.patterns.n (area_asked asked)) in
    let counted : Taught → TaskStage = λ other. IsCountFault (window_pair_count other.patterns (output_of_block (block_at other.patterns.n (area_asked asked) 0))) in
    same_first (IsBelowFault asked lesson.patterns.n) (IsSizeFault asked files) (many lesson ∷ counted lesson ∷ meant lesson lines ∷ []) (IsBlocksFault asked files ∷ IsFirstBlockFault asked files ∷ IsPinFault asked files ∷ [])
    (same_lesson asked files lesson (λ other. IsBelowFault asked other.patterns.n) was)
    (same_first (many lesson) (IsBlocksFault asked files) (counted lesson ∷ meant lesson lines ∷ []) (IsFirstBlockFault asked files ∷ IsPinFault asked files ∷ []) (same_lesson asked files lesson many was)
    (same_first (counted lesson) (IsFirstBlockFault asked files) (meant lesson lines ∷ []) (IsPinFault asked files ∷ []) (same_lesson asked files lesson counted was)
    (same_first (meant lesson lines) (IsPinFault asked files) [] []
    (same_on (meant lesson lines) (of_lines lesson) (IsPinFault asked files) (same_lines files asked.pins lines (meant lesson) held) (same_lesson asked files lesson of_lines was))
    (λ fault. (λ none. none, λ none. none)))))

faults_grown : (asked : RequestView) (files : List File) (lesson : Taught) (layout : Layout) (lines : List PinView) → outcome (sample_plan asked) files ≡ Ok lesson → outcome (pins_plan asked.pins) files ≡ Ok lines
    → Faults (grown_plan asked (task_with lesson layout lines)) files (IsFirstFault (growth_stages asked files))
faults_grown asked files lesson layout lines was held =
    let task = task_with lesson layout lines in
    faults_group (step (growable asked task)) (behind_growable task) files (growth_stages asked files) []
    (faults_as (step (growable asked task)) files (IsFirstFault (grown_stages asked lesson lines)) (IsFirstFault (growth_stages asked files)) (same_grown asked files lesson lines was held) (faults_growable asked lesson layout lines files))
    (λ pins made. faults_none task files)

-- ---- what is read

abbrev read_stages : RequestView → List File → List TaskStage
read_stages asked files = sample_stages asked files ++ (IsLayoutFault asked files ∷ pins_stages files asked.pins)

faults_read : (kinds : List RuleKind) (asked : RequestView) (files : List File) → Faults (read_plan kinds asked) files (IsFirstFault (IsChooserFault GROW_CHOOSERS kinds asked.rule ∷ read_stages asked files))
faults_read kinds asked files =
    faults_first (step (enough GROW_CHOOSERS kinds asked.rule)) (λ _. behind_enough asked) files (IsChooserFault GROW_CHOOSERS kinds asked.rule) (read_stages asked files) (faults_choosers GROW_CHOOSERS kinds asked.rule files)
    (λ _ found.
    faults_group (sample_plan asked) (behind_lesson asked) files (sample_stages asked files) (IsLayoutFault asked files ∷ pins_stages files asked.pins) (faults_sample asked files)
    (λ lesson was.
    faults_first (step (sample_layout lesson.kind asked)) (behind_layout asked lesson) files (IsLayoutFault asked files) (pins_stages files asked.pins) (faults_layout asked files lesson was)
    (λ layout written.
    faults_group (pins_plan asked.pins) (behind_lines lesson layout) files (pins_stages files asked.pins) [] (faults_pins files asked.pins) (λ lines held. faults_none (task_with lesson layout lines) files))))

-- ---- all

pub faults_grow : (kinds : List RuleKind) (asked : RequestView) (files : List File) → Faults (grow_plan kinds asked) files (IsFirstFault (grow_order kinds asked files))
faults_grow kinds asked files =
    faults_group (read_plan kinds asked) (grown_plan asked) files (IsChooserFault GROW_CHOOSERS kinds asked.rule ∷ read_stages asked files) (growth_stages asked files) (faults_read kinds asked files)
    (λ task was.
    let growing = read_for kinds asked files task was in
    subst (λ (t : GrowTask). Faults (grown_plan asked t) files (IsFirstFault (growth_stages asked files))) growing.is (faults_grown asked files growing.lesson growing.layout growing.lines growing.taught growing.held))
