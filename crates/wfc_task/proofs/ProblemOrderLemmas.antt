-- The first faults of the pins of a sample and of its problem.
use Rattle.std.proofs.Common.{Bool, Err, List, None, Ok, Option, Result, Some, [], ap, arith, false, if◌then◌else◌, inl, inr, nat_lt, refl, sym, true, ℕ, ◌<◌, ◌||◌, ◌∷◌, ◌≡◌, ◌⊎◌}
use Rattle.std.proofs.lemmas.Bool.Decides.{nat_tests}
use Rattle.std.specs.Prelude.{◌↔◌}
use Rattle.wfc_model.specs.Legal.{Pin}
use Rattle.wfc_outside.specs.Folder.{File}
use Rattle.wfc_outside.specs.Gives.{result_map}
use Rattle.wfc_overlap.specs.Bridge.{window_pair_count}
use Rattle.wfc_overlap.specs.Built.{picture_pins, texts_of}
use Rattle.wfc_overlap.specs.Sample.{problem_of_sample}
use Rattle.wfc_pins.specs.PinView.{PinView}
use Rattle.wfc_pins.specs.Pins.{pins_of}
use Rattle.wfc_pins.specs.declared.fault.BuildFault.{BuildFault}
use Rattle.wfc_pins.specs.declared.fault.BuildFault.TheVariants.{SizeBelowN, TooLarge}
use Rattle.wfc_plan.proofs.CallerLemmas.{Faults, Same, faults_as, faults_first, faults_group, faults_last, faults_reading, faults_step, file_given, one_file, one_value, same_first, same_known, same_on}
use Rattle.wfc_plan.specs.Files.{IsFile, file_plan}
use Rattle.wfc_plan.specs.Order.{IsFirstFault, IsInOrder}
use Rattle.wfc_plan.specs.Plan.{or_refuse, outcome, step}
use Rattle.wfc_plan.specs.Stages.{IsNamedFault, IsReadingFault, IsRefusal, TaskStage}
use Rattle.wfc_plan.specs.declared.fault.Fault.{Fault}
use Rattle.wfc_plan.specs.declared.fault.Fault.TheVariants.{Refused}
use Rattle.wfc_plan.specs.declared.fault.Refusal.TheVariants as refusals
use Rattle.wfc_plan.specs.declared.fault.Source.TheVariants.{Pins}
use Rattle.wfc_problem.specs.Network.{Network}
use Rattle.wfc_problem.specs.declared.TheConstants.{MAX_PAIRS}
use Rattle.wfc_task.proofs.GivenLemmas.{given_pins, pins_given}
use Rattle.wfc_task.proofs.SampleOrderLemmas.{same_lesson}
use Rattle.wfc_task.specs.Given.{HoldsPins}
use Rattle.wfc_task.specs.Maps.{asked_output}
use Rattle.wfc_task.specs.SamplePlans.{pins_plan, problem_plan, sample_plan}
use Rattle.wfc_task.specs.Stages.{IsBelowFault, IsCountFault, IsPairsFault, IsPinFault, IsPinsFault, IsSizeFault}
use Rattle.wfc_task.specs.Steps.{read_pin_lines as lines_in, problem_of_lines}
use Rattle.wfc_task.specs.declared.lesson.Taught.{Taught}
use Rattle.wfc_words.specs.RequestView.{RequestView}

-- ---- pins

abbrev pub pins_stages : List File → Option (List ℕ) → List TaskStage
pins_stages files name = IsNamedFault Pins files name ∷ IsPinsFault files name ∷ []

pub faults_pins : (files : List File) (name : Option (List ℕ)) → Faults (pins_plan name) files (IsFirstFault (pins_stages files name))
faults_pins files None = λ fault. (λ is. absurd (cc (is)), from fault)
  where
    from : (fault : Fault) → IsFirstFault (pins_stages files None) fault → outcome (pins_plan None) files ≡ Err fault
    from fault (inl none) = absurd none
    from fault (inr (_, inl none)) = absurd none
    from fault (inr (_, inr (_, none))) = absurd none
faults_pins files (Some name) =
    faults_first (file_plan Pins name) (λ bytes. step (lines_in bytes)) files (IsReadingFault Pins files name) (IsPinsFault files (Some name) ∷ []) (faults_reading Pins files name)
    (λ bytes was.
    let file = file_given Pins name files bytes was in
    faults_last (step (lines_in bytes)) files (IsPinsFault files (Some name))
    (faults_as (step (lines_in bytes)) files (IsRefusal refusals.Pins (pins_of bytes)) (IsPinsFault files (Some name))
    (same_known (λ other. IsFile files name other) (λ other. IsRefusal refusals.Pins (pins_of other)) bytes file (λ other also. one_file files name bytes other file also))
    (faults_step refusals.Pins (pins_of bytes) files)))

-- the lines of a pins file are some
pub same_lines : (files : List File) (name : Option (List ℕ)) (lines : List PinView) (stage : List PinView → TaskStage) → outcome (pins_plan name) files ≡ Ok lines
    → Same (stage lines) (λ fault. (other : List PinView) × HoldsPins files name other × stage other fault)
same_lines files name lines stage was =
    same_known (λ other. HoldsPins files name other) stage lines (pins_given name files lines was) (λ other also. one_value (pins_plan name) files lines other was (given_pins name files other also))

-- ---- problems

-- what a problem is built of, with its lines
abbrev pub built_stages : RequestView → Taught → List PinView → List TaskStage
built_stages asked lesson lines =
    IsBelowFault asked lesson.patterns.n
    ∷ IsCountFault (window_pair_count lesson.patterns (asked_output asked))
    ∷ IsRefusal refusals.Build (picture_pins (texts_of lesson.palette) asked.width asked.height lines)
    ∷ []

-- the lines, where nothing else is at fault
faults_lines : {X T : Type 0} (make : List X → T) (pins : Result (List X) BuildFault) (fault : Fault) (files : List File)
    → (outcome (step (or_refuse refusals.Build (result_map make pins))) files ≡ Err fault) ↔ IsRefusal refusals.Build pins fault
faults_lines make (Ok pins) fault files = (λ is. absurd (cc (is)), λ has. absurd (cc (has.1)))
faults_lines make (Err why) fault files = (λ is. (why, refl, cc (is)), λ has. cc (has.1, has.2))

-- a count of pairs, and then the lines
pub faults_count : {X T : Type 0} (count : ℕ) (make : List X → T) (pins : Result (List X) BuildFault) (files : List File)
    → Faults (step (or_refuse refusals.Build (result_map make (if nat_lt MAX_PAIRS count then Err (TooLarge count) else pins)))) files (IsFirstFault (IsCountFault count ∷ IsRefusal refusals.Build pins ∷ []))
faults_count {T = T} count make pins files fault = by_test (nat_lt MAX_PAIRS count) refl
  where
    by_test : (many : Bool) → nat_lt MAX_PAIRS count ≡ many
        → (outcome (step (or_refuse refusals.Build (result_map make (if many then Err (TooLarge count) else pins)))) files ≡ Err fault) ↔ IsFirstFault (IsCountFault count ∷ IsRefusal refusals.Build pins ∷ []) fault
    by_test true test = (λ is. inl (record { many = grind (arith, nat_tests, test); is = cc (is) }), from)
      where
        from : IsFirstFault (IsCountFault count ∷ IsRefusal refusals.Build pins ∷ []) fault → outcome (step (or_refuse refusals.Build (result_map make (if true then Err (TooLarge count) else pins)))) files ≡ Err fault
        from (inl has) = ap (λ f. let end : Result T Fault = Err f in end) (sym has.is)
        from (inr (order, _)) = absurd (order (Refused (refusals.Build (TooLarge count))) (record { many = grind (arith, nat_tests, test); is = refl }))
    by_test false test = (λ is. inr (λ f has. grind (arith, nat_tests, test, has.many), inl ((faults_lines make pins fault files).0 is)), from)
      where
        from : IsFirstFault (IsCountFault count ∷ IsRefusal refusals.Build pins ∷ []) fault → outcome (step (or_refuse refusals.Build (result_map make (if false then Err (TooLarge count) else pins)))) files ≡ Err fault
        from (inl has) = absurd (grind (arith, nat_tests, test, has.many))
        from (inr (_, inl has)) = (faults_lines make pins fault files).1 has
        from (inr (_, inr (_, none))) = absurd none

faults_built : (asked : RequestView) (lesson : Taught) (lines : List PinView) (files : List File)
    → Faults (step (problem_of_lines asked lesson.patterns lesson.palette lines)) files (IsFirstFault (built_stages asked lesson lines))
faults_built asked lesson lines files fault = by_tests (nat_lt asked.width lesson.patterns.n) (nat_lt asked.height lesson.patterns.n) refl refl
  where
    rest : Result (List Pin) BuildFault
    rest =
        if nat_lt MAX_PAIRS (window_pair_count lesson.patterns (asked_output asked)) then Err (TooLarge (window_pair_count lesson.patterns (asked_output asked)))
        else picture_pins (texts_of lesson.palette) asked.width asked.height lines

    make : List Pin → Network
    make pins = problem_of_sample lesson.patterns (asked_output asked) pins

    below : (asked.width < lesson.patterns.n) ⊎ (asked.height < lesson.patterns.n)
        → (outcome (step (or_refuse refusals.Build (let end : Result Network BuildFault = Err SizeBelowN in end))) files ≡ Err fault) ↔ IsFirstFault (built_stages asked lesson lines) fault
    below is_below = (λ is. inl (record { below = is_below; is = cc (is) }), from)
      where
        from : IsFirstFault (built_stages asked lesson lines) fault → outcome (step (or_refuse refusals.Build (let end : Result Network BuildFault = Err SizeBelowN in end))) files ≡ Err fault
        from (inl has) = ap (λ f. let end : Result Network Fault = Err f in end) (sym has.is)
        from (inr (order, _)) = absurd (order (Refused (refusals.Build SizeBelowN)) (record { below = is_below; is = refl }))

    by_tests : (narrow low : Bool) → nat_lt asked.width lesson.patterns.n ≡ narrow → nat_lt asked.height lesson.patterns.n ≡ low
        → (outcome (step (or_refuse refusals.Build (result_map make (if narrow || low then Err SizeBelowN else rest)))) files ≡ Err fault) ↔ IsFirstFault (built_stages asked lesson lines) fault
    by_tests true low w h = below (inl (grind (arith, nat_tests, w)))
    by_tests false true w h = below (inr (grind (arith, nat_tests, h)))
    by_tests false false w h = (to, from)
      where
        fits : IsInOrder (IsBelowFault asked lesson.patterns.n)
        fits f has = elim has.below [ inl narrow ↦ grind (arith, nat_tests, w, narrow) | inr low ↦ grind (arith, nat_tests, h, low) ]

        counted : Faults (step (or_refuse refusals.Build (result_map make rest))) files
            (IsFirstFault (IsCountFault (window_pair_count lesson.patterns (asked_output asked)) ∷ IsRefusal refusals.Build (picture_pins (texts_of lesson.palette) asked.width asked.height lines) ∷ []))
        counted =
            faults_count (window_pair_count lesson.patterns (asked_output asked)) make (picture_pins (texts_of lesson.palette) asked.width asked.height lines) files

        to : outcome (step (or_refuse refusals.Build (result_map make rest))) files ≡ Err fault → IsFirstFault (built_stages asked lesson lines) fault
        to is = inr (fits, (counted fault).0 is)

        from : IsFirstFault (built_stages asked lesson lines) fault → outcome (step (or_refuse refusals.Build (result_map make rest))) files ≡ Err fault
        from (inl has) = absurd (fits fault has)
        from (inr (_, has)) = (counted fault).1 has

-- the stages of the problem of a sample
abbrev pub problem_stages : RequestView → List File → List TaskStage
problem_stages asked files = IsSizeFault asked files ∷ IsPairsFault asked files ∷ IsPinFault asked files ∷ []

same_built : (asked : RequestView) (files : List File) (lesson : Taught) (lines : List PinView) → outcome (sample_plan asked) files ≡ Ok lesson → outcome (pins_plan asked.pins) files ≡ Ok lines
    → Same (IsFirstFault (built_stages asked lesson lines)) (IsFirstFault (problem_stages asked files))
same_built asked files lesson lines was held =
    let meant : Taught → List PinView → TaskStage = λ other lines. IsRefusal refusals.Build (picture_pins (texts_of other.palette) asked.width asked.height lines) in
    let of_lines : Taught → TaskStage = λ other fault. (lines : List PinView) × HoldsPins files asked.pins lines × meant other lines fault in
    let counted : Taught → TaskStage = λ other. IsCountFault (window_pair_count other.patterns (asked_output asked)) in
    same_first (IsBelowFault asked lesson.patterns.n) (IsSizeFault asked files) (counted lesson ∷ meant lesson lines ∷ []) (IsPairsFault asked files ∷ IsPinFault asked files ∷ [])
    (same_lesson asked files lesson (λ other. IsBelowFault asked other.patterns.n) was)
    (same_first (counted lesson) (IsPairsFault asked files) (meant lesson lines ∷ []) (IsPinFault asked files ∷ []) (same_lesson asked files lesson counted was)
    (same_first (meant lesson lines) (IsPinFault asked files) [] []
    (same_on (meant lesson lines) (of_lines lesson) (IsPinFault asked files) (same_lines files asked.pins lines (meant lesson) held) (same_lesson asked files lesson of_lines was))
    (λ fault. (λ none. none, λ none. none))))

pub faults_problem : (asked : RequestView) (files : List File) (lesson : Taught) → outcome (sample_plan asked) files ≡ Ok lesson
    → Faults (problem_plan asked lesson) files (IsFirstFault (IsNamedFault Pins files asked.pins ∷ IsPinsFault files asked.pins ∷ problem_stages asked files))
faults_problem asked files lesson was =
    faults_group (pins_plan asked.pins) (λ lines. step (problem_of_lines asked lesson.patterns lesson.palette lines)) files (pins_stages files asked.pins) (problem_stages asked files) (faults_pins files asked.pins)
    (λ lines held.
    faults_as (step (problem_of_lines asked lesson.patterns lesson.palette lines)) files (IsFirstFault (built_stages asked lesson lines)) (IsFirstFault (problem_stages asked files))
    (same_built asked files lesson lines was held) (faults_built asked lesson lines files))
