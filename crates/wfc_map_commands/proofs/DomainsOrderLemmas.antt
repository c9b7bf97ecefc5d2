-- The first faults of `domains`.
use Rattle.std.proofs.Common.{Err, List, None, Option, Result, Some, [], ap, inl, inr, refl, subst, sym, ℕ, ◌∙◌, ◌∷◌, ◌≡◌}
use Rattle.wfc_map_commands.proofs.DomainsGivenLemmas.{behind_problem}
use Rattle.wfc_map_commands.specs.DomainsGiven.{HoldsSteps}
use Rattle.wfc_map_commands.specs.DomainsOrder.{domains_order}
use Rattle.wfc_map_commands.specs.DomainsTask.{DomainsTask, domains, domains_plan}
use Rattle.wfc_map_commands.specs.StepPlans.{steps_plan}
use Rattle.wfc_map_commands.specs.StepStages.{IsOutsideOf, IsRangeFault, IsStepOutside, IsStepsFault}
use Rattle.wfc_map_commands.specs.Stepping.{fitting_steps, steps_in, unless_out}
use Rattle.wfc_outside.specs.Folder.{File}
use Rattle.wfc_pins.specs.Steps.{range_fault, steps_of}
use Rattle.wfc_pins.specs.declared.steps.RangeFault.{RangeFault}
use Rattle.wfc_pins.specs.declared.steps.StepLine.{StepLine}
use Rattle.wfc_plan.proofs.CallerLemmas.{Faults, faults_as, faults_first, faults_group, faults_last, faults_none, faults_reading, faults_step, file_given, one_file, same_first, same_known, same_self, step_ok, unrefused}
use Rattle.wfc_plan.specs.Files.{IsFile, file_plan}
use Rattle.wfc_plan.specs.Order.{IsFirstFault}
use Rattle.wfc_plan.specs.Plan.{Plan, and_then, done, outcome, step}
use Rattle.wfc_plan.specs.Stages.{IsNamedFault, IsReadingFault, IsRefusal, TaskStage}
use Rattle.wfc_plan.specs.declared.fault.Fault.{Fault}
use Rattle.wfc_plan.specs.declared.fault.Refusal.TheVariants as refusals
use Rattle.wfc_plan.specs.declared.fault.Source.TheVariants.{Steps}
use Rattle.wfc_problem.specs.Network.{Network}
use Rattle.wfc_task.proofs.CallerLemmas.{faults_posed, same_posed}
use Rattle.wfc_task.specs.Posed.{posed_plan}
use Rattle.wfc_task.specs.PosedOrder.{posed_order}
use Rattle.wfc_words.specs.RequestView.{RequestView}

-- ---- steps

-- steps that are looked up in a problem
faults_fitting : (P : Network) (steps : List StepLine) (files : List File) → Faults (step (fitting_steps P steps)) files (IsStepOutside P steps)
faults_fitting P steps files fault = (to (range_fault P steps) refl, from)
  where
    by_fault : (found : Option RangeFault) → range_fault P steps ≡ found → outcome (step (unless_out steps found)) files ≡ Err fault → IsStepOutside P steps fault
    by_fault None was is = absurd (cc (is))
    by_fault (Some why) was is = record { why = why; outside = was; is = cc (is) }

    to : (found : Option RangeFault) → range_fault P steps ≡ found → outcome (step (fitting_steps P steps)) files ≡ Err fault → IsStepOutside P steps fault
    to found was is = by_fault found was (subst (λ f. outcome (step (unless_out steps f)) files ≡ Err fault) was is)

    from : IsStepOutside P steps fault → outcome (step (fitting_steps P steps)) files ≡ Err fault
    from has = ap (λ f. outcome (step (unless_out steps f)) files) has.outside ∙ ap (λ f. let end : Result (List StepLine) Fault = Err f in end) (sym has.is)

abbrev steps_stages : List File → Option (List ℕ) → Network → List TaskStage
steps_stages files name P = IsNamedFault Steps files name ∷ IsStepsFault files name ∷ IsOutsideOf files name P ∷ []

-- a file holds one list of steps
one_steps : (files : List File) (name : List ℕ) (steps other : List StepLine) → HoldsSteps files (Some name) steps → HoldsSteps files (Some name) other → other ≡ steps
one_steps files name steps other is also =
    let bytes : also.0 ≡ is.0 = one_file files name is.0 also.0 is.1 also.1 in
    cc (bytes, is.2, also.2)

faults_steps : (files : List File) (name : Option (List ℕ)) (P : Network) → Faults (steps_plan name P) files (IsFirstFault (steps_stages files name P))
faults_steps files None P = λ fault. (λ is. absurd (cc (is)), from fault)
  where
    from : (fault : Fault) → IsFirstFault (steps_stages files None P) fault → outcome (steps_plan None P) files ≡ Err fault
    from fault (inl none) = absurd none
    from fault (inr (_, inl none)) = absurd none
    from fault (inr (_, inr (_, inl (steps, held, out)))) = let never : range_fault P [] ≡ Some out.why = subst (λ s. range_fault P s ≡ Some out.why) (sym held) out.outside in absurd (cc (never))
    from fault (inr (_, inr (_, inr (_, none)))) = absurd none
faults_steps files (Some name) P =
    faults_first (file_plan Steps name) (λ bytes. and_then (step (steps_in bytes)) (λ steps. step (fitting_steps P steps))) files (IsReadingFault Steps files name)
    (IsStepsFault files (Some name) ∷ IsOutsideOf files (Some name) P ∷ []) (faults_reading Steps files name)
    (λ bytes was.
    let file = file_given Steps name files bytes was in
    faults_first (step (steps_in bytes)) (λ steps. step (fitting_steps P steps)) files (IsStepsFault files (Some name)) (IsOutsideOf files (Some name) P ∷ [])
    (faults_as (step (steps_in bytes)) files (IsRefusal refusals.Steps (steps_of bytes)) (IsStepsFault files (Some name))
    (same_known (λ other. IsFile files name other) (λ other. IsRefusal refusals.Steps (steps_of other)) bytes file (λ other also. one_file files name bytes other file also))
    (faults_step refusals.Steps (steps_of bytes) files))
    (λ steps read.
    let held : HoldsSteps files (Some name) steps = (bytes, file, unrefused refusals.Steps (steps_of bytes) steps (step_ok (steps_in bytes) files steps read)) in
    faults_last (step (fitting_steps P steps)) files (IsOutsideOf files (Some name) P)
    (faults_as (step (fitting_steps P steps)) files (IsStepOutside P steps) (IsOutsideOf files (Some name) P)
    (same_known (λ other. HoldsSteps files (Some name) other) (λ other. IsStepOutside P other) steps held (λ other also. one_steps files name steps other held also))
    (faults_fitting P steps files))))

pub faults_domains : (asked : RequestView) (files : List File) → Faults (domains_plan asked) files (IsFirstFault (domains_order asked files))
faults_domains asked files =
    let later : List TaskStage = IsNamedFault Steps files asked.steps ∷ IsStepsFault files asked.steps ∷ IsRangeFault asked files ∷ [] in
    faults_group (posed_plan asked) (behind_problem asked) files (posed_order asked files) later (faults_posed asked files)
    (λ P was.
    let steps : Faults (steps_plan asked.steps P) files (IsFirstFault later)
    = faults_as (steps_plan asked.steps P) files (IsFirstFault (steps_stages files asked.steps P)) (IsFirstFault later)
    (same_first (IsNamedFault Steps files asked.steps) (IsNamedFault Steps files asked.steps) (IsStepsFault files asked.steps ∷ IsOutsideOf files asked.steps P ∷ []) (IsStepsFault files asked.steps ∷ IsRangeFault asked files ∷ [])
    (same_self (IsNamedFault Steps files asked.steps))
    (same_first (IsStepsFault files asked.steps) (IsStepsFault files asked.steps) (IsOutsideOf files asked.steps P ∷ []) (IsRangeFault asked files ∷ []) (same_self (IsStepsFault files asked.steps))
    (same_first (IsOutsideOf files asked.steps P) (IsRangeFault asked files) [] [] (same_posed asked files P (λ other. IsOutsideOf files asked.steps other) was) (same_self (IsFirstFault [])))))
    (faults_steps files asked.steps P) in
    faults_group (steps_plan asked.steps P) (λ steps. let end : Plan DomainsTask = done (domains P steps) in end) files later [] steps (λ steps said. faults_none (domains P steps) files))
