-- What `domains` comes to over told files, in the subject's words.
use Rattle.std.proofs.Common.{List, None, Ok, Option, Result, Some, [], ap, refl, subst, ℕ, ◌∙◌, ◌≡◌}
use Rattle.wfc_map_commands.specs.DomainsGiven.{HoldsSteps, IsDomainsTask}
use Rattle.wfc_map_commands.specs.DomainsTask.{DomainsTask, domains, domains_plan}
use Rattle.wfc_map_commands.specs.StepPlans.{steps_plan}
use Rattle.wfc_map_commands.specs.Stepping.{fitting_steps, steps_in, unless_out}
use Rattle.wfc_outside.specs.Folder.{File}
use Rattle.wfc_pins.specs.Steps.{range_fault, steps_of}
use Rattle.wfc_pins.specs.declared.steps.RangeFault.{RangeFault}
use Rattle.wfc_pins.specs.declared.steps.StepLine.{StepLine}
use Rattle.wfc_plan.proofs.CallerLemmas.{done_is, file_given, given_file, ok_refused, ok_step, outcome_on, outcome_parts, step_ok, unrefused}
use Rattle.wfc_plan.specs.Files.{file_plan}
use Rattle.wfc_plan.specs.Plan.{Plan, and_then, done, outcome, step}
use Rattle.wfc_plan.specs.declared.fault.Fault.{Fault}
use Rattle.wfc_plan.specs.declared.fault.Refusal.TheVariants as refusals
use Rattle.wfc_plan.specs.declared.fault.Source.TheVariants.{Steps}
use Rattle.wfc_problem.specs.Network.{Network}
use Rattle.wfc_task.proofs.CallerLemmas.{given_posed, posed_given}
use Rattle.wfc_task.specs.Posed.{posed_plan}
use Rattle.wfc_words.specs.RequestView.{RequestView}

in_problem : (P : Network) (steps kept : List StepLine) (fault : Option RangeFault) → unless_out steps fault ≡ Ok kept → (fault ≡ None) × (steps ≡ kept)
in_problem P steps kept None is = (refl, cc)
in_problem P steps kept (Some fault) is = absurd (cc)

pub steps_given : (name : Option (List ℕ)) (P : Network) (files : List File) (steps : List StepLine) → outcome (steps_plan name P) files ≡ Ok steps → HoldsSteps files name steps × (range_fault P steps ≡ None)
steps_given None P files steps is = let same : [] ≡ steps = done_is [] steps files is in (same, subst (λ steps. range_fault P steps ≡ None) same refl)
steps_given (Some name) P files steps is =
    let parts = outcome_parts (file_plan Steps name) (λ bytes. and_then (step (steps_in bytes)) (λ steps. step (fitting_steps P steps))) files steps is in
    let said = outcome_parts (step (steps_in parts.0)) (λ steps. step (fitting_steps P steps)) files steps parts.2 in
    let fits = in_problem P said.0 steps (range_fault P said.0) (step_ok (fitting_steps P said.0) files steps said.2) in
    let steps_are = unrefused refusals.Steps (steps_of parts.0) said.0 (step_ok (steps_in parts.0) files said.0 said.1) in
    ((parts.0, file_given Steps name files parts.0 parts.1, subst (λ steps. steps_of parts.0 ≡ Ok steps) fits.1 steps_are), subst (λ steps. range_fault P steps ≡ None) fits.1 fits.0)

pub given_steps : (name : Option (List ℕ)) (P : Network) (files : List File) (steps : List StepLine) → HoldsSteps files name steps → range_fault P steps ≡ None → outcome (steps_plan name P) files ≡ Ok steps
given_steps None P files steps held inside = ap (λ steps. let end : Result (List StepLine) Fault = Ok steps in end) held
given_steps (Some name) P files steps held inside =
    outcome_on (file_plan Steps name) (λ bytes. and_then (step (steps_in bytes)) (λ steps. step (fitting_steps P steps))) files held.0 (given_file Steps name files held.0 held.1)
    ∙ outcome_on (step (steps_in held.0)) (λ steps. step (fitting_steps P steps)) files steps (ok_step (steps_in held.0) files steps (ok_refused refusals.Steps (steps_of held.0) steps held.2))
    ∙ ok_step (fitting_steps P steps) files steps (ap (unless_out steps) inside)

abbrev pub behind_problem : RequestView → Network → Plan DomainsTask
behind_problem asked P = and_then (steps_plan asked.steps P) (λ steps. done (domains P steps))

-- what `domains` comes to
pub domains_given : (asked : RequestView) (files : List File) (task : DomainsTask) → outcome (domains_plan asked) files ≡ Ok task
    → (P : Network) × (steps : List StepLine) × (domains P steps ≡ task) × IsDomainsTask asked files P steps
domains_given asked files task is =
    let made = outcome_parts (posed_plan asked) (behind_problem asked) files task is in
    let said = outcome_parts (steps_plan asked.steps made.0) (λ steps. let end : Plan DomainsTask = done (domains made.0 steps) in end) files task made.2 in
    let held = steps_given asked.steps made.0 files said.0 said.1 in
    (made.0, said.0, done_is _ task files said.2, record { posed = posed_given asked files made.0 made.1; held = held.0; inside = held.1 })

pub given_domains : (asked : RequestView) (files : List File) (P : Network) (steps : List StepLine) → IsDomainsTask asked files P steps → outcome (domains_plan asked) files ≡ Ok (domains P steps)
given_domains asked files P steps task =
    outcome_on (posed_plan asked) (behind_problem asked) files P (given_posed asked files P task.posed)
    ∙ outcome_on (steps_plan asked.steps P) (λ steps. let end : Plan DomainsTask = done (domains P steps) in end) files steps (given_steps asked.steps P files steps task.held task.inside)
