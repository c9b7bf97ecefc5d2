-- The first faults of `race`.
use Rattle.std.proofs.Common.{Bool, Err, List, Ok, Result, [], ap, arith, false, if◌then◌else◌, nat_le, refl, sym, true, ℕ, ◌++◌, ◌↔◌, ◌∷◌, ◌≡◌}
use Rattle.std.proofs.lemmas.Bool.Decides.{nat_tests}
use Rattle.wfc_choose.specs.declared.RuleKind.{RuleKind}
use Rattle.wfc_outside.specs.Folder.{File}
use Rattle.wfc_plan.proofs.CallerLemmas.{Faults, faults_as, faults_choosers, faults_first, faults_group, faults_none}
use Rattle.wfc_plan.specs.Kinds.{enough}
use Rattle.wfc_plan.specs.Order.{IsFirstFault}
use Rattle.wfc_plan.specs.Plan.{outcome, step}
use Rattle.wfc_plan.specs.Stages.{IsChooserFault}
use Rattle.wfc_plan.specs.declared.fault.Fault.{Fault}
use Rattle.wfc_plan.specs.declared.fault.Refusal.{Refusal}
use Rattle.wfc_plan.specs.declared.fault.Refusal.TheVariants as refusals
use Rattle.wfc_problem.specs.Network.{Network}
use Rattle.wfc_run_commands.proofs.RacingLemmas.{behind_measure, behind_raced, behind_racer}
use Rattle.wfc_run_commands.specs.RaceOrder.{IsLargeFault, IsRaceFault, race_order}
use Rattle.wfc_run_commands.specs.RaceTask.{race, race_fits, race_plan, race_product}
use Rattle.wfc_run_commands.specs.declared.racing.TheConstants.{MAX_RACE}
use Rattle.wfc_task.proofs.CallerLemmas.{faults_posed, same_posed}
use Rattle.wfc_task.specs.Posed.{posed_plan}
use Rattle.wfc_task.specs.PosedOrder.{posed_order}
use Rattle.wfc_words.specs.RequestView.{RequestView}

-- a race that is measured
faults_fits : (many : ℕ) (P : Network) (files : List File) → Faults (step (race_fits many P)) files (IsLargeFault many P)
faults_fits many P files fault = by_test (nat_le (race_product many P) MAX_RACE) refl
  where
    by_test : (low : Bool) → nat_le (race_product many P) MAX_RACE ≡ low
        → (outcome (step (let end : Result (Unit {0}) Refusal = if low then Ok tt else Err (refusals.RaceTooLarge (race_product many P)) in end)) files ≡ Err fault) ↔ IsLargeFault many P fault
    by_test true test = (λ is. absurd (cc (is)), λ has. absurd (grind (arith, nat_tests, test, has.large)))
    by_test false test = (
      λ is. record { large = grind (arith, nat_tests, test); is = cc (is) },
      λ has. ap (λ f. let end : Result (Unit {0}) Fault = Err f in end) (sym has.is),
    )

-- the first fault of `race`
pub faults_race : (kinds : List RuleKind) (asked : RequestView) (files : List File) → Faults (race_plan kinds asked) files (IsFirstFault (race_order kinds asked files))
faults_race kinds asked files =
    faults_first (step (enough asked.seeds kinds asked.rule)) (λ _. behind_racer asked) files (IsChooserFault asked.seeds kinds asked.rule) (posed_order asked files ++ (IsRaceFault asked files ∷ [])) (faults_choosers asked.seeds kinds asked.rule files)
    (λ _ found. faults_group (posed_plan asked) (behind_raced asked) files (posed_order asked files) (IsRaceFault asked files ∷ []) (faults_posed asked files)
    (λ P was. faults_first (step (race_fits asked.seeds P)) (behind_measure P) files (IsRaceFault asked files) []
    (faults_as (step (race_fits asked.seeds P)) files (IsLargeFault asked.seeds P) (IsRaceFault asked files) (same_posed asked files P (λ other. IsLargeFault asked.seeds other) was) (faults_fits asked.seeds P files))
    (λ given fits. faults_none (race P) files)))
