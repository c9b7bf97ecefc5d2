-- How many choosers of a kind there are, and what a plan does that looks for some.
use Rattle.std.proofs.Common.{Bool, Err, List, Ok, Result, ap, arith, false, if◌then◌else◌, inl, nat_le, refl, sym, true, ℕ, ◌∙◌, ◌↔◌, ◌≡◌}
use Rattle.std.proofs.lemmas.Bool.Decides.{nat_tests}
use Rattle.wfc_choose.specs.declared.RuleKind.{RuleKind}
use Rattle.wfc_outside.specs.Folder.{File, FolderView}
use Rattle.wfc_plan.proofs.OrderLemmas.{Faults}
use Rattle.wfc_plan.proofs.StepLemmas.{step_on, unless_above, within_limit}
use Rattle.wfc_plan.specs.Kinds.{HasChoosers, count_kinds, enough}
use Rattle.wfc_plan.specs.Plan.{Goes, Plan, and_then, outcome, step}
use Rattle.wfc_plan.specs.Stages.{IsChooserFault}
use Rattle.wfc_plan.specs.declared.fault.Fault.{Fault}
use Rattle.wfc_plan.specs.declared.fault.Refusal.TheVariants as refusals

-- the step comes to something exactly where so many are there
pub choosers_given : (many : ℕ) (kinds : List RuleKind) (rule : RuleKind) (value : Unit {0}) → enough many kinds rule ≡ Ok value → HasChoosers many kinds rule
choosers_given many kinds rule value is = unless_above many (count_kinds rule kinds) (refusals.Chooser rule) value is

pub given_choosers : (many : ℕ) (kinds : List RuleKind) (rule : RuleKind) → HasChoosers many kinds rule → enough many kinds rule ≡ Ok tt
given_choosers many kinds rule there = within_limit many (count_kinds rule kinds) (refusals.Chooser rule) there

-- and is refused where fewer are
pub faults_choosers : (many : ℕ) (kinds : List RuleKind) (rule : RuleKind) (files : List File) → Faults (step (enough many kinds rule)) files (IsChooserFault many kinds rule)
faults_choosers many kinds rule files fault = by_test (nat_le many (count_kinds rule kinds)) refl
  where
    by_test : (there : Bool) → nat_le many (count_kinds rule kinds) ≡ there
        → (outcome (step (let end : Result (Unit {0}) _ = if there then Ok tt else Err (refusals.Chooser rule) in end)) files ≡ Err fault) ↔ IsChooserFault many kinds rule fault
    by_test true test = (λ is. absurd (cc (is)), λ has. absurd (grind (arith, nat_tests, test, has.few)))
    by_test false test = (
      λ is. record { few = grind (arith, nat_tests, test); is = cc (is) },
      λ has. ap (λ f. let end : Result (Unit {0}) Fault = Err f in end) (sym has.is),
    )

-- enough choosers, and what follows
pub behind_choosers : {T : Type 0} (many wanted_many : ℕ) (kinds : List RuleKind) (rule wanted : RuleKind) (plan : Plan T) (before after : FolderView) (given : Unit {0}) (result : Result T Fault)
    → Ok given ≡ enough many kinds rule → many ≡ wanted_many → rule ≡ wanted → Goes plan before after result → Goes (and_then (step (enough wanted_many kinds wanted)) (λ _. plan)) before after result
behind_choosers many wanted_many kinds rule wanted plan before after given result there same_many same rest =
    step_on (enough wanted_many kinds wanted) (λ _. plan) before after given result (inl (there ∙ ap (λ m. enough m kinds rule) same_many ∙ ap (enough wanted_many kinds) same)) rest
