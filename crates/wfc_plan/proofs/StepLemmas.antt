-- How code goes by a plan at a step that reads nothing, and what the step comes to.
use Rattle.std.proofs.Common.{Bool, Err, List, Ok, Result, ap, arith, false, if◌then◌else◌, inl, inr, nat_le, refl, sym, true, ℕ, ◌∙◌, ◌≡◌, ◌≤◌, ◌⊎◌}
use Rattle.std.proofs.lemmas.Bool.{leb-true}
use Rattle.std.proofs.lemmas.Bool.Decides.{nat_tests}
use Rattle.wfc_outside.specs.Folder.{File, FolderView}
use Rattle.wfc_outside.specs.Gives.{Gives}
use Rattle.wfc_plan.proofs.PlanLemmas.{IsStepEnd, goes_on, goes_out, goes_step, refused}
use Rattle.wfc_plan.specs.Fault.{IsRefusedAs}
use Rattle.wfc_plan.specs.Plan.{Goes, Plan, and_then, done, or_refuse, outcome, step}
use Rattle.wfc_plan.specs.declared.fault.Fault.{Fault}
use Rattle.wfc_plan.specs.declared.fault.Fault.TheVariants.{Refused}
use Rattle.wfc_plan.specs.declared.fault.Refusal.{Refusal}
use Rattle.wfc_plan.specs.declared.fault.Refusal.TheVariants.{NoMemory}

-- a step that came to a value is that value
pub step_is : {T : Type 0} (wanted : Result T Refusal) (value : T) → IsStepEnd wanted (Ok value) → wanted ≡ Ok value
step_is wanted value (inl is) = sym is
step_is wanted value (inr short) = absurd (cc (short))

-- what a result that isn't refused is
pub unrefused : {T E : Type 0} (refusal : E → Refusal) (result : Result T E) (value : T) → or_refuse refusal result ≡ Ok value → result ≡ Ok value
unrefused refusal (Ok x) value is = let same : x ≡ value = cc in ap (λ v. let r : Result _ _ = Ok v in r) same
unrefused refusal (Err fault) value is = absurd (cc)

-- a step that comes to a value, and a value that a step comes to
pub step_ok : {T : Type 0} (result : Result T Refusal) (files : List File) (value : T) → outcome (step result) files ≡ Ok value → result ≡ Ok value
step_ok (Ok x) files value is = let same : x ≡ value = cc in ap (λ v. let result : Result _ Refusal = Ok v in result) same
step_ok (Err refusal) files value is = absurd (cc)

pub ok_step : {T : Type 0} (result : Result T Refusal) (files : List File) (value : T) → result ≡ Ok value → outcome (step result) files ≡ Ok value
ok_step result files value is = ap (λ r. outcome (step r) files) is

-- a plan that ends with what it came to
pub done_is : {T : Type 0} (value wanted : T) (files : List File) → outcome (done value) files ≡ Ok wanted → value ≡ wanted
done_is value wanted files is = cc

-- a call whose fault is refused
pub ok_refused : {T E : Type 0} (refusal : E → Refusal) (result : Result T E) (value : T) → result ≡ Ok value → or_refuse refusal result ≡ Ok value
ok_refused refusal result value is = ap (or_refuse refusal) is

-- what isn't refused by a limit is within it
pub unless_above : (m n : ℕ) (refusal : Refusal) (value : Unit {0}) → (if nat_le m n then Ok tt else Err refusal) ≡ Ok value → m ≤ n
unless_above m n refusal value is = by_test (nat_le m n) refl is
  where
    by_test : (b : Bool) → nat_le m n ≡ b → (if b then Ok tt else Err refusal) ≡ Ok value → m ≤ n
    by_test true low is = leb-true m n low
    by_test false low is = absurd (cc)

-- what is granted, or refused
abbrev granted : Bool → Refusal → Result (Unit {0}) Refusal
granted b refusal = if b then Ok tt else Err refusal

-- and what is within it isn't refused
pub within_limit : (m n : ℕ) (refusal : Refusal) → m ≤ n → granted (nat_le m n) refusal ≡ Ok tt
within_limit m n refusal low = let test : nat_le m n ≡ true = grind (arith, nat_tests, low) in ap (λ b. granted b refusal) test

-- a step whose call came to a value
pub value_gives : {X Y E : Type 0} (own : E → Refusal) (no_memory : E) (view : X → Y) (value : X) (wanted : Result Y E)
    → Gives no_memory view (Ok value) wanted → Gives NoMemory view (Ok value) (or_refuse own wanted)
value_gives own no_memory view value wanted (inl is) = inl (ap (or_refuse own) is)
value_gives own no_memory view value wanted (inr short) = absurd (cc (short))

-- a step whose call failed
pub fault_gives : {X Y E : Type 0} (own : E → Refusal) (no_memory : E) (view : X → Y) (fault : E) (refusal : Refusal) (wanted : Result Y E)
    → IsRefusedAs own no_memory fault refusal → Gives no_memory view (let end : Result X E = Err fault in end) wanted
    → Gives NoMemory view (let end : Result X Refusal = Err refusal in end) (or_refuse own wanted)
fault_gives own no_memory view fault refusal wanted (inl short) gives = inr (ap (λ r. let end : Result _ Refusal = Err r in end) short.1)
fault_gives own no_memory view fault refusal wanted (inr other) (inl is) = inl (ap (λ r. let end : Result _ Refusal = Err r in end) other.1 ∙ ap (or_refuse own) is)
fault_gives own no_memory view fault refusal wanted (inr other) (inr short) = let same : fault ≡ no_memory = cc (short) in absurd (other.0 same)

-- how a step ends, of a result that is seen as another
pub seen_value : {X Y : Type 0} (value : X) (seen : Y) (wanted : Result Y Refusal) → (Ok seen ≡ wanted) ⊎ (◌≡◌ {A = Result X Refusal} (Ok value) (Err NoMemory)) → IsStepEnd wanted (Ok seen)
seen_value value seen wanted (inl is) = inl is
seen_value value seen wanted (inr short) = absurd (cc (short))

pub seen_refusal : {X Y : Type 0} (refusal : Refusal) (wanted : Result Y Refusal) → (Err refusal ≡ wanted) ⊎ (◌≡◌ {A = Result X Refusal} (Err refusal) (Err NoMemory)) → IsStepEnd wanted (Err refusal)
seen_refusal refusal wanted (inl is) = inl is
seen_refusal refusal wanted (inr short) = let same : refusal ≡ NoMemory = cc (short) in inr (ap (λ r. let end : Result _ Refusal = Err r in end) same)

-- the same outcome, of a plan that is the same
pub as_outcome : {T : Type 0} (plan other : Plan T) (files : List File) (task : T) → plan ≡ other → outcome plan files ≡ Ok task → outcome other files ≡ Ok task
as_outcome plan other files task same is = ap (λ p. outcome p files) (sym same) ∙ is

-- a step behind a plan that came to something, as the last
pub then_step : {A B : Type 0} (plan : Plan A) (next : A → Result B Refusal) (before after : FolderView) (value : A) (result : Result B Refusal)
    → Goes plan before after (Ok value) → IsStepEnd (next value) result → Goes (and_then plan (λ value. step (next value))) before after (refused result)
then_step plan next before after value result first gives =
    goes_on plan (λ value. step (next value)) before after after value (refused result) first (goes_step (next value) result after gives)

-- a step that refuses, and goes no further
pub step_out : {A B : Type 0} (wanted : Result A Refusal) (next : A → Plan B) (folder : FolderView) (refusal : Refusal)
    → IsStepEnd wanted (Err refusal) → Goes (and_then (step wanted) next) folder folder (Err (Refused refusal))
step_out wanted next folder refusal gives = goes_out (step wanted) next folder folder (Refused refusal) (goes_step wanted (Err refusal) folder gives)

-- a step that came to something, and goes on
pub step_on : {A B : Type 0} (wanted : Result A Refusal) (next : A → Plan B) (before after : FolderView) (value : A) (result : Result B Fault)
    → IsStepEnd wanted (Ok value) → Goes (next value) before after result → Goes (and_then (step wanted) next) before after result
step_on wanted next before after value result gives rest = goes_on (step wanted) next before before after value result (goes_step wanted (Ok value) before gives) rest
