-- Which file a plan comes to that ends with a fault of a device.
use Rattle.std.proofs.Common.{Err, List, Option, Result, Some, ap, arith, inl, inr, refl, subst, sym, ℕ, ◌∙◌, ◌≡◌, ◌⊎◌}
use Rattle.wfc_outside.specs.Folder.{File, FolderView, IsFaultOf}
use Rattle.wfc_outside.specs.declared.whole.ReadFault.{ReadFault}
use Rattle.wfc_outside.specs.declared.whole.ReadFault.TheVariants as reading
use Rattle.wfc_plan.proofs.PlanLemmas.{goes_told}
use Rattle.wfc_plan.specs.Fault.{class_of, class_status, reading_status, status_of}
use Rattle.wfc_plan.specs.Plan.{CausesUnread, Follows, Goes, IsShort, Plan, ToldEnd, done, outcome, read, refuse}
use Rattle.wfc_plan.specs.Reaching.{IsDeviceCause, Reaches}
use Rattle.wfc_plan.specs.declared.fault.FaultClass.{FaultClass}
use Rattle.wfc_plan.specs.declared.fault.FaultClass.TheVariants.{Input, Memory, NoChooser}
use Rattle.wfc_plan.specs.declared.fault.Fault.{Fault}
use Rattle.wfc_plan.specs.declared.fault.Fault.TheVariants.{Refused, Unread}
use Rattle.wfc_plan.specs.declared.fault.Source.{Source}

-- the reading that a plan ended with
pub record EndsReading {T : Type 0} (plan : Plan T) (before after : FolderView) (fault : Fault) : Type 0 where
  pub source : Source
  pub name : List ℕ
  pub why : ReadFault
  pub reached : Reaches plan before source name
  pub cause : IsDeviceCause why before after name
  pub is : fault ≡ Unread source why

-- a plan that ends with the status of a device ended with the reading of a file that it came to
pub goes_reading : {T : Type 0} (plan : Plan T) (before after : FolderView) (fault : Fault) → Goes plan before after (Err fault) → status_of fault ≡ 5 → EndsReading plan before after fault
goes_reading plan before after fault (inl follows) five = by_plan plan before after fault follows five
  where
    not_5 : (class : FaultClass) → class_status class ≡ 5 → ⊥
    not_5 Input is = omega arith
    not_5 Memory is = omega arith
    not_5 NoChooser is = omega arith

    by_reading : (name : List ℕ) (limit : Option ℕ) (before after : FolderView) (why : ReadFault) → CausesUnread name limit before after why → reading_status why ≡ 5 → IsDeviceCause why before after name
    by_reading name limit before after reading.Missing causes five = causes
    by_reading name limit before after reading.Failed causes five = causes
    by_reading name limit before after reading.TooLong causes five = absurd (omega arith)
    by_reading name limit before after reading.NoMemory causes five = absurd (omega arith)

    by_plan : {T : Type 0} (plan : Plan T) (before after : FolderView) (fault : Fault) → Follows plan before after (Err fault) → status_of fault ≡ 5 → EndsReading plan before after fault
    by_plan (done value) before after fault follows five = absurd (cc (follows.1))
    by_plan (refuse refusal) before after fault follows five =
        let same : fault ≡ Refused refusal = cc (follows.1) in absurd (not_5 (class_of refusal) (sym (ap status_of same) ∙ five))
    by_plan (read source name limit next) before after fault (inl goes_on) five =
        let found = by_plan (next goes_on.0) before after fault goes_on.2 five in
        record { source = found.source; name = found.name; why = found.why; reached = inr (goes_on.0, goes_on.1, found.reached); cause = found.cause; is = found.is }
    by_plan (read source name limit next) before after fault (inr unread) five =
        let same : fault ≡ Unread source unread.0 = cc (unread.2) in
        record { source = source; name = name; why = unread.0; reached = inl (refl, refl); cause = by_reading name limit before after unread.0 unread.1 (sym (ap status_of same) ∙ five); is = same }
goes_reading plan before after fault (inr (same, (short, memory, is))) five =
    let fault_is : fault ≡ short = cc (is) in absurd (omega (arith, ap status_of fault_is, memory, five))

-- where the files are told, a file that is missing is the outcome of the plan
pub first_missing : {T : Type 0} (plan : Plan T) (before after : FolderView) (fault : Fault) (source : Source) (files : List File) → Goes plan before after (Err fault) → fault ≡ Unread source reading.Missing → before.contents ≡ Some files
    → outcome plan files ≡ Err (Unread source reading.Missing)
first_missing {T} plan before after fault source files goes is told = by_end (goes_told plan before after (Err fault) files told goes)
  where
    by_end : ToldEnd plan before after files (let ended : Result T Fault = Err fault in ended) → outcome plan files ≡ Err (Unread source reading.Missing)
    by_end (inl same) = sym same ∙ ap (λ f. let ended : Result T Fault = Err f in ended) is
    by_end (inr (inl (other, six, same))) = let fault_is : fault ≡ other = cc (same) in absurd (omega (arith, sym (ap status_of is), ap status_of fault_is, six))
    by_end (inr (inr hindered)) = let fault_is : fault ≡ Unread hindered.source reading.Failed = cc (hindered.is) in absurd (cc (is, fault_is))

-- a reading failed of a file that the plan came to, and a fault of it was counted
pub record IsStopped {T U : Type 0} (plan : Plan T) (before after : FolderView) (result : Result U Fault) : Type 0 where
  pub source : Source
  pub name : List ℕ
  pub reached : Reaches plan before source name
  pub counted : IsFaultOf before after name
  pub is : result ≡ Err (Unread source reading.Failed)

-- where the files are told, the result is the outcome of the plan, or memory ran out, or a reading failed
pub goes_stopped : {T : Type 0} (plan : Plan T) (before after : FolderView) (result : Result T Fault) (files : List File) → before.contents ≡ Some files → Goes plan before after result
    → (result ≡ outcome plan files) ⊎ (IsShort result ⊎ IsStopped plan before after result)
goes_stopped {T} plan before after result files told goes = by_end (goes_told plan before after result files told goes)
  where
    by_reading : (source : Source) → result ≡ Err (Unread source reading.Failed) → EndsReading plan before after (Unread source reading.Failed) → IsStopped plan before after result
    by_reading source is ends =
        let why : ends.why ≡ reading.Failed = cc (ends.is) in
        let same : ends.source ≡ source = cc (ends.is) in
        record {
          source = ends.source;
          name = ends.name;
          reached = ends.reached;
          counted = subst (λ why. IsDeviceCause why before after ends.name) why ends.cause;
          is = is ∙ ap (λ s. let ended : Result T Fault = Err (Unread s reading.Failed) in ended) (sym same);
        }

    by_end : ToldEnd plan before after files result → (result ≡ outcome plan files) ⊎ (IsShort result ⊎ IsStopped plan before after result)
    by_end (inl same) = inl same
    by_end (inr (inl short)) = inr (inl short)
    by_end (inr (inr hindered)) = inr (inr (by_reading hindered.source hindered.is
        (goes_reading plan before after (Unread hindered.source reading.Failed) (subst (λ r. Goes plan before after r) hindered.is goes) refl)))
