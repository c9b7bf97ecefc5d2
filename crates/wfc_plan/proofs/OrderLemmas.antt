-- Plans whose first fault is that of the first stage at fault.
use Rattle.std.proofs.Common.{Bool, Err, List, None, Ok, Option, Result, Some, [], ap, arith, false, if◌then◌else◌, inl, inr, length, nat_lt, refl, subst, sym, true, ℕ, ◌++◌, ◌∙◌, ◌∷◌, ◌≡◌}
use Rattle.std.proofs.lemmas.Bool.Decides.{nat_tests}
use Rattle.std.specs.Prelude.{◌↔◌}
use Rattle.wfc_outside.specs.Folder.{File, file_of}
use Rattle.wfc_outside.specs.declared.whole.ReadFault.{ReadFault}
use Rattle.wfc_outside.specs.declared.whole.ReadFault.TheVariants as reading
use Rattle.wfc_plan.proofs.PlanLemmas.{outcome_on}
use Rattle.wfc_plan.specs.Files.{file_plan}
use Rattle.wfc_plan.specs.Order.{AreInOrder, IsFirstFault, IsInOrder}
use Rattle.wfc_plan.specs.Plan.{Plan, after_reading, and_then, done, most_bytes, or_refuse, outcome, read, reading_of, refuse, step}
use Rattle.wfc_plan.specs.Stages.{IsReadingFault, IsRefusal, TaskStage}
use Rattle.wfc_plan.specs.declared.fault.Fault.{Fault}
use Rattle.wfc_plan.specs.declared.fault.Fault.TheVariants.{Refused, Unread}
use Rattle.wfc_plan.specs.declared.fault.Refusal.{Refusal}
use Rattle.wfc_plan.specs.declared.fault.Source.{Source}

-- two stages have the same faults
abbrev pub Same : TaskStage → TaskStage → Type 0
Same stage other = (fault : Fault) → stage fault ↔ other fault

-- the faults of the plan over these files are those of the stage
abbrev pub Faults : {T : Type 0} → Plan T → List File → TaskStage → Type 0
Faults plan files stage = (fault : Fault) → (outcome plan files ≡ Err fault) ↔ stage fault

-- a plan that ended with a fault goes no further
pub outcome_out : {A B : Type 0} (plan : Plan A) (next : A → Plan B) (files : List File) (fault : Fault) → outcome plan files ≡ Err fault → outcome (and_then plan next) files ≡ Err fault
outcome_out (done value) next files fault is = absurd (cc)
outcome_out (refuse refusal) next files fault is = let same : Refused refusal ≡ fault = cc in ap (λ f. let end : Result _ Fault = Err f in end) same
outcome_out (read source name limit more) next files fault is =
    by_reading source more next files fault (λ bytes. outcome_out (more bytes) next files fault) (reading_of limit (file_of files name)) is
  where
    by_reading : {A B : Type 0} (source : Source) (more : List ℕ → Plan A) (next : A → Plan B) (files : List File) (fault : Fault)
        → ((bytes : List ℕ) → outcome (more bytes) files ≡ Err fault → outcome (and_then (more bytes) next) files ≡ Err fault)
        → (reading : Result (List ℕ) ReadFault) → after_reading source (λ bytes. outcome (more bytes) files) reading ≡ Err fault
        → after_reading source (λ bytes. outcome (and_then (more bytes) next) files) reading ≡ Err fault
    by_reading source more next files fault out (Ok bytes) is = out bytes is
    by_reading source more next files fault out (Err why) is = let same : Unread source why ≡ fault = cc in ap (λ f. let end : Result _ Fault = Err f in end) same

-- ---- stages

-- as a third
pub same_on : (a b c : TaskStage) → Same a b → Same b c → Same a c
same_on a b c first second fault = (λ has. (second fault).0 ((first fault).0 has), λ has. (first fault).1 ((second fault).1 has))

-- a plan with the faults of one has those of the other
pub faults_as : {T : Type 0} (plan : Plan T) (files : List File) (stage other : TaskStage) → Same stage other → Faults plan files stage → Faults plan files other
faults_as plan files stage other same faults fault = (λ is. (same fault).0 ((faults fault).0 is), λ has. (faults fault).1 ((same fault).1 has))

-- what a stage looks at is known, and there is one of it
pub same_known : {A : Type 0} (Is : A → Type 0) (stage : A → TaskStage) (value : A) → Is value → ((other : A) → Is other → other ≡ value) → Same (stage value) (λ fault. (other : A) × Is other × stage other fault)
same_known {A} Is stage value known one fault = (
  λ has. (value, known, has),
  λ has. subst (λ (v : A). stage v fault) (one has.0 has.1) has.2,
)

-- stages that are the same, one by one
pub same_first : (stage other : TaskStage) (later others : List TaskStage) → Same stage other → Same (IsFirstFault later) (IsFirstFault others) → Same (IsFirstFault (stage ∷ later)) (IsFirstFault (other ∷ others))
same_first stage other later others same rest fault = (to, from)
  where
    to : IsFirstFault (stage ∷ later) fault → IsFirstFault (other ∷ others) fault
    to (inl has) = inl ((same fault).0 has)
    to (inr (order, has)) = inr (λ f has. order f ((same f).1 has), (rest fault).0 has)

    from : IsFirstFault (other ∷ others) fault → IsFirstFault (stage ∷ later) fault
    from (inl has) = inl ((same fault).1 has)
    from (inr (order, has)) = inr (λ f has. order f ((same f).0 has), (rest fault).1 has)

-- some stages, looked at as one, and others after them
pub same_grouped : (early later : List TaskStage) → Same (IsFirstFault (IsFirstFault early ∷ later)) (IsFirstFault (early ++ later))
same_grouped [] later fault = (to, λ has. inr (λ f none. none, has))
  where
    to : IsFirstFault (IsFirstFault [] ∷ later) fault → IsFirstFault later fault
    to (inl has) = absurd has
    to (inr (order, has)) = has
same_grouped (stage ∷ early) later fault = (to (same_grouped early later fault), from (same_grouped early later fault))
  where
    to : IsFirstFault (IsFirstFault early ∷ later) fault ↔ IsFirstFault (early ++ later) fault → IsFirstFault (IsFirstFault (stage ∷ early) ∷ later) fault → IsFirstFault (stage ∷ (early ++ later)) fault
    to same (inl (inl has)) = inl has
    to same (inl (inr (order, has))) = inr (order, same.0 (inl has))
    to same (inr (order, has)) =
        let first : IsInOrder stage = λ f one. order f (inl one) in
        inr (first, same.0 (inr (λ f one. order f (inr (first, one)), has)))

    both : IsInOrder stage → IsInOrder (IsFirstFault early) → IsInOrder (IsFirstFault (stage ∷ early))
    both order rest f (inl one) = order f one
    both order rest f (inr (_, one)) = rest f one

    from_rest : IsInOrder stage → IsFirstFault (IsFirstFault early ∷ later) fault → IsFirstFault (IsFirstFault (stage ∷ early) ∷ later) fault
    from_rest order (inl has) = inl (inr (order, has))
    from_rest order (inr (rest, has)) = inr (both order rest, has)

    from : IsFirstFault (IsFirstFault early ∷ later) fault ↔ IsFirstFault (early ++ later) fault → IsFirstFault (stage ∷ (early ++ later)) fault → IsFirstFault (IsFirstFault (stage ∷ early) ∷ later) fault
    from same (inl has) = inl (inl has)
    from same (inr (order, has)) = from_rest order (same.1 has)

-- ---- plans

-- a plan that ends here has no fault
pub faults_none : {T : Type 0} (value : T) (files : List File) → Faults (done value) files (IsFirstFault [])
faults_none value files fault = (λ is. absurd (cc (is)), λ none. absurd none)

-- the last stage
pub faults_last : {T : Type 0} (plan : Plan T) (files : List File) (stage : TaskStage) → Faults plan files stage → Faults plan files (IsFirstFault (stage ∷ []))
faults_last plan files stage faults fault = (λ is. inl ((faults fault).0 is), from)
  where
    from : IsFirstFault (stage ∷ []) fault → outcome plan files ≡ Err fault
    from (inl has) = (faults fault).1 has
    from (inr (order, none)) = absurd none

-- a plan, which has the faults of a stage, and what follows it
pub faults_first : {A B : Type 0} (plan : Plan A) (next : A → Plan B) (files : List File) (stage : TaskStage) (later : List TaskStage) → Faults plan files stage
    → ((value : A) → outcome plan files ≡ Ok value → Faults (next value) files (IsFirstFault later)) → Faults (and_then plan next) files (IsFirstFault (stage ∷ later))
faults_first {A} {B} plan next files stage later faults rest fault = by_outcome (outcome plan files) refl
  where
    by_outcome : (end : Result A Fault) → outcome plan files ≡ end → (outcome (and_then plan next) files ≡ Err fault) ↔ IsFirstFault (stage ∷ later) fault
    by_outcome (Ok value) was = (to, from)
      where
        to : outcome (and_then plan next) files ≡ Err fault → IsFirstFault (stage ∷ later) fault
        to is = inr (λ f has. let never : outcome plan files ≡ Err f = (faults f).1 has in absurd (cc (was, never)), (rest value was fault).0 (sym (outcome_on plan next files value was) ∙ is))

        from : IsFirstFault (stage ∷ later) fault → outcome (and_then plan next) files ≡ Err fault
        from (inl has) = let never : outcome plan files ≡ Err fault = (faults fault).1 has in absurd (cc (was, never))
        from (inr (order, has)) = outcome_on plan next files value was ∙ (rest value was fault).1 has
    by_outcome (Err why) was = (to, from)
      where
        to : outcome (and_then plan next) files ≡ Err fault → IsFirstFault (stage ∷ later) fault
        to is =
            let out : outcome (and_then plan next) files ≡ Err why = outcome_out plan next files why was in
            let same : why ≡ fault = cc (out, is) in
            inl ((faults fault).0 (was ∙ ap (λ f. let end : Result A Fault = Err f in end) same))

        from : IsFirstFault (stage ∷ later) fault → outcome (and_then plan next) files ≡ Err fault
        from (inl has) = outcome_out plan next files fault ((faults fault).1 has)
        from (inr (order, has)) = absurd (order why ((faults why).0 was))

-- a plan, which has the faults of some stages, and what follows it
pub faults_group : {A B : Type 0} (plan : Plan A) (next : A → Plan B) (files : List File) (early later : List TaskStage) → Faults plan files (IsFirstFault early)
    → ((value : A) → outcome plan files ≡ Ok value → Faults (next value) files (IsFirstFault later)) → Faults (and_then plan next) files (IsFirstFault (early ++ later))
faults_group plan next files early later faults rest =
    faults_as (and_then plan next) files (IsFirstFault (IsFirstFault early ∷ later)) (IsFirstFault (early ++ later)) (same_grouped early later) (faults_first plan next files (IsFirstFault early) later faults rest)

-- a step whose fault is refused
pub faults_step : {T E : Type 0} (refusal : E → Refusal) (result : Result T E) (files : List File) → Faults (step (or_refuse refusal result)) files (IsRefusal refusal result)
faults_step refusal (Ok value) files fault = (λ is. absurd (cc (is)), λ has. absurd (cc (has.1)))
faults_step {T} {E} refusal (Err why) files fault = (λ is. (why, refl, cc (is)), from)
  where
    from : IsRefusal {T = T} {E = E} refusal (Err why) fault → Err (Refused (refusal why)) ≡ (let end : Result T Fault = Err fault in end)
    from (other, is, end) = cc (is, end)

-- a file that is read whole
pub faults_reading : (source : Source) (files : List File) (name : List ℕ) → Faults (file_plan source name) files (IsReadingFault source files name)
faults_reading source files name fault = (to (file_of files name) refl, from)
  where
    by_length : (bytes : List ℕ) → file_of files name ≡ Some bytes → (long : Bool) → nat_lt 16777216 (length bytes) ≡ long
        → after_reading source (λ bytes. let end : Result (List ℕ) Fault = Ok bytes in end) (if long then Err reading.TooLong else Ok bytes) ≡ Err fault → IsReadingFault source files name fault
    by_length bytes there true test is = inr (record { bytes = bytes; there = there; long = grind (arith, nat_tests, test); is = cc (is) })
    by_length bytes there false test is = absurd (cc (is))

    to : (file : Option (List ℕ)) → file_of files name ≡ file → outcome (file_plan source name) files ≡ Err fault → IsReadingFault source files name fault
    to file was is = by_file file was (subst (λ f. after_reading source (λ bytes. let end : Result (List ℕ) Fault = Ok bytes in end) (reading_of most_bytes f) ≡ Err fault) was is)
      where
        by_file : (file : Option (List ℕ)) → file_of files name ≡ file → after_reading source (λ bytes. let end : Result (List ℕ) Fault = Ok bytes in end) (reading_of most_bytes file) ≡ Err fault → IsReadingFault source files name fault
        by_file None was is = inl (record { lacking = was; is = cc (is) })
        by_file (Some bytes) was is = by_length bytes was (nat_lt 16777216 (length bytes)) refl is

    from : IsReadingFault source files name fault → outcome (file_plan source name) files ≡ Err fault
    from (inl missing) = rw missing.lacking (ap (λ f. let end : Result (List ℕ) Fault = Err f in end) (sym missing.is))
    from (inr long) =
        let test : nat_lt 16777216 (length long.bytes) ≡ true = grind (arith, nat_tests, long.long) in
        rw (long.there, test) (ap (λ f. let end : Result (List ℕ) Fault = Err f in end) (sym long.is))

-- where no stage has a fault there is a value, and where there is a value no stage has one
pub in_order : (order : List TaskStage) → ((fault : Fault) → IsFirstFault order fault → ⊥) ↔ AreInOrder order
in_order [] = (λ none. tt, λ all fault has. has)
in_order (stage ∷ later) = (to (in_order later), from (in_order later))
  where
    to : ((fault : Fault) → IsFirstFault later fault → ⊥) ↔ AreInOrder later → ((fault : Fault) → IsFirstFault (stage ∷ later) fault → ⊥) → AreInOrder (stage ∷ later)
    to rest none = let first : IsInOrder stage = λ f has. none f (inl has) in (first, rest.0 (λ f has. none f (inr (first, has))))

    from : ((fault : Fault) → IsFirstFault later fault → ⊥) ↔ AreInOrder later → AreInOrder (stage ∷ later) → (fault : Fault) → IsFirstFault (stage ∷ later) fault → ⊥
    from rest all fault (inl has) = all.0 fault has
    from rest all fault (inr (_, has)) = rest.1 all.1 fault has

pub made_in_order : {T : Type 0} (plan : Plan T) (files : List File) (order : List TaskStage) → Faults plan files (IsFirstFault order) → ((task : T) × (outcome plan files ≡ Ok task)) ↔ AreInOrder order
made_in_order {T} plan files order faults = (
  λ made. (in_order order).0 (λ fault has. let never : outcome plan files ≡ Err fault = (faults fault).1 has in absurd (cc (made.1, never))),
  λ all. by_outcome all (outcome plan files) refl,
)
  where
    by_outcome : AreInOrder order → (end : Result T Fault) → outcome plan files ≡ end → (task : T) × (outcome plan files ≡ Ok task)
    by_outcome all (Ok task) was = (task, was)
    by_outcome all (Err fault) was = absurd ((in_order order).1 all fault ((faults fault).0 was))

-- as they are
pub same_self : (stage : TaskStage) → Same stage stage
same_self stage fault = (λ has. has, λ has. has)

-- nothing comes behind the last
pub same_end : (order : List TaskStage) → Same (IsFirstFault (order ++ [])) (IsFirstFault order)
same_end [] = same_self (IsFirstFault [])
same_end (stage ∷ later) = same_first stage stage (later ++ []) later (same_self stage) (same_end later)

-- what a plan comes to is one
pub one_value : {T : Type 0} (plan : Plan T) (files : List File) (value other : T) → outcome plan files ≡ Ok value → outcome plan files ≡ Ok other → other ≡ value
one_value plan files value other is also = cc (is, also)
