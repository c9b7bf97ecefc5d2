-- How calls go by plans, and what plans come to where the files are told.
use Rattle.std.proofs.Common.{Err, List, None, Ok, Option, Result, Some, ap, arith, inl, inr, length, nat_lt, refl, subst, sym, true, ℕ, ◌∙◌, ◌≡◌, ◌⊎◌}
use Rattle.std.proofs.lemmas.Bool.Decides.{nat_tests}
use Rattle.std.specs.Option.{MatchOption}
use Rattle.wfc_outside.specs.Count.{HasRisen}
use Rattle.wfc_outside.specs.Folder.{File, FolderView, IsFaultOf, IsMissing, IsToldAs, file_of}
use Rattle.wfc_outside.specs.declared.whole.ReadFault.{ReadFault}
use Rattle.wfc_outside.specs.declared.whole.ReadFault.TheVariants as reading
use Rattle.wfc_plan.specs.Fault.{class_of, class_status, status_of}
use Rattle.wfc_plan.specs.Plan.{Asks, CausesUnread, Follows, Goes, IsRead, IsShort, Plan, ToldEnd, after_reading, and_then, done, outcome, read, reading_of, refuse, step}
use Rattle.wfc_plan.specs.declared.fault.FaultClass.{FaultClass}
use Rattle.wfc_plan.specs.declared.fault.FaultClass.TheVariants.{Input, Memory, NoChooser}
use Rattle.wfc_plan.specs.declared.fault.Fault.{Fault}
use Rattle.wfc_plan.specs.declared.fault.Fault.TheVariants.{Refused, Unread}
use Rattle.wfc_plan.specs.declared.fault.Refusal.{Refusal}
use Rattle.wfc_plan.specs.declared.fault.Refusal.TheVariants.{NoMemory}
use Rattle.wfc_plan.specs.declared.fault.Source.{Source}

-- a result of what isn't there
no_value : {T : Type 0} (value : T) → IsShort (Ok value) → ⊥
no_value value short = cc (short.2)

-- a refusal as a fault
abbrev pub refused : {T : Type 0} → Result T Refusal → Result T Fault
refused (Ok value) = Ok value
refused (Err refusal) = Err (Refused refusal)

-- a step that reads nothing may end so, of which this is wanted: as it is wanted, or for want of memory
abbrev pub IsStepEnd : {T : Type 0} → Result T Refusal → Result T Refusal → Type 0
IsStepEnd wanted result = (result ≡ wanted) ⊎ (result ≡ Err NoMemory)

-- such a step
pub goes_step : {T : Type 0} (wanted result : Result T Refusal) (folder : FolderView) → IsStepEnd wanted result → Goes (step wanted) folder folder (refused result)
goes_step (Ok value) result folder (inl is) = inl (refl, ap refused is)
goes_step (Err refusal) result folder (inl is) = inl (refl, ap refused is)
goes_step wanted result folder (inr is) = inr (refl, (Refused NoMemory, refl, ap refused is))

-- the folder is as before where a plan came to something
follows_same : {T : Type 0} (plan : Plan T) (before after : FolderView) (value : T) → Follows plan before after (Ok value) → after ≡ before
follows_same (done x) before after value follows = follows.0
follows_same (refuse fault) before after value follows = follows.0
follows_same (read source name limit next) before after value (inl goes_on) = follows_same (next goes_on.0) before after value goes_on.2
follows_same (read source name limit next) before after value (inr unread) = absurd (cc (unread.2))

pub goes_same : {T : Type 0} (plan : Plan T) (before after : FolderView) (value : T) → Goes plan before after (Ok value) → after ≡ before
goes_same plan before after value (inl follows) = follows_same plan before after value follows
goes_same plan before after value (inr short) = short.0

-- a plan that came to something goes on with the next
follows_on : {A B : Type 0} (plan : Plan A) (next : A → Plan B) (before middle after : FolderView) (value : A) (result : Result B Fault)
    → Follows plan before middle (Ok value) → Follows (next value) middle after result → Follows (and_then plan next) before after result
follows_on (done x) next before middle after value result first rest =
    let same : value ≡ x = cc (first.1) in
    subst (λ (b : FolderView). Follows (next x) b after result) first.0 (subst (λ x. Follows (next x) middle after result) same rest)
follows_on (refuse fault) next before middle after value result first rest = absurd (cc (first.1))
follows_on (read source name limit more) next before middle after value result (inl goes_on) rest =
    inl (goes_on.0, goes_on.1, follows_on (more goes_on.0) next before middle after value result goes_on.2 rest)
follows_on (read source name limit more) next before middle after value result (inr unread) rest = absurd (cc (unread.2))

pub goes_on : {A B : Type 0} (plan : Plan A) (next : A → Plan B) (before middle after : FolderView) (value : A) (result : Result B Fault)
    → Goes plan before middle (Ok value) → Goes (next value) middle after result → Goes (and_then plan next) before after result
goes_on plan next before middle after value result (inl first) (inl rest) = inl (follows_on plan next before middle after value result first rest)
goes_on plan next before middle after value result (inr short) rest = absurd (no_value value short.1)
goes_on plan next before middle after value result first (inr short) = inr (short.0 ∙ goes_same plan before middle value first, short.1)

-- a plan that ended with a fault goes no further
follows_out : {A B : Type 0} (plan : Plan A) (next : A → Plan B) (before after : FolderView) (fault : Fault)
    → Follows plan before after (Err fault) → Follows (and_then plan next) before after (Err fault)
follows_out (done x) next before after fault first = absurd (cc (first.1))
follows_out (refuse other) next before after fault first = let same : fault ≡ Refused other = cc (first.1) in (first.0, ap (λ f. let result : Result _ Fault = Err f in result) same)
follows_out (read source name limit more) next before after fault (inl goes_on) = inl (goes_on.0, goes_on.1, follows_out (more goes_on.0) next before after fault goes_on.2)
follows_out (read source name limit more) next before after fault (inr unread) =
    let same : fault ≡ Unread source unread.0 = cc (unread.2) in inr (unread.0, unread.1, ap (λ f. let result : Result _ Fault = Err f in result) same)

pub goes_out : {A B : Type 0} (plan : Plan A) (next : A → Plan B) (before after : FolderView) (fault : Fault)
    → Goes plan before after (Err fault) → Goes (and_then plan next) before after (Err fault)
goes_out plan next before after fault (inl follows) = inl (follows_out plan next before after fault follows)
goes_out plan next before after fault (inr (same, (short, memory, is))) =
    let fault_is : fault ≡ short = cc (is) in
    inr (same, (short, memory, ap (λ f. let result : Result _ Fault = Err f in result) fault_is))

-- a plan that ends here
pub goes_done : {T : Type 0} {folder : FolderView} {value : T} → Goes (done value) folder folder (Ok value)
goes_done = inl (refl, refl)

-- where a file's device isn't at fault the folder is as before
pub goes_quiet : {T : Type 0} (plan : Plan T) (before after : FolderView) (result : Result T Fault) → Goes plan before after result
    → ((fault : Fault) → result ≡ Err fault → status_of fault ≡ 5 → ⊥) → after ≡ before
goes_quiet plan before after result goes quiet = elim goes [ inl follows ↦ by_plan plan before after result follows quiet | inr short ↦ short.0 ]
  where
    by_reading : {T : Type 0} (name : List ℕ) (limit : Option ℕ) (source : Source) (before after : FolderView) (result : Result T Fault) (fault : ReadFault) → CausesUnread name limit before after fault
        → result ≡ Err (Unread source fault) → ((fault : Fault) → result ≡ Err fault → status_of fault ≡ 5 → ⊥) → after ≡ before
    by_reading name limit source before after result reading.Missing causes is quiet = absurd (quiet (Unread source reading.Missing) is refl)
    by_reading name limit source before after result reading.Failed causes is quiet = absurd (quiet (Unread source reading.Failed) is refl)
    by_reading name limit source before after result reading.TooLong causes is quiet = causes.1
    by_reading name limit source before after result reading.NoMemory causes is quiet = causes

    by_plan : {T : Type 0} (plan : Plan T) (before after : FolderView) (result : Result T Fault) → Follows plan before after result
        → ((fault : Fault) → result ≡ Err fault → status_of fault ≡ 5 → ⊥) → after ≡ before
    by_plan (done value) before after result follows quiet = follows.0
    by_plan (refuse refusal) before after result follows quiet = follows.0
    by_plan (read source name limit next) before after result (inl goes_on) quiet = by_plan (next goes_on.0) before after result goes_on.2 quiet
    by_plan (read source name limit next) before after result (inr unread) quiet = by_reading name limit source before after result unread.0 unread.1 unread.2 quiet

-- a fault with the status of a device is one of a file that the plan reads
pub goes_device : {T : Type 0} (plan : Plan T) (before after : FolderView) (fault : Fault) → Goes plan before after (Err fault) → status_of fault ≡ 5
    → (name : List ℕ) × Asks plan name × (IsMissing before after name ⊎ IsFaultOf before after name)
goes_device plan before after fault (inl follows) five = by_plan plan before after fault follows five
  where
    not_5 : (class : FaultClass) → class_status class ≡ 5 → ⊥
    not_5 Input is = omega arith
    not_5 Memory is = omega arith
    not_5 NoChooser is = omega arith

    by_reading : (name : List ℕ) (limit : Option ℕ) (source : Source) (before after : FolderView) (fault : ReadFault) → CausesUnread name limit before after fault → status_of (Unread source fault) ≡ 5
        → IsMissing before after name ⊎ IsFaultOf before after name
    by_reading name limit source before after reading.Missing causes five = inl causes
    by_reading name limit source before after reading.Failed causes five = inr causes
    by_reading name limit source before after reading.TooLong causes five = absurd (omega arith)
    by_reading name limit source before after reading.NoMemory causes five = absurd (omega arith)

    by_plan : {T : Type 0} (plan : Plan T) (before after : FolderView) (fault : Fault) → Follows plan before after (Err fault) → status_of fault ≡ 5
        → (name : List ℕ) × Asks plan name × (IsMissing before after name ⊎ IsFaultOf before after name)
    by_plan (done value) before after fault follows five = absurd (cc (follows.1))
    by_plan (refuse refusal) before after fault follows five =
        let same : fault ≡ Refused refusal = cc (follows.1) in absurd (not_5 (class_of refusal) (sym (ap status_of same) ∙ five))
    by_plan (read source name limit next) before after fault (inl goes_on) five =
        let found = by_plan (next goes_on.0) before after fault goes_on.2 five in (found.0, inr (goes_on.0, found.1), found.2)
    by_plan (read source name limit next) before after fault (inr unread) five =
        let same : fault ≡ Unread source unread.0 = cc (unread.2) in
        (name, inl refl, by_reading name limit source before after unread.0 unread.1 (sym (ap status_of same) ∙ five))
goes_device plan before after fault (inr (same, (short, memory, is))) five =
    let fault_is : fault ≡ short = cc (is) in absurd (omega (arith, ap status_of fault_is, memory, five))

-- where the files are told, the result is the outcome of the plan, or memory ran out, or a fault of a file was counted
pub goes_told : {T : Type 0} (plan : Plan T) (before after : FolderView) (result : Result T Fault) (files : List File) → before.contents ≡ Some files → Goes plan before after result
    → ToldEnd plan before after files result
goes_told plan before after result files told (inr short) = inr (inl short.1)
goes_told plan before after result files told (inl follows) = by_plan plan before after result files told follows
  where
    -- the reading of a file with these bytes
    read_bytes : (before : FolderView) (files : List File) (name : List ℕ) (limit : Option ℕ) (bytes : List ℕ) → before.contents ≡ Some files → IsRead before name limit bytes
        → reading_of limit (file_of files name) ≡ Ok bytes
    read_bytes before files name limit bytes told is_read =
        let there : file_of files name ≡ Some bytes = subst (λ contents. IsToldAs contents name bytes) told is_read.told in
        rw (there, is_read.within) refl

    by_reading : {T : Type 0} (source : Source) (name : List ℕ) (limit : Option ℕ) (next : List ℕ → Plan T) (before after : FolderView) (result : Result T Fault) (files : List File) → before.contents ≡ Some files
        → (fault : ReadFault) → CausesUnread name limit before after fault → result ≡ Err (Unread source fault) → ToldEnd (read source name limit next) before after files result
    by_reading source name limit next before after result files told reading.Missing causes is =
        let lacks : file_of files name ≡ None = subst (λ contents. MatchOption contents (HasRisen (before.faults name) (after.faults name)) (λ files. file_of files name ≡ None)) told causes.lacking in
        inl (rw lacks is)
    by_reading source name None next before after result files told reading.TooLong causes is = absurd causes.0
    by_reading source name (Some most) next before after result files told reading.TooLong (long, same) is =
        let there : file_of files name ≡ Some long.0 = subst (λ contents. IsToldAs contents name long.0) told long.2 in
        let over : nat_lt most (length long.0) ≡ true = grind (arith, nat_tests, long.1) in
        inl (rw (there, over) is)
    by_reading source name limit next before after result files told reading.Failed causes is = inr (inr (record { source = source; name = name; asked = inl refl; counted = causes; is = is }))
    by_reading source name limit next before after result files told reading.NoMemory causes is = inr (inl (Unread source reading.NoMemory, refl, is))

    by_rest : {T : Type 0} (source : Source) (name : List ℕ) (limit : Option ℕ) (next : List ℕ → Plan T) (bytes : List ℕ) (before after : FolderView) (result : Result T Fault) (files : List File)
        → reading_of limit (file_of files name) ≡ Ok bytes → ToldEnd (next bytes) before after files result → ToldEnd (read source name limit next) before after files result
    by_rest source name limit next bytes before after result files reading (inl is) = inl (rw reading is)
    by_rest source name limit next bytes before after result files reading (inr (inl short)) = inr (inl short)
    by_rest source name limit next bytes before after result files reading (inr (inr hindered)) =
        inr (inr (record { source = hindered.source; name = hindered.name; asked = inr (bytes, hindered.asked); counted = hindered.counted; is = hindered.is }))

    by_plan : {T : Type 0} (plan : Plan T) (before after : FolderView) (result : Result T Fault) (files : List File) → before.contents ≡ Some files → Follows plan before after result
        → ToldEnd plan before after files result
    by_plan (done value) before after result files told follows = inl follows.1
    by_plan (refuse refusal) before after result files told follows = inl follows.1
    by_plan (read source name limit next) before after result files told (inl goes_on) =
        by_rest source name limit next goes_on.0 before after result files (read_bytes before files name limit goes_on.0 told goes_on.1)
        (by_plan (next goes_on.0) before after result files told goes_on.2)
    by_plan (read source name limit next) before after result files told (inr unread) = by_reading source name limit next before after result files told unread.0 unread.1 unread.2

-- where the outcome of two plans in a row is a value, so is that of each
pub outcome_parts : {A B : Type 0} (plan : Plan A) (next : A → Plan B) (files : List File) (value : B) → outcome (and_then plan next) files ≡ Ok value
    → (first : A) × (outcome plan files ≡ Ok first) × (outcome (next first) files ≡ Ok value)
outcome_parts (done first) next files value is = (first, refl, is)
outcome_parts (refuse refusal) next files value is = absurd (cc)
outcome_parts (read source name limit more) next files value is =
    by_reading source more next files value (λ bytes. outcome_parts (more bytes) next files value) (reading_of limit (file_of files name)) is
  where
    by_reading : {A B : Type 0} (source : Source) (more : List ℕ → Plan A) (next : A → Plan B) (files : List File) (value : B)
        → ((bytes : List ℕ) → outcome (and_then (more bytes) next) files ≡ Ok value → (first : A) × (outcome (more bytes) files ≡ Ok first) × (outcome (next first) files ≡ Ok value))
        → (reading : Result (List ℕ) ReadFault) → after_reading source (λ bytes. outcome (and_then (more bytes) next) files) reading ≡ Ok value
        → (first : A) × (after_reading source (λ bytes. outcome (more bytes) files) reading ≡ Ok first) × (outcome (next first) files ≡ Ok value)
    by_reading source more next files value parts (Ok bytes) is = parts bytes is
    by_reading source more next files value parts (Err fault) is = absurd (cc)

-- where the outcome of a plan is a value, two plans in a row have that of the second
pub outcome_on : {A B : Type 0} (plan : Plan A) (next : A → Plan B) (files : List File) (first : A) → outcome plan files ≡ Ok first → outcome (and_then plan next) files ≡ outcome (next first) files
outcome_on (done value) next files first is = let same : value ≡ first = cc in ap (λ v. outcome (next v) files) same
outcome_on (refuse refusal) next files first is = absurd (cc)
outcome_on (read source name limit more) next files first is =
    by_reading source more next files first (λ bytes. outcome_on (more bytes) next files first) (reading_of limit (file_of files name)) is
  where
    by_reading : {A B : Type 0} (source : Source) (more : List ℕ → Plan A) (next : A → Plan B) (files : List File) (first : A)
        → ((bytes : List ℕ) → outcome (more bytes) files ≡ Ok first → outcome (and_then (more bytes) next) files ≡ outcome (next first) files)
        → (reading : Result (List ℕ) ReadFault) → after_reading source (λ bytes. outcome (more bytes) files) reading ≡ Ok first
        → after_reading source (λ bytes. outcome (and_then (more bytes) next) files) reading ≡ outcome (next first) files
    by_reading source more next files first on (Ok bytes) is = on bytes is
    by_reading source more next files first on (Err fault) is = absurd (cc)

-- a reading of these bytes, and what follows it
pub goes_read : {T : Type 0} (source : Source) (name : List ℕ) (limit : Option ℕ) (next : List ℕ → Plan T) (before after : FolderView) (bytes : List ℕ) (result : Result T Fault)
    → IsRead before name limit bytes → Goes (next bytes) before after result → Goes (read source name limit next) before after result
goes_read source name limit next before after bytes result is_read (inl follows) = inl (inl (bytes, is_read, follows))
goes_read source name limit next before after bytes result is_read (inr short) = inr short
