-- How a plan is held to an order of stages: which fault it has, and where it has none.
use Rattle.std.specs.Prelude.{Err, List, Ok, ◌↔◌, ◌≡◌}
use Rattle.wfc_outside.specs.Folder.{File}
use Rattle.wfc_plan.specs.Order.{AreInOrder, IsFirstFault}
use Rattle.wfc_plan.specs.Plan.{Plan, outcome}
use Rattle.wfc_plan.specs.Stages.{TaskStage}
use Rattle.wfc_plan.specs.declared.fault.Fault.{Fault}
use Rattle.wfc_plan.specs.declared.fault.Fault.TheVariants.{Refused}
use Rattle.wfc_plan.specs.declared.fault.Refusal.{Refusal}

-- over these files the plan has a fault exactly where it is that of the first stage that has one
abbrev pub IsRefusedInOrder : {T : Type 0} → Plan T → List File → List TaskStage → Type 0
IsRefusedInOrder plan files stages =
    (fault : Fault) → (outcome plan files ≡ Err fault) ↔ IsFirstFault stages fault

-- over any files the plan comes to a task exactly where the task is given so
abbrev pub IsMadeWhere : {T : Type 0} → Plan T → (List File → T → Type 0) → Type 0
IsMadeWhere {T} plan given =
    (files : List File) (task : T) → (outcome plan files ≡ Ok task) ↔ given files task

-- over any files the plan comes to the task that is made of something exactly where that is given so
abbrev pub IsMadeOf : {T X : Type 0} → Plan T → (X → T) → (List File → X → Type 0) → Type 0
IsMadeOf {T} {X} plan task_of given =
    (files : List File) (x : X) → (outcome plan files ≡ Ok (task_of x)) ↔ given files x

-- over these files the plan is refused with this
abbrev pub IsPlanRefused : {T : Type 0} → Plan T → List File → Refusal → Type 0
IsPlanRefused plan files refusal = outcome plan files ≡ Err (Refused refusal)

-- over these files the plan comes to something exactly where none of the stages has a fault
abbrev pub IsMadeInOrder : {T : Type 0} → Plan T → List File → List TaskStage → Type 0
IsMadeInOrder {T} plan files stages =
    ((task : T) × (outcome plan files ≡ Ok task)) ↔ AreInOrder stages
