-- The order of refusals: of the stages of a request, in their order, the first that has a fault is the one named.
use Rattle.std.specs.Prelude.{List, [], ◌∷◌, ◌⊎◌}
use Rattle.wfc_plan.specs.Stages.{TaskStage}
use Rattle.wfc_plan.specs.declared.fault.Fault.{Fault}

-- a stage has no fault
abbrev pub IsInOrder : TaskStage → Type 0
IsInOrder stage = (fault : Fault) → stage fault → ⊥

-- of these stages the first that has a fault has this one: all before it are in order
abbrev pub IsFirstFault : List TaskStage → TaskStage
IsFirstFault [] fault = ⊥
IsFirstFault (stage ∷ later) fault = stage fault ⊎ (IsInOrder stage × IsFirstFault later fault)

-- none of these stages has a fault
abbrev pub AreInOrder : List TaskStage → Type 0
AreInOrder [] = Unit {0}
AreInOrder (stage ∷ later) = IsInOrder stage × AreInOrder later
