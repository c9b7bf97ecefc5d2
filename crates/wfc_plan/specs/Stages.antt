-- Stages of a request, each with the faults that it may have, over files that are told. A stage
-- says nothing of the stages before it but what it looks at itself.
use Rattle.std.specs.Prelude.{Err, List, None, Option, Result, Some, length, ℕ, ◌<◌, ◌≡◌, ◌⊎◌}
use Rattle.wfc_choose.specs.declared.RuleKind.{RuleKind}
use Rattle.wfc_outside.specs.Folder.{File, file_of}
use Rattle.wfc_outside.specs.declared.whole.ReadFault.TheVariants as reading
use Rattle.wfc_plan.specs.Kinds.{count_kinds}
use Rattle.wfc_plan.specs.declared.fault.Fault.{Fault}
use Rattle.wfc_plan.specs.declared.fault.Fault.TheVariants.{Refused, Unread}
use Rattle.wfc_plan.specs.declared.fault.Refusal.{Refusal}
use Rattle.wfc_plan.specs.declared.fault.Refusal.TheVariants as refusals
use Rattle.wfc_plan.specs.declared.fault.Source.{Source}

-- a stage of a request, by the faults that it may have
abbrev pub TaskStage : Type 1
TaskStage = Fault → Type 0

-- ---- what stages have in common

-- this is the result's fault, which is refused
abbrev pub IsRefusal : {T E : Type 0} → (E → Refusal) → Result T E → TaskStage
IsRefusal {T} {E} refusal result fault =
    (why : E) × (result ≡ Err why) × (fault ≡ Refused (refusal why))

-- there is no file of this name
pub record IsMissingFault (source : Source) (files : List File) (name : List ℕ) (fault : Fault)
    : Type 0 where
  pub lacking : file_of files name ≡ None
  pub is : fault ≡ Unread source reading.Missing

-- the file of this name is longer than a file may be
pub record IsLengthFault (source : Source) (files : List File) (name : List ℕ) (fault : Fault)
    : Type 0 where
  pub bytes : List ℕ
  pub there : file_of files name ≡ Some bytes
  pub long : 16777216 < length bytes
  pub is : fault ≡ Unread source reading.TooLong

-- the file of this name isn't there, or is too long
abbrev pub IsReadingFault : Source → List File → List ℕ → TaskStage
IsReadingFault source files name fault =
    IsMissingFault source files name fault ⊎ IsLengthFault source files name fault

-- the file that the request names, if it names one, can't be read
abbrev pub IsNamedFault : Source → List File → Option (List ℕ) → TaskStage
IsNamedFault source files None fault = ⊥
IsNamedFault source files (Some name) fault = IsReadingFault source files name fault

-- ---- choosers

-- fewer choosers go by the rule than are needed
pub record IsChooserFault (many : ℕ) (kinds : List RuleKind) (rule : RuleKind) (fault : Fault)
    : Type 0 where
  pub few : count_kinds rule kinds < many
  pub is : fault ≡ Refused (refusals.Chooser rule)
