-- Which file a plan comes to.
use Rattle.std.specs.Prelude.{List, ℕ, ◌≡◌, ◌⊎◌}
use Rattle.wfc_outside.specs.Folder.{FolderView, IsFaultOf, IsMissing}
use Rattle.wfc_outside.specs.declared.whole.ReadFault.{ReadFault}
use Rattle.wfc_outside.specs.declared.whole.ReadFault.TheVariants as reading
use Rattle.wfc_plan.specs.Plan.{IsRead, Plan, done, read, refuse}
use Rattle.wfc_plan.specs.declared.fault.Source.{Source}

-- the plan comes to the reading of this file: each file before it is read, as the folder tells it,
-- and nothing before it is refused
abbrev pub Reaches : {T : Type 0} → Plan T → FolderView → Source → List ℕ → Type 0
Reaches (done value) before source name = ⊥
Reaches (refuse refusal) before source name = ⊥
Reaches (read first file limit next) before source name =
    ((source ≡ first) × (name ≡ file))
    ⊎ ((bytes : List ℕ) × IsRead before file limit bytes × Reaches (next bytes) before source name)

-- the named file is missing, or a fault of it was counted, as this fault says
abbrev pub IsDeviceCause : ReadFault → FolderView → FolderView → List ℕ → Type 0
IsDeviceCause reading.Missing before after name = IsMissing before after name
IsDeviceCause reading.Failed before after name = IsFaultOf before after name
IsDeviceCause reading.TooLong before after name = ⊥
IsDeviceCause reading.NoMemory before after name = ⊥
