use Rattle.std.proofs.Common.{List, [], ◌∷◌, ℕ}
use Rattle.wfc_outside.specs.Folder.{File}
use Rattle.wfc_plan.proofs.OrderLemmas.{Faults, faults_first, faults_none, faults_reading, made_in_order}
use Rattle.wfc_plan.proofs.laws.two_files_are_refused_in_order.Goals as goal
use Rattle.wfc_plan.specs.Files.{file_plan}
use Rattle.wfc_plan.specs.Order.{IsFirstFault}
use Rattle.wfc_plan.specs.Plan.{Plan, done, most_bytes, read}
use Rattle.wfc_plan.specs.Small.{two_files_order, two_files_plan}
use Rattle.wfc_plan.specs.Stages.{IsReadingFault}
use Rattle.wfc_plan.specs.declared.fault.Source.TheVariants.{Pins, Sample}

-- the second file, behind the first
abbrev behind_first : List ℕ → Plan ℕ
behind_first a = read Pins (98 ∷ []) most_bytes (λ b. done 0)

faults : (files : List File) → Faults two_files_plan files (IsFirstFault (two_files_order files))
faults files =
    faults_first (file_plan Sample (97 ∷ [])) behind_first files (IsReadingFault Sample files (97 ∷ [])) (IsReadingFault Pins files (98 ∷ []) ∷ []) (faults_reading Sample files (97 ∷ []))
    (λ a was. faults_first (file_plan Pins (98 ∷ [])) (λ b. let end : Plan ℕ = done 0 in end) files (IsReadingFault Pins files (98 ∷ [])) [] (faults_reading Pins files (98 ∷ [])) (λ b was. faults_none 0 files))

pub returns-clause-refused : goal.returns-clause-refused
returns-clause-refused c files = faults files

pub returns-clause-made : goal.returns-clause-made
returns-clause-made c files = made_in_order two_files_plan files (two_files_order files) (faults files)
