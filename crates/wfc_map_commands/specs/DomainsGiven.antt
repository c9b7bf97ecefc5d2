-- The task of `domains` over files that are told, in the subject's words.
use Rattle.std.specs.Prelude.{List, None, Ok, Option, Some, [], ℕ, ◌↔◌, ◌≡◌}
use Rattle.wfc_map_commands.specs.DomainsTask.{domains, domains_plan}
use Rattle.wfc_outside.specs.Folder.{File}
use Rattle.wfc_pins.specs.Steps.{range_fault, steps_of}
use Rattle.wfc_pins.specs.declared.steps.StepLine.{StepLine}
use Rattle.wfc_plan.specs.Files.{IsFile}
use Rattle.wfc_plan.specs.Plan.{outcome}
use Rattle.wfc_problem.specs.Network.{Network}
use Rattle.wfc_task.specs.Posed.{Posed}
use Rattle.wfc_words.specs.RequestView.{RequestView}

-- the steps file has these steps; there are none where no file is named
abbrev pub HoldsSteps : List File → Option (List ℕ) → List StepLine → Type 0
HoldsSteps files None steps = [] ≡ steps
HoldsSteps files (Some name) steps = (bytes : List ℕ) × IsFile files name bytes × (steps_of bytes ≡ Ok steps)

-- the problem is that of the request, and the steps are those of the steps file, each of them in the problem
pub record IsDomainsTask (asked : RequestView) (files : List File) (P : Network) (steps : List StepLine) : Type 0 where
  pub posed : Posed asked files P
  pub held : HoldsSteps files asked.steps steps
  pub inside : range_fault P steps ≡ None

-- over any files `domains` comes to a problem and steps exactly where they are given so
abbrev pub IsDomainsMade : RequestView → Type 0
IsDomainsMade asked =
    (files : List File) (P : Network) (steps : List StepLine)
    → (outcome (domains_plan asked) files ≡ Ok (domains P steps)) ↔ IsDomainsTask asked files P steps
