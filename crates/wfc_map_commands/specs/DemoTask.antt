-- The task of `demo`: what is refused, and what it comes to.
use Rattle.std.specs.Prelude.{Err, List, Ok, Result, ℕ, ◌≡◌}
use Rattle.wfc_choose.specs.declared.RuleKind.{RuleKind}
use Rattle.wfc_choose.specs.declared.RuleKind.TheVariants as rules
use Rattle.wfc_map_commands.specs.Demonstration.{demo_patterns, demo_problem}
use Rattle.wfc_map_commands.specs.declared.demonstration.Demonstration.{Demonstration}
use Rattle.wfc_pattern.specs.Patterns.{PatternsView}
use Rattle.wfc_plan.specs.Kinds.{enough}
use Rattle.wfc_plan.specs.Plan.{Plan, and_then, done, step}
use Rattle.wfc_plan.specs.declared.fault.Fault.{Fault}
use Rattle.wfc_plan.specs.declared.fault.Refusal.{Refusal}
use Rattle.wfc_plan.specs.declared.fault.Refusal.TheVariants.{NoMemory}
use Rattle.wfc_problem.specs.Network.{Network}
use Rattle.wfc_words.specs.RequestView.{RequestView}

-- what `demo` works on
pub data DemoTask : Type 0 where
  demo : PatternsView → Network → DemoTask

-- what `demo` comes to: nothing is read, and nothing but a chooser can be missing
abbrev pub demo_plan : List RuleKind → RequestView → Plan DemoTask
demo_plan kinds asked =
    and_then (step (enough 1 kinds rules.Fewest))
    (λ _. done (demo (demo_patterns asked.number) (demo_problem asked.number)))

-- what `demo` of this number works on
abbrev pub demo_work : ℕ → DemoTask
demo_work number = demo (demo_patterns number) (demo_problem number)

-- what the code makes for `demo`, as its task, or the fault
abbrev pub demo_made : Result Demonstration Fault → Result DemoTask Fault
demo_made (Ok made) = Ok (demo made.patterns made.problem)
demo_made (Err fault) = Err fault

-- a demonstration is made as its number says, or memory ran out
abbrev pub IsDemoMade : ℕ → Result Demonstration Refusal → Type 0
IsDemoMade number (Ok made) = (made.patterns ≡ demo_patterns number) × (made.problem ≡ demo_problem number)
IsDemoMade number (Err refusal) = refusal ≡ NoMemory
