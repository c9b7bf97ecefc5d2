-- The task of `race`: what is read and refused, in order, and what it comes to.
use Rattle.std.specs.Prelude.{Err, List, Ok, Result, if◌then◌else◌, nat_le, ℕ, ◌*◌}
use Rattle.wfc_choose.specs.declared.RuleKind.{RuleKind}
use Rattle.wfc_plan.specs.Kinds.{enough}
use Rattle.wfc_plan.specs.Plan.{Plan, and_then, done, step}
use Rattle.wfc_plan.specs.declared.fault.Fault.{Fault}
use Rattle.wfc_plan.specs.declared.fault.Refusal.{Refusal}
use Rattle.wfc_plan.specs.declared.fault.Refusal.TheVariants.{RaceTooLarge}
use Rattle.wfc_problem.specs.Network.{Network, values}
use Rattle.wfc_run_commands.specs.declared.racing.TheConstants.{MAX_RACE}
use Rattle.wfc_task.specs.Posed.{posed_plan}
use Rattle.wfc_words.specs.RequestView.{RequestView}

-- what `race` works on
pub data RaceTask : Type 0 where
  race : Network → RaceTask

-- the cells, the values and the runners of a race of so many over this problem, multiplied
abbrev pub race_product : ℕ → Network → ℕ
race_product seeds P = P.cells * values P * seeds

-- the race isn't too large
abbrev pub race_fits : ℕ → Network → Result (Unit {0}) Refusal
race_fits seeds P =
    if nat_le (race_product seeds P) MAX_RACE then Ok tt else Err (RaceTooLarge (race_product seeds P))

-- what `race` comes to: the choosers are looked for before anything is read, and the race is measured by its problem
abbrev pub race_plan : List RuleKind → RequestView → Plan RaceTask
race_plan kinds asked =
    and_then (step (enough asked.seeds kinds asked.rule)) (λ _.
    and_then (posed_plan asked) (λ P.
    and_then (step (race_fits asked.seeds P)) (λ _.
    done (race P))))

-- the problem that the code makes, as the task of `race`, or the fault
abbrev pub race_made : Result Network Fault → Result RaceTask Fault
race_made (Ok P) = Ok (race P)
race_made (Err fault) = Err fault
