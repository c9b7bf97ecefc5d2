-- The answer of `demo` to its task.
use Rattle.std.specs.Prelude.{List, None, Option, Some, codes, decimal, length, true, ℕ, ◌++◌}
use Rattle.wfc_choose.specs.Pick.{Rule}
use Rattle.wfc_choose.specs.declared.RuleKind.TheVariants.{Fewest}
use Rattle.wfc_pattern.specs.Patterns.{PatternsView}
use Rattle.wfc_problem.specs.Network.{Network}
use Rattle.wfc_reply.specs.Outcomes.{outcome_status, verdict_of}
use Rattle.wfc_reply.specs.Reply.{Answered}
use Rattle.wfc_reply.specs.RunEnds.{end_of}
use Rattle.wfc_reply.specs.declared.reply.CommandVerdict.{CommandVerdict}
use Rattle.wfc_reply.specs.declared.reply.CommandVerdict.TheVariants.{Done, NoMap, Spent}
use Rattle.wfc_runs.specs.declared.runs.RunEnd.{RunEnd}
use Rattle.wfc_runs.specs.declared.runs.RunEnd.TheVariants as held
use Rattle.wfc_search.specs.Run.{State}
use Rattle.wfc_search.specs.declared.Outcome.{Outcome}

-- a line of a name and a number
abbrev pub count_line : List ℕ → ℕ → List ℕ
count_line name number = name ++ codes " " ++ decimal number ++ codes "\n"

-- the four lines of `demo`
abbrev pub demo_text : ℕ → ℕ → ℕ → ℕ → List ℕ
demo_text patterns cells retractions status =
    count_line (codes "patterns") patterns ++ count_line (codes "cells") cells
    ++ count_line (codes "retractions") retractions ++ count_line (codes "status") status

-- the budget of a demonstration
abbrev pub demo_budget : ℕ
demo_budget = 1000

-- how the run of a demonstration of this number ends by these rules
abbrev pub demo_end : List Rule → Network → ℕ → Option (Outcome × State)
demo_end rules P number = end_of rules Fewest P demo_budget number

-- the answer of `demo`, where its run has this end
abbrev pub demo_answer : PatternsView → Network → Option (Outcome × State) → Option Answered
demo_answer patterns P None = None
demo_answer patterns P (Some end) = Some (record {
  verdict = verdict_of demo_budget end.0;
  text = Some (demo_text (length patterns.windows) P.cells end.1.retractions (outcome_status end.0));
  whole = true;
})

-- how a demonstration ends whose run ends so
abbrev pub demo_verdict : RunEnd → CommandVerdict
demo_verdict (held.Map assignment) = Done
demo_verdict held.NoMap = NoMap
demo_verdict held.Spent = Spent demo_budget
