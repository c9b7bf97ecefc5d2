-- The answer of `domains` to its task.
use Rattle.std.specs.Prelude.{List, None, Option, Some, [], if◌then◌else◌, length, map, take, true, ℕ, ◌++◌, ◌-◌, ◌∷◌}
use Rattle.wfc_pins.specs.declared.steps.Step.{Step}
use Rattle.wfc_pins.specs.declared.steps.Step.TheVariants.{Assume, Undo}
use Rattle.wfc_pins.specs.declared.steps.StepLine.{StepLine}
use Rattle.wfc_problem.specs.Domains.{Test}
use Rattle.wfc_problem.specs.Network.{Network, values}
use Rattle.wfc_problem.specs.Rounds.{greatest}
use Rattle.wfc_problem.specs.Sizes.{is_dead}
use Rattle.wfc_problem.specs.declared.Literal.{Literal}
use Rattle.wfc_render.specs.Block.{domain_text}
use Rattle.wfc_reply.specs.Reply.{Answered}
use Rattle.wfc_reply.specs.declared.reply.CommandVerdict.{CommandVerdict}
use Rattle.wfc_reply.specs.declared.reply.CommandVerdict.TheVariants.{Dead, Done}

-- the literals that stand after a step
abbrev pub after_step : List Literal → Step → List Literal
after_step standing (Assume literal) = standing ++ literal ∷ []
after_step standing Undo = take (length standing - 1) standing

-- the literals that stand after each of these steps
abbrev pub literals_after_steps : List Literal → List StepLine → List (List Literal)
literals_after_steps standing [] = []
literals_after_steps standing (line ∷ lines) = after_step standing line.step ∷ literals_after_steps (after_step standing line.step) lines

-- the literals that stand before the first of these steps and after each
abbrev pub standings : List Literal → List StepLine → List (List Literal)
standings standing lines = standing ∷ literals_after_steps standing lines

-- the greatest domains under literals, if no cell is empty in them
abbrev pub shown_domains : Network → List Literal → Option Test
shown_domains P standing = if is_dead P (greatest P standing) then None else Some (greatest P standing)

-- the blocks of domains before the first step and after each
abbrev pub steps_text : Network → List StepLine → List ℕ
steps_text P steps = domain_text (map (shown_domains P) (standings [] steps)) (values P) P.cells

-- how `domains` ends: whether the root is dead
abbrev pub root_verdict : Network → CommandVerdict
root_verdict P = if is_dead P (greatest P []) then Dead else Done

-- the answer of `domains`
abbrev pub domains_answer : Network → List StepLine → Answered
domains_answer P steps = record { verdict = root_verdict P; text = Some (steps_text P steps); whole = true }
