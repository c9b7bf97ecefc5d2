-- How many choosers of a kind a command needs.
use Rattle.std.specs.List.{count_by}
use Rattle.std.specs.Prelude.{Bool, Err, List, Ok, Result, false, if◌then◌else◌, nat_le, true, ℕ, ◌≤◌}
use Rattle.wfc_choose.specs.declared.RuleKind.{RuleKind}
use Rattle.wfc_choose.specs.declared.RuleKind.TheVariants.{Fewest, Ranked, Scanline}
use Rattle.wfc_plan.specs.declared.fault.Refusal.{Refusal}
use Rattle.wfc_plan.specs.declared.fault.Refusal.TheVariants.{Chooser}

-- whether two kinds of rule are one
abbrev pub same_rule : RuleKind → RuleKind → Bool
same_rule Scanline Scanline = true
same_rule Fewest Fewest = true
same_rule Ranked Ranked = true
same_rule _ _ = false

-- how many of these kinds are this one
abbrev pub count_kinds : RuleKind → List RuleKind → ℕ
count_kinds kind kinds = count_by (same_rule kind) kinds

-- so many choosers go by the rule, where these are the kinds of all
abbrev pub HasChoosers : ℕ → List RuleKind → RuleKind → Type 0
HasChoosers many kinds rule = many ≤ count_kinds rule kinds

-- the step that looks for so many choosers
abbrev pub enough : ℕ → List RuleKind → RuleKind → Result (Unit {0}) Refusal
enough many kinds rule = if nat_le many (count_kinds rule kinds) then Ok tt else Err (Chooser rule)
