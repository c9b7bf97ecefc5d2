-- The rules that a call is given choosers for.
use Rattle.std.specs.List.{slice_get}
use Rattle.std.specs.Prelude.{List, Option, filter, map, take, ℕ}
use Rattle.wfc_choose.specs.Pick.{Rule}
use Rattle.wfc_choose.specs.declared.RuleKind.{RuleKind}
use Rattle.wfc_plan.specs.Kinds.{same_rule}

-- the rule of a kind that goes by these ranks
abbrev pub rule_with : RuleKind → List ℕ → Rule
rule_with kind ranks = record { kind = kind; ranks = ranks }

-- the kinds of rules
abbrev pub kinds_of : List Rule → List RuleKind
kinds_of rules = map (λ (rule : Rule). rule.kind) rules

-- the rules of a kind, in their order
abbrev pub of_kind : RuleKind → List Rule → List Rule
of_kind kind rules = filter (λ (rule : Rule). same_rule kind rule.kind) rules

-- the first so many rules of a kind, or all of it where there are fewer
abbrev pub first_rules : ℕ → RuleKind → List Rule → List Rule
first_rules many kind rules = take many (of_kind kind rules)

-- the first rule of a kind, if there is one
abbrev pub first_rule : RuleKind → List Rule → Option Rule
first_rule kind rules = slice_get (of_kind kind rules) 0
