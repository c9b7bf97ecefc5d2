-- The rules of the program's choosers.
use Rattle.std.specs.Prelude.{List, [], suc, zero, ℕ, ◌++◌, ◌∷◌}
use Rattle.wfc_choose.specs.Pick.{Rule}
use Rattle.wfc_choose.specs.declared.RuleKind.{RuleKind}
use Rattle.wfc_choose.specs.declared.RuleKind.TheVariants.{Fewest, Scanline}

-- the rule of a kind that goes by no ranks
abbrev pub unranked : RuleKind → Rule
unranked kind = record { kind = kind; ranks = [] }

-- the least cell, and the fewest values
abbrev pub both_rules : List Rule
both_rules = unranked Scanline ∷ unranked Fewest ∷ []

-- so many times these two
unfoldable pub rules_made : ℕ → List Rule
rules_made zero = []
rules_made (suc many) = rules_made many ++ both_rules
