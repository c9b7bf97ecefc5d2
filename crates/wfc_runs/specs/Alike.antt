-- What is asked of the choosers of several runs: they pick alike.
use Rattle.std.specs.Prelude.{◌≡◌, ℕ, List, All, ⊤}
use Rattle.wfc_choose.specs.Pick.{Rule, picked_cell}
use Rattle.wfc_choose.specs.declared.RuleKind.{RuleKind}
use Rattle.wfc_choose.specs.declared.RuleKind.TheVariants.{Scanline, Fewest, Ranked}

-- two rules pick the same cell of any sizes
abbrev pub PicksAs : Rule → Rule → Type 0
PicksAs rule other = (sizes : List ℕ) → picked_cell rule sizes ≡ picked_cell other sizes

-- each of the rules picks as this one does
abbrev pub HaveRule : List Rule → Rule → Type 0
HaveRule rules rule = All (λ r. PicksAs r rule) rules

-- the rules pick alike: each as some one rule does
abbrev pub PickAlike : List Rule → Type 0
PickAlike rules = (rule : Rule) × HaveRule rules rule

-- a kind of rule that doesn't go by ranks
abbrev pub IsPlain : RuleKind → Type 0
IsPlain Scanline = ⊤
IsPlain Fewest = ⊤
IsPlain Ranked = ⊥
