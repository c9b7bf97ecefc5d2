-- Lists in which each element stands once, in the order of first appearance.
use Rattle.std.specs.Prelude.{Bool, not, List, [], ◌∷◌, ◌++◌, filter, if◌then◌else◌}
use Rattle.std.specs.List.{list_any}

-- the list without its later repeats
abbrev pub without_repeats : {X : Type 0} → (X → X → Bool) → List X → List X
without_repeats same [] = []
without_repeats same (x ∷ xs) = x ∷ filter (λ y. not (same x y)) (without_repeats same xs)

-- the list with x behind its last, if x isn't in it
abbrev pub with_new : {X : Type 0} → (X → X → Bool) → List X → X → List X
with_new same xs x = if list_any (same x) xs then xs else xs ++ x ∷ []
