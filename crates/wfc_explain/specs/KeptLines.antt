-- The lines that are kept of a list of them.
use Rattle.std.specs.Prelude.{Bool, true, false, List, [], ◌∷◌}

-- those of a list that are kept, in their order
abbrev pub kept_of : {X : Type 0} → List Bool → List X → List X
kept_of (true ∷ keep) (x ∷ xs) = x ∷ kept_of keep xs
kept_of (false ∷ keep) (x ∷ xs) = kept_of keep xs
kept_of _ _ = []
