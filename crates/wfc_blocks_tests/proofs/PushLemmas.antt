-- Choosers of the least cell, and one more.
use Rattle.std.proofs.Common.{◌≡◌, List, [], ◌∷◌, ◌++◌, map, sym, subst, ap, ◌∙◌}
use Rattle.std.specs.Prelude.{All}
use Rattle.std.proofs.lemmas.List.{map-append}
use Rattle.std.proofs.lemmas.List.Elements.{All-push}
use Rattle.wfc_choose.specs.Pick.{Rule}
use Rattle.wfc_choose.specs.declared.RuleKind.TheVariants.{Scanline}

-- a rule that takes the least cell
abbrev pub IsLeast : Rule → Type 0
IsLeast rule = rule.kind ≡ Scanline

-- and one more
pub least-push : {X : Type 0} (f : X → Rule) (xs ys : List X) (x : X) → ys ≡ xs ++ x ∷ [] → IsLeast (f x) → All IsLeast (map f xs) → All IsLeast (map f ys)
least-push f xs ys x is same have =
    subst (All IsLeast) (sym (ap (map f) is ∙ map-append f xs (x ∷ []))) (All-push IsLeast (map f xs) (f x) have same)
