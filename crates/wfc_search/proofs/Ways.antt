-- A retraction takes at least one of the ways that are left, and a choice adds none.
use Rattle.std.proofs.Common.{◌≡◌, ℕ, ◌+◌, ◌≤◌, false, List, [], ◌∷◌, ◌++◌, ◌∙◌, ap, arith}
use Rattle.wfc_problem.specs.Network.{Network, IsProblem}
use Rattle.wfc_problem.specs.Rounds.{greatest}
use Rattle.wfc_problem.specs.declared.Literal.{Literal}
use Rattle.wfc_problem.specs.declared.Literal.TheVariants.{Is, Not}
use Rattle.wfc_search.specs.Between.{Cuts, ways_with, other_sides, ways_left}
use Rattle.wfc_problem.specs.Sizes.{is_dead}
use Rattle.wfc_problem.proofs.CallerLemmas.{greatest_below, choice_one, ruled_out_less}
use Rattle.wfc_search.proofs.Products.{ways_split}

-- the other sides of a longer list
sides_append : (count : List Literal → ℕ) (ls more : List Literal) → other_sides count (ls ++ more) ≡ other_sides count ls + other_sides (λ later. count (ls ++ later)) more
sides_append count [] more = omega arith
sides_append count (l ∷ ls) more = omega (arith, sides_append (λ later. count (l ∷ later)) ls more)

-- a choice leaves no more ways
pub left_choice : (P : Network) → IsProblem P → (ls : List Literal) (c v : ℕ) → is_dead P (greatest P ls) ≡ false → Cuts P (greatest P ls) (Is v c)
    → ways_left P (ls ++ Is v c ∷ []) ≤ ways_left P ls
left_choice P p ls c v alive cuts =
    let split = ways_split P (greatest P (ls ++ Is v c ∷ [])) (greatest P (ls ++ Not v c ∷ [])) (greatest P ls) c
    (greatest_below P p ls (Is v c)) (greatest_below P p ls (Not v c)) alive cuts.0 (choice_one P p ls c v) (ruled_out_less P p ls c v cuts.1) cuts.2 in
    omega (arith, sides_append (ways_with P) ls (Is v c ∷ []))

-- a retraction leaves fewer
pub left_retract : (P : Network) (ls before after : List Literal) (c v : ℕ) → ls ≡ before ++ Is v c ∷ after
    → ways_left P (before ++ Not v c ∷ []) + 1 ≤ ways_left P ls
left_retract P ls before after c v e =
    let all = ap (other_sides (ways_with P)) e ∙ sides_append (ways_with P) before (Is v c ∷ after) in
    let one = sides_append (ways_with P) before (Not v c ∷ []) in
    omega arith

-- where a choice stands two are left
pub left_two : (P : Network) (ls before after : List Literal) (c v : ℕ) → ls ≡ before ++ Is v c ∷ after → 2 ≤ ways_left P ls
left_two P ls before after c v e = omega (arith, left_retract P ls before after c v e)
