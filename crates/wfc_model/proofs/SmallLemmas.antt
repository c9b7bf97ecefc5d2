-- What the small pictures of the laws don't teach.
use Rattle.std.proofs.Common.{◌≡◌, ℕ, zero, suc, List, [], ◌∷◌, arith, slice_index, ap}
use Rattle.std.specs.List.{Contains}

-- the one pattern of the checkerboard isn't the other colouring
pub not_learned : Contains {X = List ℕ} ((97 ∷ 98 ∷ 98 ∷ 97 ∷ []) ∷ []) (98 ∷ 97 ∷ 97 ∷ 98 ∷ []) → ⊥
not_learned (zero, inside, same) = let first : 97 ≡ 98 = ap (λ (w : List ℕ). slice_index w 0) same in omega (arith, first)
not_learned (suc k, inside, same) = omega arith
