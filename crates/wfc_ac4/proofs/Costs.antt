-- How many counters removals change.
use Rattle.std.proofs.Common.{◌≡◌, ℕ, zero, suc, ◌+◌, List, [], ◌∷◌, ◌++◌, length, take, drop, refl, sym, ◌∙◌, ap, add-one, add-zero, arith, Option, Some, None}
use Rattle.std.specs.Prelude.{slice_get}
use Rattle.std.specs.List.{range_with_len, sum_by}
use Rattle.std.proofs.lemmas.List.{length-append, length-map}
use Rattle.std.proofs.lemmas.List.Sums.{sum_by_push, sum_by-take-drop}
use Rattle.wfc_lists.proofs.Ranges.{range_more}
use Rattle.wfc_model.specs.Direction.{opposite}
use Rattle.wfc_problem.specs.Network.{Network, neighbour, supports_of}
use Rattle.wfc_log.specs.declared.Removal.{Removal}
use Rattle.wfc_domains.specs.Counters.{supports_at, cost_at, cost_of, counter_place}
use Rattle.wfc_ac4.specs.Places.{side_places, places_upto, counter_places}

length-side : (P : Network) (v d : ℕ) (o : Option ℕ) → length (side_places P v d o) ≡ supports_at P v d o
length-side P v d None = refl
length-side P v d (Some n) = length-map (supports_of P v d) (λ w. counter_place P n w (opposite d))

-- the counters in one direction more
pub length-upto : (P : Network) (c v d : ℕ) → length (places_upto P c v (d + 1)) ≡ length (places_upto P c v d) + supports_at P v d (neighbour P c d)
length-upto P c v d =
    ap (λ k. length (places_upto P c v k)) (add-one d) ∙ length-append (places_upto P c v d) (side_places P v d (neighbour P c d))
    ∙ ap (λ k. length (places_upto P c v d) + k) (length-side P v d (neighbour P c d))

pub length-upto_some : (P : Network) (c v d n : ℕ) → neighbour P c d ≡ Some n → length (places_upto P c v (d + 1)) ≡ length (places_upto P c v d) + length (supports_of P v d)
length-upto_some P c v d n e = length-upto P c v d ∙ ap (λ o. length (places_upto P c v d) + supports_at P v d o) e

pub length-upto_none : (P : Network) (c v d : ℕ) → neighbour P c d ≡ None → length (places_upto P c v (d + 1)) ≡ length (places_upto P c v d)
length-upto_none P c v d e = length-upto P c v d ∙ ap (λ o. length (places_upto P c v d) + supports_at P v d o) e ∙ add-zero _

-- they are as many as the sum over the directions
upto-sum : (P : Network) (c v k : ℕ) → length (places_upto P c v k) ≡ sum_by (λ d. supports_at P v d (neighbour P c d)) (range_with_len 0 k)
upto-sum P c v zero = refl
upto-sum P c v (suc k) =
    sym (ap (λ n. length (places_upto P c v n)) (add-one k)) ∙ length-upto P c v k ∙ ap (λ n. n + supports_at P v k (neighbour P c k)) (upto-sum P c v k)
    ∙ sym (ap (sum_by f) (range_more 0 k ∙ (let z : 0 + k ≡ k = omega arith in ap (λ x. range_with_len 0 k ++ x ∷ []) z)) ∙ sum_by_push f (range_with_len 0 k) k)
  where
    f : ℕ → ℕ
    f d = supports_at P v d (neighbour P c d)

pub cost-is : (P : Network) (c v : ℕ) → length (counter_places P c v) ≡ cost_at P c v
cost-is P c v = upto-sum P c v P.dirs

pub cost-push : (P : Network) (rs : List Removal) (r : Removal) → cost_of P (rs ++ r ∷ []) ≡ cost_of P rs + cost_at P r.cell r.value
cost-push P rs r = sum_by_push (λ x. cost_at P x.cell x.value) rs r

-- one removal more
pub cost-next : (P : Network) (rs : List Removal) (k : ℕ) (r : Removal) → slice_get rs k ≡ Some r → cost_of P (take (k + 1) rs) ≡ cost_of P (take k rs) + cost_at P r.cell r.value
cost-next P rs k r e = ap (cost_of P) (ap (λ n. take n rs) (add-one k) ∙ take_suc rs k e) ∙ cost-push P (take k rs) r
  where
    take_suc : (rs : List Removal) (k : ℕ) → slice_get rs k ≡ Some r → take (suc k) rs ≡ take k rs ++ r ∷ []
    take_suc [] k e = cc
    take_suc (x ∷ rs) zero e = let same : x ≡ r = cc in ap (λ y. y ∷ []) same
    take_suc (x ∷ rs) (suc k) e = ap (λ ys. x ∷ ys) (take_suc rs k e)

pub cost-split : (P : Network) (rs : List Removal) (k : ℕ) → cost_of P (take k rs) + cost_of P (drop k rs) ≡ cost_of P rs
cost-split P rs k = sum_by-take-drop (λ x. cost_at P x.cell x.value) rs k
