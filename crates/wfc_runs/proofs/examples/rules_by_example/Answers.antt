use Rattle.std.proofs.Common.{◌≡◌, ap, arith, sym, ◌∙◌, ℕ, zero, suc, ◌<◌, get_or, [], ◌∷◌, Option, Some, lit<, refl}
use Rattle.std.specs.Prelude.{unwrap_or}
use Rattle.wfc_choose.specs.Pick.{Rule, picked_cell}
use Rattle.wfc_search.specs.Small.{scanline}
use Rattle.wfc_runs.specs.Alike.{PicksAs}
use Rattle.wfc_runs.proofs.examples.rules_by_example.Goals as goal

pub returns-clause-alike : goal.returns-clause-alike
unfolding picked_cell
returns-clause-alike c = both
  where
    both : (k : ℕ) (d : Rule) → k < 2 → PicksAs (get_or (scanline ∷ record scanline { ranks = 3 ∷ [] } ∷ []) k d) scanline
    both zero d h sizes = refl
    both (suc zero) d h sizes = refl
    both (suc (suc k)) d h sizes = absurd (omega (arith, h))

pub returns-clause-other_kind : goal.returns-clause-other_kind
unfolding picked_cell
returns-clause-other_kind c have =
    let first : Some 1 ≡ Some 0 = have 1 scanline (lit< tt) (3 ∷ 2 ∷ []) in
    let same = ap (λ (o : Option ℕ). unwrap_or o 0) first in omega (arith, same)

pub returns-clause-other_ranks : goal.returns-clause-other_ranks
unfolding picked_cell
returns-clause-other_ranks c have =
    let first : Some 1 ≡ picked_cell have.0 (2 ∷ 2 ∷ []) = have.1 0 scanline (lit< tt) (2 ∷ 2 ∷ []) in
    let second : Some 0 ≡ picked_cell have.0 (2 ∷ 2 ∷ []) = have.1 1 scanline (lit< tt) (2 ∷ 2 ∷ []) in
    let same = ap (λ (o : Option ℕ). unwrap_or o 0) (first ∙ sym second) in omega (arith, same)
