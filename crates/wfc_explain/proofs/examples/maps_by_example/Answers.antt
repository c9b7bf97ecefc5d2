use Rattle.std.proofs.Common.{Bool, List, [], arith, false, length, refl, suc, true, zero, ◌∷◌, ◌≡◌}
use Rattle.std.proofs.lemmas.Bool.{false≢true}
use Rattle.wfc_explain.proofs.TwoCellLemmas.{all_three, first, first_two, outer}
use Rattle.wfc_explain.proofs.examples.maps_by_example.Goals as goal
use Rattle.wfc_explain.specs.Blame.{HasMap}
use Rattle.wfc_explain.specs.Pinned.{IsFewer}
use Rattle.wfc_explain.specs.Small.{after_the_first}

pub returns-clause-map : goal.returns-clause-map
returns-clause-map c = outer

pub returns-clause-no_map : goal.returns-clause-no_map
returns-clause-no_map c = first_two

pub returns-clause-exists : goal.returns-clause-exists
returns-clause-exists c = outer

pub returns-clause-none_exists : goal.returns-clause-none_exists
returns-clause-none_exists c = all_three

-- without the second line there is a map, and with it none
keeps : (fewer more : List Bool) → length fewer ≡ 2 → length more ≡ 2 → IsFewer fewer more → HasMap (after_the_first more) → HasMap (after_the_first fewer)
keeps (false ∷ false ∷ []) more short long falls has = first
keeps (false ∷ true ∷ []) more short long falls has = outer
keeps (true ∷ other ∷ []) (true ∷ false ∷ []) short long falls has = absurd (first_two has)
keeps (true ∷ other ∷ []) (true ∷ true ∷ []) short long falls has = absurd (all_three has)
keeps (true ∷ other ∷ []) (false ∷ next ∷ []) short long falls has = absurd (false≢true (falls 0 refl))
keeps (one ∷ other ∷ []) [] short long falls has = absurd (omega (arith, long))
keeps (one ∷ other ∷ []) (next ∷ []) short long falls has = absurd (omega (arith, long))
keeps (one ∷ other ∷ []) (next ∷ later ∷ last ∷ more) short long falls has = absurd (omega (arith, long))
keeps [] more short long falls has = absurd (omega (arith, short))
keeps (one ∷ []) more short long falls has = absurd (omega (arith, short))
keeps (one ∷ other ∷ next ∷ fewer) more short long falls has = absurd (omega (arith, short))

pub returns-clause-keeps : goal.returns-clause-keeps
returns-clause-keeps c = keeps

pub returns-clause-loses : goal.returns-clause-loses
returns-clause-loses c keeps = first_two (keeps (false ∷ false ∷ []) (true ∷ false ∷ []) refl refl fewer first)
  where
    fewer : IsFewer (false ∷ false ∷ []) (true ∷ false ∷ [])
    fewer zero kept = absurd (false≢true kept)
    fewer (suc zero) kept = absurd (false≢true kept)
    fewer (suc (suc k)) kept = absurd (false≢true kept)
