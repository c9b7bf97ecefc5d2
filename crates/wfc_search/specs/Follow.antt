-- What holds of a store and a chooser that is told of its sizes.
use Rattle.std.specs.Prelude.{◌≡◌, ℕ, ◌+◌, [], ◌∷◌, ◌++◌, length, take}
use Rattle.wfc_choose.specs.Told.{Told}
use Rattle.wfc_domains.specs.Store.{StoreView, IsSound, left_of}
use Rattle.wfc_log.specs.declared.Verdict.TheVariants.{Alive}
use Rattle.wfc_problem.specs.Sizes.{sizes_of}
use Rattle.wfc_problem.specs.declared.Literal.{Literal}

-- the store is sound, and the chooser's sizes are those of its domains
pub record Keeps (store : StoreView) (chooser : Told) : Type 0 where
  pub sound : IsSound store
  pub sizes : chooser.sizes ≡ sizes_of store.problem (left_of store)

-- a literal was put on
pub record IsPutOn (old new : StoreView) (literal : Literal) : Type 0 where
  pub problem : new.problem ≡ old.problem
  pub standing : new.standing ≡ old.standing ++ literal ∷ []
  pub spare : new.spare + 1 ≡ old.spare

-- so many literals are left, the first ones, and no cell is empty
pub record IsCutBack (old new : StoreView) (keep : ℕ) : Type 0 where
  pub problem : new.problem ≡ old.problem
  pub standing : new.standing ≡ take keep old.standing
  pub spare : new.spare + keep ≡ old.spare + length old.standing
  pub alive : new.verdict ≡ Alive
