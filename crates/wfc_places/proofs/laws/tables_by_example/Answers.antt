use Rattle.std.proofs.Common.{◌≡◌, ℕ, zero, suc, ◌+◌, ◌<◌, ◌==◌, true, false, [], ◌∷◌, refl, arith}
use Rattle.wfc_places.specs.Flags.{flag}
use Rattle.wfc_places.proofs.laws.tables_by_example.Goals as goal

pub returns-clause-turned : goal.returns-clause-turned
returns-clause-turned c table = let last = table.each 2 1 (omega arith) (omega arith) in cc

pub returns-clause-longer : goal.returns-clause-longer
returns-clause-longer c table = omega (arith, table.as_long)

pub returns-clause-rows : goal.returns-clause-rows
returns-clause-rows c = record { as_long = refl; each = each }
  where
    each : (c v : ℕ) → c < 2 → v < 3 → flag 3 (true ∷ false ∷ false ∷ false ∷ false ∷ true ∷ []) c v ≡ (v == c + c)
    each zero zero row below = refl
    each zero (suc zero) row below = refl
    each zero (suc (suc zero)) row below = refl
    each zero (suc (suc (suc v))) row below = absurd (omega arith)
    each (suc zero) zero row below = refl
    each (suc zero) (suc zero) row below = refl
    each (suc zero) (suc (suc zero)) row below = refl
    each (suc zero) (suc (suc (suc v))) row below = absurd (omega arith)
    each (suc (suc c)) v row below = absurd (omega arith)
