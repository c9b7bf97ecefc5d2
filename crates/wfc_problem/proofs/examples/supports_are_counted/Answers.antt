use Rattle.std.proofs.Common.{◌≡◌, ℕ, zero, suc, [], ◌∷◌, refl, sym, ◌∙◌, ap, arith}
use Rattle.std.specs.Prelude.{Contains}
use Rattle.std.proofs.lemmas.Bool.{false≢true}
use Rattle.wfc_problem.specs.Corner.{corner}
use Rattle.wfc_problem.specs.Domains.{IsSupported}
use Rattle.wfc_problem.specs.Network.{in_base}
use Rattle.wfc_problem.specs.Rounds.{greatest}
use Rattle.wfc_problem.proofs.CallerLemmas.{greatest_consistent, greatest_is}
use Rattle.wfc_problem.proofs.Corners.{corner_problem}
use Rattle.wfc_problem.proofs.examples.supports_are_counted.Goals as goal

-- value 2 isn't in the base of cell 0
bare : IsSupported corner (in_base corner) 2 1 3 → ⊥
bare supported =
    let s = supported 0 refl in
    false≢true (sym (ap (in_base corner 0) (only s.0 s.1)) ∙ s.2)
  where
    only : (w : ℕ) → Contains (2 ∷ []) w → w ≡ 2
    only w (zero, l, e) = sym e
    only w (suc k, l, e) = absurd (omega arith)

pub returns-clause-unsupported : goal.returns-clause-unsupported
returns-clause-unsupported c = bare

pub returns-clause-consistent : goal.returns-clause-consistent
returns-clause-consistent c = greatest_consistent corner [] (greatest corner []) (greatest_is corner corner_problem [])

pub returns-clause-inconsistent : goal.returns-clause-inconsistent
returns-clause-inconsistent c = λ consistent. bare (consistent 2 1 3 refl)
