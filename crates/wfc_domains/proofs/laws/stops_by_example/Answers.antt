use Rattle.std.proofs.Common.{◌≡◌, zero, suc, List, [], ◌∷◌, ◌++◌, length, length-append, refl, sym, ap, arith}
use Rattle.std.proofs.lemmas.Bool.{true≢false}
use Rattle.wfc_problem.specs.Corner.{corner}
use Rattle.wfc_problem.specs.Domains.{IsEmptyAt}
use Rattle.wfc_problem.specs.Network.{in_base}
use Rattle.wfc_log.specs.declared.Removal.{Removal}
use Rattle.wfc_domains.specs.Removals.{without}
use Rattle.wfc_log.specs.Sample.{cut_first, later}
use Rattle.wfc_domains.specs.Sample.{cut_second}
use Rattle.wfc_domains.proofs.laws.stops_by_example.Goals as goal

-- cell 0 had the values 0 and 1
empty : IsEmptyAt (without (in_base corner) (cut_first ∷ cut_second ∷ [])) 0
empty zero = refl
empty (suc zero) = refl
empty (suc (suc zero)) = refl
empty (suc (suc (suc v))) = refl

-- the last of three is the third
third : (front : List Removal) (last : Removal) → cut_first ∷ cut_second ∷ later ∷ [] ≡ front ++ last ∷ [] → last.cell ≡ 3
third [] last e = let l = ap length e in absurd (omega arith)
third (x ∷ []) last e = let l = ap length e in absurd (omega arith)
third (x ∷ y ∷ []) last e = let same : later ≡ last = cc in sym (ap (λ (r : Removal). r.cell) same)
third (x ∷ y ∷ z ∷ front) last e = let l = ap length e in absurd (omega (arith, length-append front (last ∷ [])))

pub returns : goal.returns
returns c = record {
  emptied = record { front = cut_first ∷ []; last = cut_second; ends = refl; filled = refl; of_cell = refl; emptied = empty };
  nothing = λ s. let l = ap length s.ends in omega (arith, length-append s.front (s.last ∷ []));
  not_yet = λ s. true≢false (s.emptied 1);
  goes_on = λ s. let e = third s.front s.last s.ends in omega (arith, s.of_cell);
}
