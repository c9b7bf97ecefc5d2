-- The values of a map.
use Rattle.std.proofs.Common.{◌≡◌, ◌<◌, ◌≤◌, ℕ, false, List, refl, sym, ap, ◌∙◌, subst, Some, inl, inr, arith}
use Rattle.std.proofs.lemmas.Bool.{cases_lt, false≢true}
use Rattle.std.specs.Prelude.{IsTrue, slice_index, ◌↔◌}
use Rattle.wfc_choose.specs.Told.{Told}
use Rattle.wfc_log.specs.Domains.{Flags, has, flags_of}
use Rattle.wfc_domains.specs.Store.{StoreView, left_of}
use Rattle.wfc_problem.specs.Assignment.{IsLegalAssignment}
use Rattle.wfc_problem.specs.Domains.{Test, HasOnly}
use Rattle.wfc_problem.specs.Network.{Network, IsProblem, values}
use Rattle.wfc_problem.specs.Rounds.{greatest}
use Rattle.wfc_problem.proofs.CallerLemmas.{base_inside, greatest_base}
use Rattle.wfc_search.specs.Search.{HoldsBetween, IsTrueEnd, assignment_of}
use Rattle.wfc_search.specs.declared.course.Course.{Course}
use Rattle.wfc_search.specs.declared.Outcome.TheVariants.{Map}
use Rattle.wfc_search.proofs.Searches.{ready_problem}
use Rattle.wfc_search.proofs.Stores.{only_left}

-- what is known of a search that found a map
pub record FoundMap (P : Network) (store : StoreView) : Type 0 where
  pub only : (cell value : ℕ) → cell < P.cells → IsTrue (left_of store cell value) ↔ (value ≡ slice_index (assignment_of P store.standing) cell)
  pub legal : IsLegalAssignment P (assignment_of P store.standing)
  pub known : (cell : ℕ) → cell < P.cells → slice_index (assignment_of P store.standing) cell < values P

-- so it is
pub found_map : (P : Network) (store : StoreView) (chooser : Told) (course : Course) → HoldsBetween P store chooser course → course.outcome ≡ Some Map → FoundMap P store
found_map P store chooser course ready is =
    let end : IsTrueEnd P course.budget store.standing Map = ready.outcome Map is in
    let a : List ℕ = assignment_of P store.standing in
    let p : IsProblem P = ready_problem P store chooser course ready in
    let left : left_of store ≡ greatest P store.standing =
    subst (λ (Q : Network). HasOnly Q (greatest Q store.standing) a → left_of store ≡ greatest Q store.standing) ready.problem (only_left store ready.keeps.sound a) end.0 in
    record {
      only = λ c v l. subst (λ (D : Test). IsTrue (D c v) ↔ (v ≡ slice_index a c)) (sym left) (end.0.only c v l);
      legal = end.1;
      known = λ c l. (base_inside P p c (slice_index a c) (greatest_base P p store.standing c (slice_index a c) ((end.0.only c (slice_index a c) l).1 refl))).1;
    }

-- the first value that stands at a cell of the map is the map's
pub first_found : (P : Network) (store : StoreView) → FoundMap P store → (flags : Flags) → flags ≡ flags_of store.problem (left_of store) → has flags ≡ left_of store
    → (cell value : ℕ) → cell < P.cells → store.problem ≡ P → value ≤ flags.values
    → ((v : ℕ) → 0 ≤ v → v < value → has flags cell v ≡ false) → (value < flags.values → IsTrue (has flags cell value)) → value ≡ slice_index (assignment_of P store.standing) cell
first_found P store found flags are stands cell value inside same within gone here = elim (cases_lt value flags.values) [
  | inl low ↦ (found.only cell value inside).0 (ap (λ (D : Test). D cell value) (sym stands) ∙ here low)
  | inr high ↦
      let its : ℕ = slice_index (assignment_of P store.standing) cell in
      let all : flags.values ≡ values P = ap (λ (f : Flags). f.values) are ∙ ap values same in
      let low : its < value = omega (arith, found.known cell inside, all, high) in
      absurd (false≢true (sym (gone its (omega arith) low) ∙ ap (λ (D : Test). D cell its) stands ∙ (found.only cell its inside).1 refl))
]
