-- What the end of a search says to its caller.
use Rattle.std.proofs.Common.{◌≡◌, ℕ, List, [], length, take, ap, sym, ◌∙◌, inl, inr, Some, Err}
use Rattle.std.specs.Prelude.{slice_index}
use Rattle.std.proofs.lemmas.Bool.{false≢true}
use Rattle.std.proofs.lemmas.List.FromFn.{length-map-range_with_len}
use Rattle.std.proofs.Math.Seq.{take-length}
use Rattle.rand_core.specs.Stream.{Stream}
use Rattle.wfc_choose.specs.Pick.{Rule}
use Rattle.wfc_domains.specs.Store.{StoreView}
use Rattle.wfc_problem.specs.Network.{Network}
use Rattle.wfc_problem.specs.Rounds.{greatest}
use Rattle.wfc_problem.specs.Sizes.{values_at}
use Rattle.wfc_problem.specs.declared.Literal.{Literal}
use Rattle.wfc_proof.specs.Journal.{quiet}
use Rattle.wfc_proof.specs.declared.JournalFault.{JournalFault}
use Rattle.wfc_search.specs.Run.{start, end_from}
use Rattle.wfc_search.specs.Search.{SearchView, state_at, IsReady, SaysTrue, assignment_of}
use Rattle.wfc_search.specs.Ends.{EndsIn, EndsInMap}
use Rattle.wfc_search.specs.Telling.{StepFails, RunFails}
use Rattle.wfc_search.specs.declared.course.Course.{Course}
use Rattle.wfc_search.specs.declared.Outcome.{Outcome}
use Rattle.wfc_search.specs.declared.Outcome.TheVariants.{Map}

-- at its end a search of this problem, rule and budget, with these words, is at the end of the run
pub record IsEnded (P Q : Network) (rule r : Rule) (budget : ℕ) (words given left : Stream) (old new : StoreView) (course next : Course) (outcome : Outcome) : Type 0 where
  pub problem : Q ≡ P
  pub rule_is : r ≡ rule
  pub budget_is : course.budget ≡ budget
  pub words_are : given ≡ words
  pub empty : old.standing ≡ []
  pub none : course.retractions ≡ 0
  pub end : (draws : ℕ) → (more : ℕ) × (end_from Q r course.budget (state_at old course draws given) ≡ Some (outcome, state_at new next more left))

ended : (P Q : Network) (rule r : Rule) (budget : ℕ) (words given left : Stream) (old new : StoreView) (course next : Course) (outcome : Outcome)
    → IsEnded P Q rule r budget words given left old new course next outcome
    → (more : ℕ) × (end_from P rule budget (start words) ≡ Some (outcome, state_at new next more left))
ended P Q rule r budget words given left old new course next outcome is = (
  (is.end 0).0,
  sym (
      ap (λ (ls : List Literal). end_from Q r course.budget (record { standing = ls; retractions = course.retractions; draws = 0; words = given })) is.empty
      ∙ ap (λ (n : ℕ). end_from Q r course.budget (record { standing = []; retractions = n; draws = 0; words = given })) is.none
      ∙ ap (λ (w : Stream). end_from Q r course.budget (start w)) is.words_are
      ∙ ap (λ (X : Network). end_from X r course.budget (start words)) is.problem
      ∙ ap (λ (x : Rule). end_from P x course.budget (start words)) is.rule_is
      ∙ ap (λ (n : ℕ). end_from P rule n (start words)) is.budget_is)
      ∙ (is.end 0).1,
)

-- so the run has this end
pub ended_in : (P Q : Network) (rule r : Rule) (budget : ℕ) (words given left : Stream) (old new : StoreView) (course next : Course) (outcome named : Outcome) → outcome ≡ named
    → IsEnded P Q rule r budget words given left old new course next outcome → EndsIn P rule budget words named
ended_in P Q rule r budget words given left old new course next outcome named same is =
    let e = ended P Q rule r budget words given left old new course next outcome is in
    (state_at new next e.0 left, e.1 ∙ ap (λ (o : Outcome). Some (o, state_at new next e.0 left)) same)

-- and a map is that of the literals that stand then
pub ended_in_map : (P Q : Network) (rule r : Rule) (budget : ℕ) (words given left : Stream) (old new : StoreView) (course next : Course) (outcome : Outcome) (a : List ℕ) → outcome ≡ Map
    → IsEnded P Q rule r budget words given left old new course next outcome → a ≡ assignment_of P new.standing → EndsInMap P rule budget words a
ended_in_map P Q rule r budget words given left old new course next outcome a map is values =
    let e = ended P Q rule r budget words given left old new course next outcome is in
    (state_at new next e.0 left, e.1 ∙ ap (λ (o : Outcome). Some (o, state_at new next e.0 left)) map, values)

-- ---- the values of a map

-- a map has a value for each cell
pub length-assignment_of : (P : Network) (literals : List Literal) → length (assignment_of P literals) ≡ P.cells
length-assignment_of P literals = length-map-range_with_len (λ c. slice_index (values_at P (greatest P literals) c) 0) 0 P.cells

-- the values of all cells are the map
pub assignment_whole : (P : Network) (literals : List Literal) (values : List ℕ) → values ≡ take P.cells (assignment_of P literals) → values ≡ assignment_of P literals
assignment_whole P literals values all =
    all ∙ ap (λ (n : ℕ). take n (assignment_of P literals)) (sym (length-assignment_of P literals)) ∙ take-length (assignment_of P literals)

-- ---- what else is said

-- what the outcome of a search says is true
pub says_true : (s : SearchView) (outcome : Outcome) → IsReady s → s.course.outcome ≡ Some outcome → SaysTrue s outcome
says_true s outcome ready is = ready.outcome outcome is

-- with a quiet journal `step` doesn't fail
pub quiet_step : (fault : JournalFault) (s : SearchView) (words : Stream) (store : StoreView) → StepFails (Err fault) s words store quiet quiet → ⊥
quiet_step fault s words store fails = elim (fails 0) [ inl cut ↦ false≢true cut.failed | inr cut ↦ false≢true cut.1.failed ]

-- nor does `run`
pub quiet_run : (fault : JournalFault) (s : SearchView) (words : Stream) → RunFails (Err fault) s words quiet quiet → ⊥
quiet_run fault s words fails = elim fails.cut_off [ inl cut ↦ false≢true cut.failed | inr cut ↦ false≢true cut.1.failed ]
