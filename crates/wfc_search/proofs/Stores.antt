-- What a sound store says of its domains.
use Rattle.std.proofs.Common.{◌≡◌, ◌-◌, ◌<◌, ◌≤◌, ℕ, true, false, List, [], ◌∷◌, ◌++◌, length, take, refl, sym, ◌∙◌, ap, subst, get_or, arith, length-append}
use Rattle.std.specs.Prelude.{All, filter, slice_index}
use Rattle.std.proofs.lemmas.Bool.{false≢true}
use Rattle.std.specs.List.{range_with_len}
use Rattle.std.proofs.Math.Seq.{take-append_seam}
use Rattle.wfc_log.specs.Domains.{Flags, has, size_of, flags_of}
use Rattle.wfc_domains.specs.Removals.{without}
use Rattle.wfc_domains.proofs.Removals.{without-split, without-within}
use Rattle.wfc_domains.specs.Store.{StoreView, IsSound, IsVerdict, left_of, before_of, added_of, level_mark, all_but_last}
use Rattle.wfc_log.specs.declared.Removal.{Removal}
use Rattle.wfc_log.specs.declared.Verdict.{Verdict}
use Rattle.wfc_log.specs.declared.Verdict.TheVariants.{Alive, Dead}
use Rattle.wfc_problem.specs.Domains.{Test, Within, HasOnly}
use Rattle.wfc_problem.specs.Network.{Network, IsProblem, values, in_base}
use Rattle.wfc_problem.specs.declared.TheConstants.{MAX_VALUES}
use Rattle.wfc_problem.specs.Rounds.{greatest}
use Rattle.wfc_problem.specs.Sizes.{is_dead, size_at, sizes_of}
use Rattle.wfc_problem.specs.declared.Literal.{Literal}
use Rattle.wfc_problem.proofs.CallerLemmas.{length-sizes_of, sizes_of_at, few_values, greatest_same, greatest_is, greatest_base, dead_iff}
use Rattle.wfc_search.proofs.Removals.{IsStep, size_few, step_at}

-- ---- the last level

-- the last level leads from the domains before it to those after it
pub left_added : (v : StoreView) → left_of v ≡ without (before_of v) (added_of v)
left_added v = sym (without-split (in_base v.problem) v.removals (level_mark v.marks))

-- the domains before it lie within the base
pub before_base : (v : StoreView) → Within (before_of v) (in_base v.problem)
before_base v = without-within (in_base v.problem) (take (level_mark v.marks) v.removals)

-- and those after it
pub left_base : (v : StoreView) → Within (left_of v) (in_base v.problem)
left_base v = without-within (in_base v.problem) v.removals

-- what is known of a removal of the last level
pub removal_step : (v : StoreView) → IsSound v → (rs : List Removal) → rs ≡ added_of v → (i : ℕ) (d : Removal) → i < length rs
    → IsStep v.problem (before_of v) (left_of v) rs i (get_or rs i d)
removal_step v sound rs same i d inside =
    let Q : List Removal → Type 0 = λ xs. i < length xs → IsStep v.problem (before_of v) (left_of v) xs i (get_or xs i d) in
    subst Q (sym same)
    (λ l. subst (λ (E : Test). IsStep v.problem (before_of v) E (added_of v) i (get_or (added_of v) i d)) (sym (left_added v))
    (step_at v.problem sound.problem v.standing (before_of v) (before_base v) (added_of v) sound.added i d l))
    inside

-- ---- verdicts

-- a store that is alive has the greatest domains, of which none is empty
pub alive_says : (P : Network) (literals : List Literal) (D : Test) (verdict : Verdict) → IsVerdict P literals D verdict → verdict ≡ Alive → IsVerdict P literals D Alive
alive_says P literals D Alive says is = says
alive_says P literals D (Dead cell) says is = cc

-- one that is dead has none
pub dead_says : (P : Network) (literals : List Literal) (D : Test) (verdict : Verdict) (cell : ℕ) → IsVerdict P literals D verdict → verdict ≡ Dead cell → is_dead P (greatest P literals) ≡ true
dead_says P literals D Alive cell says is = cc
dead_says P literals D (Dead other) cell says is = says.0

-- the domains of a store that is alive
pub alive_left : (v : StoreView) → IsSound v → v.verdict ≡ Alive → left_of v ≡ greatest v.problem v.standing
alive_left v sound is =
    greatest_same v.problem v.standing (left_of v) (greatest v.problem v.standing)
    (alive_says v.problem v.standing (left_of v) v.verdict sound.verdict is).0 (greatest_is v.problem sound.problem v.standing)

-- are not dead
pub alive_alive : (v : StoreView) → IsSound v → v.verdict ≡ Alive → is_dead v.problem (greatest v.problem v.standing) ≡ false
alive_alive v sound is =
    ap (is_dead v.problem) (sym (alive_left v sound is)) ∙ (alive_says v.problem v.standing (left_of v) v.verdict sound.verdict is).1

-- the greatest domains of a store that is dead are
pub dead_dead : (v : StoreView) (cell : ℕ) → IsSound v → v.verdict ≡ Dead cell → is_dead v.problem (greatest v.problem v.standing) ≡ true
dead_dead v cell sound is = dead_says v.problem v.standing (left_of v) v.verdict cell sound.verdict is

-- ---- one literal more or less

-- without the last literal of a longer list
pub all_but_last_push : (ls : List Literal) (l : Literal) → all_but_last (ls ++ l ∷ []) ≡ ls
all_but_last_push ls l =
    let same : length (ls ++ l ∷ []) - 1 ≡ length ls = omega (arith, length-append ls (l ∷ [])) in
    ap (λ (n : ℕ). take n (ls ++ l ∷ [])) same ∙ take-append_seam ls (l ∷ [])

-- a level begins with the greatest domains of the literals before its own
pub before_greatest : (v : StoreView) → IsSound v → 0 < length v.standing → before_of v ≡ greatest v.problem (all_but_last v.standing)
before_greatest v sound some =
    greatest_same v.problem (all_but_last v.standing) (before_of v) (greatest v.problem (all_but_last v.standing)) (sound.began some).0
    (greatest_is v.problem sound.problem (all_but_last v.standing))

-- so a new level begins with the domains that there were
pub before_put_on : (old new : StoreView) (l : Literal) → IsSound old → IsSound new → old.verdict ≡ Alive → new.problem ≡ old.problem → new.standing ≡ old.standing ++ l ∷ []
    → before_of new ≡ left_of old
before_put_on old new l was is alive problem standing =
    let some : 0 < length new.standing = omega (arith, ap length standing, length-append old.standing (l ∷ [])) in
    before_greatest new is some
    ∙ ap (λ (P : Network). greatest P (all_but_last new.standing)) problem
    ∙ ap (λ (ls : List Literal). greatest old.problem (all_but_last ls)) standing
    ∙ ap (greatest old.problem) (all_but_last_push old.standing l)
    ∙ sym (alive_left old was alive)

-- and where it is taken away the domains are those that it began with
pub left_undone : (old new : StoreView) → IsSound old → IsSound new → 0 < length old.standing → new.verdict ≡ Alive → new.problem ≡ old.problem → new.standing ≡ all_but_last old.standing
    → left_of new ≡ before_of old
left_undone old new was is some alive problem standing =
    alive_left new is alive
    ∙ ap (λ (P : Network). greatest P new.standing) problem
    ∙ ap (greatest old.problem) standing
    ∙ sym (before_greatest old was some)

-- ---- what is read of the domains

-- the size of a cell as the domains tell it
pub size_seen : (v : StoreView) (D : Flags) (c : ℕ) → D ≡ flags_of v.problem (left_of v) → has D ≡ left_of v → size_of D c ≡ size_at v.problem (left_of v) c
size_seen v D c is stands =
    ap (λ (E : Test). length (filter (E c) (range_with_len 0 D.values))) stands
    ∙ ap (λ (F : Flags). length (filter (left_of v c) (range_with_len 0 F.values))) is

-- there are at most so many values
pub values_few : (v : StoreView) → IsSound v → values v.problem ≤ MAX_VALUES
values_few v sound = few_values v.problem sound.problem

-- no cell has more values than a size may be
pub sizes_small : (v : StoreView) → IsSound v → (sizes : List ℕ) → sizes ≡ sizes_of v.problem (left_of v) → All (λ (size : ℕ). size ≤ MAX_VALUES) sizes
sizes_small v sound sizes same k d inside =
    let cell_in : k < v.problem.cells = omega (arith, ap length same, length-sizes_of v.problem (left_of v)) in
    let is : get_or sizes k d ≡ size_at v.problem (left_of v) k = ap (λ (xs : List ℕ). get_or xs k d) same ∙ sizes_of_at v.problem (left_of v) k d cell_in in
    omega (arith, is, size_few v.problem (left_of v) k, few_values v.problem sound.problem)

-- ---- one value for each cell

-- domains in which each cell has one value aren't dead
only_alive : (P : Network) → IsProblem P → (literals : List Literal) (a : List ℕ) → HasOnly P (greatest P literals) a → is_dead P (greatest P literals) ≡ true → ⊥
only_alive P p literals a only dead =
    let empty = (dead_iff P p (greatest P literals) (greatest_base P p literals)).0 dead in
    false≢true (sym (empty.2 (slice_index a empty.0)) ∙ (only.only empty.0 (slice_index a empty.0) empty.1).1 refl)

-- so the domains of the store are the greatest
pub only_left : (v : StoreView) → IsSound v → (a : List ℕ) → HasOnly v.problem (greatest v.problem v.standing) a → left_of v ≡ greatest v.problem v.standing
only_left v sound a only = by_verdict v.verdict sound.verdict
  where
    by_verdict : (verdict : Verdict) → IsVerdict v.problem v.standing (left_of v) verdict → left_of v ≡ greatest v.problem v.standing
    by_verdict Alive says = greatest_same v.problem v.standing (left_of v) (greatest v.problem v.standing) says.0 (greatest_is v.problem sound.problem v.standing)
    by_verdict (Dead cell) says = absurd (only_alive v.problem sound.problem v.standing a only says.0)
