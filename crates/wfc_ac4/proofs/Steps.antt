-- One step of the engine: a counter lowered, a value removed, a removal worked off.
use Rattle.std.proofs.Common.{◌≡◌, ◌≢◌, ℕ, zero, suc, ◌+◌, ◌-◌, ◌%◌, ◌<◌, ◌≤◌, false, cond, List, [], ◌∷◌, ◌++◌, length, get_or, take, set, refl, sym, ◌∙◌, ap, subst, add-one, arith, Option, Some, None, inl, inr}
use Rattle.std.specs.Prelude.{◌==◌, IsTrue, slice_index, slice_get}
use Rattle.std.proofs.lemmas.Bool.{cases_eq, cases_lt, eq-eqb, ne_eqb, true≢false}
use Rattle.std.proofs.lemmas.List.{get_or_default, length_push, get_or-map, length-map, length-set, get_or_past, take-append-le, take_more, append_assoc, append-nil}
use Rattle.std.proofs.lemmas.List.Sums.{sum_by-take-le, sum_by_push}
use Rattle.wfc_model.specs.Direction.{opposite}
use Rattle.wfc_problem.specs.Network.{Network, values, neighbour, supports_of, in_base, IsProblem}
use Rattle.wfc_problem.specs.Domains.{Test, Within, support_count, base_with}
use Rattle.wfc_log.specs.declared.Cause.TheVariants.{Arc}
use Rattle.wfc_log.specs.declared.Removal.{Removal}
use Rattle.wfc_log.specs.declared.Verdict.TheVariants.{Alive}
use Rattle.wfc_domains.specs.declared.board.Board.{Board}
use Rattle.wfc_log.specs.Domains.{Flags, has, size_of, less, IsLess}
use Rattle.wfc_domains.specs.Counters.{IsMarked, Marks, entry_of, Table, FitsTable, count_of, with_count, counter_place, count_place}
use Rattle.wfc_domains.specs.Removals.{without, IsUnsupported}
use Rattle.wfc_domains.specs.Store.{left_of}
use Rattle.wfc_domains.specs.Board.{view_of, AreStood, IsTraced, board_without, Loses, Grows}
use Rattle.wfc_domains.proofs.Problems.{in_values, in_cells, opposite-in, neighbour-dir, support_count-few, support_count-le, support_count-short}
use Rattle.wfc_domains.proofs.Marking.{entry-same, entry-other}
use Rattle.wfc_domains.proofs.Places.{place-same, place_in-lt, place-is}
use Rattle.wfc_domains.proofs.Removals.{less-within, less-lacks, without-within, without-push, without-in}
use Rattle.wfc_domains.proofs.Boards.{board-board_without, stands-in}
use Rattle.wfc_ac4.specs.Places.{side_places, places_upto, counter_places, times}
use Rattle.wfc_ac4.specs.State.{AreLowered, AreRaised, IsWorking, IsBetweenRemovals, IsRaising, counted_base}
use Rattle.wfc_ac4.proofs.MarkLemmas.{entry-pos, pred-mod, suc-mod, mod-small, gone-within, gone-lowered, gone-marked, fewer-raised, lowered-marked}
use Rattle.wfc_ac4.proofs.PlaceLemmas.{times-append, places-count}

-- ---- counters

pub times-push : (i : ℕ) (xs : List ℕ) (y : ℕ) → times i (xs ++ y ∷ []) ≡ times i xs + cond (y == i) 1 0
times-push i xs y = sum_by_push (λ x. cond (x == i) 1 0) xs y

in_list : (xs : List ℕ) (i : ℕ) → 0 < slice_index xs i → i < length xs
in_list xs i pos = elim (cases_lt i (length xs)) [ inl l ↦ l | inr l ↦ let past = get_or_past xs i 0 l in absurd (omega arith) ]

-- another count is no other size
fits-with : (P : Network) (T : Table) (n w d x : ℕ) → FitsTable P T → FitsTable P (with_count T n w d x)
fits-with P T n w d x h = record {
  same_cells = h.same_cells;
  same_values = h.same_values;
  same_dirs = h.same_dirs;
  few = h.few;
  whole = length-set T.counts (count_place T.values T.dirs n w d) x ∙ h.whole;
}

-- a count that was set, and the others
pub with-same : (T : Table) (n w d x c v e : ℕ) → count_place T.values T.dirs c v e ≡ count_place T.values T.dirs n w d → count_place T.values T.dirs n w d < length T.counts → count_of (with_count T n w d x) c v e ≡ x % 32768
with-same T n w d x c v e same inside = ap (λ y. y % 32768) (entry-same T n w d x c v e same inside)

pub with-other : (T : Table) (n w d x c v e : ℕ) → count_place T.values T.dirs c v e ≢ count_place T.values T.dirs n w d → count_of (with_count T n w d x) c v e ≡ count_of T c v e
with-other T n w d x c v e ne = ap (λ y. y % 32768) (entry-other T n w d x c v e ne)

-- a counter that is lowered has one less
pub counted_base-in : (T : Table) (n w d : ℕ) → 0 < count_of T n w d → count_place T.values T.dirs n w d < length T.counts
counted_base-in T n w d pos = in_list T.counts (count_place T.values T.dirs n w d) (entry-pos (entry_of T n w d) pos)

lowered-left : (T : Table) (n w d : ℕ) → 0 < count_of T n w d → count_of (with_count T n w d (entry_of T n w d - 1)) n w d ≡ count_of T n w d - 1
lowered-left T n w d pos = with-same T n w d (entry_of T n w d - 1) n w d refl (counted_base-in T n w d pos) ∙ pred-mod (entry_of T n w d) pos

-- a place that is not, or is, another's
flag-is : (a b : ℕ) → a ≡ b → cond {A = ℕ} (a == b) 1 0 ≡ 1
flag-is a b e = ap (λ t. cond {A = ℕ} t 1 0) (eq-eqb a b e)

flag-not : (a b : ℕ) → a ≢ b → cond {A = ℕ} (a == b) 1 0 ≡ 0
flag-not a b ne = ap (λ t. cond {A = ℕ} t 1 0) (ne_eqb a b ne)

-- one counter lowered
pub lowered-one : (P : Network) (E : Test) (lowered : List ℕ) (T : Table) (n w d : ℕ) → AreLowered P E lowered T → 0 < count_of T n w d → AreLowered P E (lowered ++ counter_place P n w d ∷ []) (with_count T n w d (entry_of T n w d - 1))
lowered-one P E lowered T n w d h pos = record {
  fits = fits-with P T n w d (entry_of T n w d - 1) h.fits;
  each = λ c' v' d' hc hv hd.
      let old = h.each c' v' d' hc hv hd in
      let i = count_place T.values T.dirs n w d in
      let j = count_place T.values T.dirs c' v' d' in
      let ei = place-is P T h.fits n w d in
      let ej = place-is P T h.fits c' v' d' in
      let more = times-push (counter_place P c' v' d') lowered (counter_place P n w d) in
      elim (cases_eq j i) [
        | inl e ↦
            let same = with-same T n w d (entry_of T n w d - 1) c' v' d' e (counted_base-in T n w d pos) ∙ pred-mod (entry_of T n w d) pos in
            let was : count_of T c' v' d' ≡ count_of T n w d = ap (λ k. slice_index T.counts k % 32768) e in
            omega (arith, flag-is (counter_place P n w d) (counter_place P c' v' d') (ei ∙ sym e ∙ sym ej))
        | inr ne ↦ omega (arith, with-other T n w d (entry_of T n w d - 1) c' v' d' ne, flag-not (counter_place P n w d) (counter_place P c' v' d') (λ e. ne (sym ej ∙ sym e ∙ ei)))
      ];
}

-- one counter raised
raised-one : (P : Network) (E : Test) (raised : List ℕ) (T : Table) (n w d : ℕ) → AreRaised P E raised T → n < P.cells → w < values P → d < P.dirs → count_of T n w d < 4096 → AreRaised P E (raised ++ counter_place P n w d ∷ []) (with_count T n w d (entry_of T n w d + 1))
raised-one P E raised T n w d h hn hw hd few = record {
  fits = fits-with P T n w d (entry_of T n w d + 1) h.fits;
  each = λ c' v' d' hc hv hd'.
      let old = h.each c' v' d' hc hv hd' in
      let i = count_place T.values T.dirs n w d in
      let j = count_place T.values T.dirs c' v' d' in
      let ei = place-is P T h.fits n w d in
      let ej = place-is P T h.fits c' v' d' in
      let more = times-push (counter_place P c' v' d') raised (counter_place P n w d) in
      let inside : i < length T.counts = omega (arith, place_in-lt (values P) P.dirs n w d P.cells hn hw hd, ei, h.fits.whole) in
      elim (cases_eq j i) [
        | inl e ↦
            let same = with-same T n w d (entry_of T n w d + 1) c' v' d' e inside ∙ suc-mod (entry_of T n w d) few in
            let was : count_of T c' v' d' ≡ count_of T n w d = ap (λ k. slice_index T.counts k % 32768) e in
            omega (arith, flag-is (counter_place P n w d) (counter_place P c' v' d') (ei ∙ sym e ∙ sym ej))
        | inr ne ↦ omega (arith, with-other T n w d (entry_of T n w d + 1) c' v' d' ne, flag-not (counter_place P n w d) (counter_place P c' v' d') (λ e. ne (sym ej ∙ sym e ∙ ei)))
      ];
}

-- counters for the same test
pub lowered-agree : (P : Network) (E F : Test) (lowered : List ℕ) (T : Table) → AreLowered P E lowered T → E ≡ F → AreLowered P F lowered T
lowered-agree P E F lowered T h e = subst (λ x. AreLowered P x lowered T) e h

-- ---- the places lowered so far are a part of all

times-take : (i k : ℕ) (xs : List ℕ) → times i (take k xs) ≤ times i xs
times-take i k xs = sum_by-take-le (λ x. cond (x == i) 1 0) xs k

upto-le : (P : Network) (c v i : ℕ) (m k : ℕ) → m ≤ k → times i (places_upto P c v m) ≤ times i (places_upto P c v k)
upto-le P c v i m zero h = let e : m ≡ 0 = omega arith in let same = ap (λ x. times i (places_upto P c v x)) e in omega arith
upto-le P c v i m (suc k) h = elim (cases_lt m (suc k)) [
  | inl l ↦
      let rest = upto-le P c v i m k (omega arith) in
      omega (arith, times-append i (places_upto P c v k) (side_places P v k (neighbour P c k)))
  | inr l ↦ let e : m ≡ suc k = omega arith in let same = ap (λ x. times i (places_upto P c v x)) e in omega arith
]

part-le : (P : Network) (c v d n i k : ℕ) → d < P.dirs → neighbour P c d ≡ Some n → times i (places_upto P c v d ++ take k (side_places P v d (Some n))) ≤ times i (counter_places P c v)
part-le P c v d n i k hd e =
    let side = side_places P v d (neighbour P c d) in
    let same = ap (λ o. times i (take k (side_places P v d o))) e in
    let a = times-append i (places_upto P c v d) (take k (side_places P v d (Some n))) in
    let b = times-append i (places_upto P c v d) side in
    let t = times-take i k side in
    let up = upto-le P c v i (suc d) P.dirs hd in
    omega arith

-- ---- working off

-- while a removal is worked off, a counter that is still to be lowered is above 0
pub still_counts : (P : Network) → IsProblem P → (E : Test) (lowered : List ℕ) (T : Table) (c v n w d : ℕ) → AreLowered P E lowered T → IsTrue (E c v) → n < P.cells → w < values P → d < P.dirs
    → times (counter_place P n w d) (lowered ++ counter_place P n w d ∷ []) ≤ times (counter_place P n w d) (counter_places P c v) → 0 < count_of T n w d
still_counts P p E lowered T c v n w d h t hn hw hd part =
    let now = h.each n w d hn hw hd in
    let all = places-count P p E c v n w d t hw hd in
    let more = times-push (counter_place P n w d) lowered (counter_place P n w d) in
    omega (arith, flag-is (counter_place P n w d) (counter_place P n w d) refl)

-- a counter that has fallen to 0 says that no support stands
no_support : (P : Network) → IsProblem P → (E D : Test) (lowered : List ℕ) (T : Table) (c v n w d : ℕ) → AreLowered P E lowered T → IsTrue (E c v) → Within D (less E c v) → n < P.cells → w < values P → d < P.dirs
    → times (counter_place P n w d) lowered ≤ times (counter_place P n w d) (counter_places P c v) → count_of T n w d ≡ 0 → support_count P D n w d ≡ 0
no_support P p E D lowered T c v n w d h t within hn hw hd part z =
    let now = h.each n w d hn hw hd in
    let all = places-count P p E c v n w d t hw hd in
    let le = support_count-le P D (less E c v) n w d within in
    omega arith

-- worked off to its end, a removal is counted no more
worked_off : (P : Network) → IsProblem P → (E : Test) (T : Table) (c v : ℕ) → AreLowered P E (counter_places P c v) T → IsTrue (E c v) → AreLowered P (less E c v) [] T
worked_off P p E T c v h t = record {
  fits = h.fits;
  each = λ c' v' d' hc hv hd.
      let now = h.each c' v' d' hc hv hd in
      let all = places-count P p E c v c' v' d' t hv hd in
      let none : times (counter_place P c' v' d') [] ≡ 0 = refl in
      omega arith;
}

-- what stands has support left, if what was lowered has or no longer stands
support-lowered : (b : Board) (D : Flags) (T : Table) (n w d x : ℕ) → IsTraced b → FitsTable b.problem.now T
    → ((c v e m : ℕ) → IsTrue (has b.domains c v) → neighbour b.problem.now c e ≡ Some m → 0 < count_of T c v e) → Within (has D) (has b.domains)
    → w < values b.problem.now → d < b.problem.now.dirs → (IsTrue (has D n w) → 0 < count_of (with_count T n w d x) n w d)
    → (c v e m : ℕ) → IsTrue (has D c v) → neighbour b.problem.now c e ≡ Some m → 0 < count_of (with_count T n w d x) c v e
support-lowered b D T n w d x t fits supported within hw hd here c v e m s beside =
    let P = b.problem.now in
    let range = stands-in b t c v (within c v s) in
    let dir = neighbour-dir P c e m beside in
    elim (cases_eq (count_place T.values T.dirs c v e) (count_place T.values T.dirs n w d)) [
      | inl same ↦
          let which = place-same P c v e n w d range.1 hw dir hd (place-is P T fits c v e ∙ same ∙ sym (place-is P T fits n w d)) in
          let s' : IsTrue (has D n w) = sym (ap (λ a. has D a v) which.0 ∙ ap (has D n) which.1) ∙ s in
          let pos = here s' in
          let eq = ap (λ k. slice_index (set T.counts (count_place T.values T.dirs n w d) x) k % 32768) same in
          omega arith
      | inr ne ↦
          let pos = supported c v e m (within c v s) beside in
          omega (arith, with-other T n w d x c v e ne)
    ]

-- ---- one counter lowered, in the midst of working off

-- the value keeps a support, or does not stand, or a cell is empty
working-lowered : (b : Board) (T : Table) (head c v : ℕ) (lowered : List ℕ) (n w d : ℕ) → IsWorking b T head c v lowered
    → w < values b.problem.now → d < b.problem.now.dirs → 0 < count_of T n w d
    → (b.verdict ≡ Alive → IsTrue (has b.domains n w) → 0 < count_of (with_count T n w d (entry_of T n w d - 1)) n w d)
    → IsWorking b (with_count T n w d (entry_of T n w d - 1)) head c v (lowered ++ counter_place b.problem.now n w d ∷ [])
working-lowered b T head c v lowered n w d h hw hd pos here = record {
  board = h.board;
  cut = h.cut;
  counters = lowered-one b.problem.now (counted_base b head) lowered T n w d h.counters pos;
  supported = λ alive. support-lowered b b.domains T n w d (entry_of T n w d - 1) h.board.traced h.counters.fits (h.supported alive) (λ c' v' t. t) hw hd (here alive);
  marks = gone-lowered b.domains T n w d h.marks (entry-pos (entry_of T n w d) pos) (counted_base-in T n w d pos);
  still_counted = h.still_counted;
  gone = h.gone;
  in_log = h.in_log;
}

-- it has none left, and is removed
working-removed : (b : Board) (D : Flags) (T : Table) (head c v : ℕ) (lowered : List ℕ) (n w d : ℕ) → IsWorking b T head c v lowered → b.verdict ≡ Alive
    → n < b.problem.now.cells → w < values b.problem.now → d < b.problem.now.dirs → 0 < count_of T n w d → neighbour b.problem.now n d ≡ Some c
    → times (counter_place b.problem.now n w d) (lowered ++ counter_place b.problem.now n w d ∷ []) ≤ times (counter_place b.problem.now n w d) (counter_places b.problem.now c v)
    → count_of (with_count T n w d (entry_of T n w d - 1)) n w d ≡ 0
    → IsLess b.domains D n w
    → IsWorking (board_without b D n w (Arc d)) (with_count T n w d (entry_of T n w d - 1)) head c v (lowered ++ counter_place b.problem.now n w d ∷ [])
working-removed b D T head c v lowered n w d h alive hn hw hd pos beside part none_left less' =
    let P = b.problem.now in
    let rs = b.trail.removals in
    let r : Removal = record { cell = n; value = w; before = size_of b.domains n; cause = Arc d } in
    let E = counted_base b head in
    let T' = with_count T n w d (entry_of T n w d - 1) in
    let lower = lowered-one P E lowered T n w d h.counters pos in
    let same_head : take head (rs ++ r ∷ []) ≡ take head rs = take-append-le head rs (r ∷ []) h.in_log in
    let no = no_support P h.board.traced.problem E (left_of (view_of b)) (lowered ++ counter_place P n w d ∷ []) T' c v n w d lower h.still_counted h.gone hn hw hd part none_left in
    let within' : Within (has D) (has b.domains) = λ c' v' t. less-within (has b.domains) n w c' v' (ap (λ f. f c' v') (sym less'.each) ∙ t) in
    let lacks : IsTrue (has D n w) → ⊥ = λ t. less-lacks (has b.domains) n w (ap (λ f. f n w) (sym less'.each) ∙ t) in
    let bare : IsUnsupported P (left_of (view_of b)) n w d = record { next = c; beside = beside; none = no } in
    let left_cut : Within (left_of (view_of b)) (base_with P b.levels.standing) = λ x y t. h.cut alive x y (ap (λ f. f x y) h.board.traced.stands ∙ t) in
    record {
      board = board-board_without b D n w (Arc d) h.board alive less' hn hw (left_cut, bare);
      cut = λ _ x y t. h.cut alive x y (within' x y t);
      counters = subst (λ xs. AreLowered P (without (in_base P) xs) (lowered ++ counter_place P n w d ∷ []) T') (sym same_head) lower;
      supported = λ _. support-lowered b D T n w d (entry_of T n w d - 1) h.board.traced h.counters.fits (h.supported alive) within' hw hd (λ t. absurd (lacks t));
      marks = gone-within b.domains D T' (gone-lowered b.domains T n w d h.marks (entry-pos (entry_of T n w d) pos) (counted_base-in T n w d pos)) within';
      still_counted = subst (λ xs. IsTrue (without (in_base P) xs c v)) (sym same_head) h.still_counted;
      gone = subst (λ xs. Within (without (in_base P) (rs ++ r ∷ [])) (less (without (in_base P) xs) c v)) (sym same_head)
          (λ c' v' t. h.gone c' v' (less-within (without (in_base P) rs) n w c' v' (ap (λ f. f c' v') (sym (without-push (in_base P) rs r)) ∙ t)));
      in_log = omega (arith, h.in_log, length_push rs r);
    }

-- ---- one support at a neighbour

next_lowered : (P : Network) (c v d n k : ℕ) → k < length (supports_of P v d) → (places_upto P c v d ++ take k (side_places P v d (Some n))) ++ counter_place P n (get_or (supports_of P v d) k 0) (opposite d) ∷ [] ≡ places_upto P c v d ++ take (k + 1) (side_places P v d (Some n))
next_lowered P c v d n k l =
    let side = side_places P v d (Some n) in
    let l' : k < length side = omega (arith, length-map (supports_of P v d) (λ w. counter_place P n w (opposite d))) in
    append_assoc (places_upto P c v d) (take k side) _
    ∙ ap (λ x. places_upto P c v d ++ (take k side ++ x ∷ [])) (sym (get_or-map (λ w. counter_place P n w (opposite d)) (supports_of P v d) k 0 0 l))
    ∙ ap (λ x. places_upto P c v d ++ x) (sym (take_more side k 0 l'))

-- what holds of a value w that a removed one supports at the neighbour n
pub record SideStep (P : Network) (lowered next : List ℕ) (c v n w back : ℕ) (T : Table) : Type 0 where
  pub cell_in : n < P.cells
  pub value_in : w < values P
  pub dir_in : back < P.dirs
  pub above_zero : 0 < count_of T n w back
  pub part : times (counter_place P n w back) (lowered ++ counter_place P n w back ∷ []) ≤ times (counter_place P n w back) (counter_places P c v)
  pub beside : neighbour P n back ≡ Some c
  pub next_is : lowered ++ counter_place P n w back ∷ [] ≡ next

-- the state after it, where it is removed
pub step_removed : (b b' : Board) (T T' : Table) (head c v : ℕ) (lowered : List ℕ) (next : Network → List ℕ) (n w d : ℕ)
    → IsWorking b T head c v lowered → SideStep b.problem.now lowered (next b.problem.now) c v n w d T
    → T' ≡ with_count T n w d (entry_of T n w d - 1) → b.verdict ≡ Alive → entry_of T n w d ≡ 1 → Loses b b' n w (Arc d)
    → IsWorking b' T' head c v (next b'.problem.now)
step_removed b b' T T' head c v lowered next n w d h s is_table alive one_left loses =
    let z : count_of (with_count T n w d (entry_of T n w d - 1)) n w d ≡ 0 = omega (arith, lowered-left T n w d s.above_zero, ap (λ x. x % 32768) one_left) in
    let r = working-removed b b'.domains T head c v lowered n w d h alive s.cell_in s.value_in s.dir_in s.above_zero s.beside s.part z loses.less in
    subst (λ (x : Board). IsWorking x T' head c v (next x.problem.now)) (sym loses.same)
    (subst (λ t. IsWorking (board_without b b'.domains n w (Arc d)) t head c v (next b.problem.now)) (sym is_table)
    (subst (λ xs. IsWorking (board_without b b'.domains n w (Arc d)) (with_count T n w d (entry_of T n w d - 1)) head c v xs) s.next_is r))

-- and where it is not
pub step_lowered : (b : Board) (T T' : Table) (head c v : ℕ) (lowered next : List ℕ) (n w d : ℕ)
    → IsWorking b T head c v lowered → SideStep b.problem.now lowered next c v n w d T
    → T' ≡ with_count T n w d (entry_of T n w d - 1) → (b.verdict ≡ Alive → entry_of T n w d ≡ 1 → IsTrue (has b.domains n w) → ⊥)
    → IsWorking b T' head c v next
step_lowered b T T' head c v lowered next n w d h s is_table keeps =
    let r = working-lowered b T head c v lowered n w d h s.value_in s.dir_in s.above_zero
    (λ alive t. elim (cases_lt 0 (count_of (with_count T n w d (entry_of T n w d - 1)) n w d)) [
      | inl l ↦ l
      | inr l ↦
          let one : count_of T n w d ≡ 1 = omega (arith, lowered-left T n w d s.above_zero, s.above_zero) in
          elim (cases_lt (entry_of T n w d) 32768) [
            | inl plain ↦ absurd (keeps alive (sym (mod-small (entry_of T n w d) plain) ∙ one) t)
            | inr marked ↦ absurd (true≢false (sym t ∙ h.marks n w d (omega (arith, s.value_in, h.counters.fits.same_values)) (omega (arith, s.dir_in, h.counters.fits.same_dirs)) marked))
          ]
    ]) in
    subst (λ t. IsWorking b t head c v next) (sym is_table) (subst (λ xs. IsWorking b (with_count T n w d (entry_of T n w d - 1)) head c v xs) s.next_is r)

-- a value that was removed is marked
pub working-marked : (b : Board) (T T' : Table) (head c v n w : ℕ) (lowered : List ℕ) → IsWorking b T head c v lowered → Marks T T' n w → has b.domains n w ≡ false → IsWorking b T' head c v lowered
working-marked b T T' head c v n w lowered h k f = record {
  board = h.board;
  cut = h.cut;
  counters = lowered-marked b.problem.now (counted_base b head) lowered T T' n w h.counters k;
  supported = λ alive c' v' d' m t e. let pos = h.supported alive c' v' d' m t e in let same = k.counts c' v' d' in omega arith;
  marks = gone-marked b.domains T T' n w h.marks k f;
  still_counted = h.still_counted;
  gone = h.gone;
  in_log = h.in_log;
}

-- ---- the removal at the head

stood_at : (D : Test) (rs : List Removal) (k : ℕ) (r : Removal) → AreStood D rs → slice_get rs k ≡ Some r → IsTrue (without D (take k rs) r.cell r.value)
stood_at D [] k r s e = cc
stood_at D (x ∷ rs) zero r s e = let same : x ≡ r = cc in subst (λ y. IsTrue (D y.cell y.value)) same s.0
stood_at D (x ∷ rs) (suc k) r s e = stood_at (less D x.cell x.value) rs k r s.1 e

gone_at : (D : Test) (rs : List Removal) (k : ℕ) (r : Removal) → slice_get rs k ≡ Some r → Within (without D rs) (less (without D (take k rs)) r.cell r.value)
gone_at D [] k r e = cc
gone_at D (x ∷ rs) zero r e = let same : x ≡ r = cc in subst (λ y. Within (without D (x ∷ rs)) (less D y.cell y.value)) same (without-within (less D x.cell x.value) rs)
gone_at D (x ∷ rs) (suc k) r e = gone_at (less D x.cell x.value) rs k r e

without_at : (D : Test) (rs : List Removal) (k : ℕ) (r : Removal) → slice_get rs k ≡ Some r → without D (take (k + 1) rs) ≡ less (without D (take k rs)) r.cell r.value
without_at D rs k r e = ap (λ n. without D (take n rs)) (add-one k) ∙ by_suc D rs k e
  where
    by_suc : (D : Test) (rs : List Removal) (k : ℕ) → slice_get rs k ≡ Some r → without D (take (suc k) rs) ≡ less (without D (take k rs)) r.cell r.value
    by_suc D [] k e = cc
    by_suc D (x ∷ rs) zero e = let same : x ≡ r = cc in ap (λ y. less D y.cell y.value) same
    by_suc D (x ∷ rs) (suc k) e = by_suc (less D x.cell x.value) rs k e

-- a removal of the log stands at its place in a longer one
pub get-grown : {old new : Board} (k : ℕ) (r : Removal) → Grows old new → slice_get old.trail.removals k ≡ Some r → slice_get new.trail.removals k ≡ Some r
get-grown {old} {new} k r h e = ap (λ xs. slice_get xs k) h.removals ∙ front old.trail.removals k e
  where
    front : (xs : List Removal) (k : ℕ) → slice_get xs k ≡ Some r → slice_get (xs ++ h.more) k ≡ Some r
    front [] k e = cc
    front (x ∷ xs) zero e = e
    front (x ∷ xs) (suc k) e = front xs k e

in_list-get : (rs : List Removal) (k : ℕ) (r : Removal) → slice_get rs k ≡ Some r → k < length rs
in_list-get [] k r e = cc
in_list-get (x ∷ rs) zero r e = omega arith
in_list-get (x ∷ rs) (suc k) r e = let l = in_list-get rs k r e in omega arith

pub start_working : (b : Board) (T : Table) (head : ℕ) (r : Removal) → IsBetweenRemovals b T head → slice_get b.trail.removals head ≡ Some r → IsWorking b T head r.cell r.value []
start_working b T head r h e = record {
  board = h.board;
  cut = h.cut;
  counters = h.counters;
  supported = h.supported;
  marks = h.marks;
  still_counted = stood_at (in_base b.problem.now) b.trail.removals head r h.board.traced.stood e;
  gone = gone_at (in_base b.problem.now) b.trail.removals head r e;
  in_log = h.in_log;
}

end_working : (b : Board) (T : Table) (head : ℕ) (r : Removal) → IsWorking b T head r.cell r.value (counter_places b.problem.now r.cell r.value) → slice_get b.trail.removals head ≡ Some r → IsBetweenRemovals b T (head + 1)
end_working b T head r h e = record {
  board = h.board;
  cut = h.cut;
  counters = lowered-agree b.problem.now _ _ [] T (worked_off b.problem.now h.board.traced.problem _ T r.cell r.value h.counters h.still_counted) (sym (without_at (in_base b.problem.now) b.trail.removals head r e));
  supported = h.supported;
  marks = h.marks;
  in_log = omega (arith, in_list-get b.trail.removals head r e);
}

-- what is worked off is a value of a cell
pub working-range : {b : Board} {T : Table} {head c v : ℕ} {lowered : List ℕ} → IsWorking b T head c v lowered → (c < b.problem.now.cells) × (v < values b.problem.now)
working-range {b} {T} {head} {c} {v} h = without-in b.problem.now h.board.traced.problem (take head b.trail.removals) c v h.still_counted

-- its counters all lowered, the removal is worked off
pub all_links_done : (b : Board) (T : Table) (head k : ℕ) (r : Removal) → IsWorking b T head r.cell r.value (counter_places b.problem.now r.cell r.value) → head ≡ k → slice_get b.trail.removals k ≡ Some r → IsBetweenRemovals b T (head + 1)
all_links_done b T head k r h f at = end_working b T head r h (ap (slice_get b.trail.removals) f ∙ at)

-- ---- taking back

-- what holds of the k-th support w at the neighbour n, while it is raised
pub record RaiseStep (P : Network) (E : Test) (next : List ℕ) (c v n w back : ℕ) (T : Table) : Type 0 where
  pub cell_in : n < P.cells
  pub value_in : w < values P
  pub dir_in : back < P.dirs
  pub below_limit : count_of T n w back < T.limit
  pub fewer : (c v d : ℕ) → IsMarked (with_count T n w back (entry_of T n w back + 1)) c v d → IsMarked T c v d
  pub after : IsRaising P E c v next (with_count T n w back (entry_of T n w back + 1))

pub raise_step : (P : Network) (E : Test) (c v d n k w back : ℕ) (xs : List ℕ) (T : Table)
    → IsRaising P E c v (places_upto P c v d ++ take k (side_places P v d (Some n))) T → d < P.dirs → neighbour P c d ≡ Some n
    → xs ≡ supports_of P v d → k < length xs → w ≡ get_or xs k 0 → back ≡ opposite d
    → RaiseStep P E (places_upto P c v d ++ take (k + 1) (side_places P v d (Some n))) c v n w back T
raise_step P E c v d n k w turned xs T h hd e is_xs l is_w is_back =
    let p = h.problem in
    let l' : k < length (supports_of P v d) = omega (arith, ap length is_xs) in
    let w_is : w ≡ get_or (supports_of P v d) k 0 = is_w ∙ ap (λ ys. get_or ys k 0) is_xs in
    let hw = in_values P p v w d hd (k, l', get_or_default (supports_of P v d) k w 0 l' ∙ sym w_is) in
    let hb : turned < P.dirs = omega (arith, is_back, opposite-in P p d hd) in
    let hn = in_cells P p c d n e in
    let raised = places_upto P c v d ++ take k (side_places P v d (Some n)) in
    let next : raised ++ counter_place P n w turned ∷ [] ≡ places_upto P c v d ++ take (k + 1) (side_places P v d (Some n)) =
    ap (λ x. raised ++ counter_place P n x turned ∷ []) w_is ∙ ap (λ x. raised ++ counter_place P n (get_or (supports_of P v d) k 0) x ∷ []) is_back ∙ next_lowered P c v d n k l' in
    let part : times (counter_place P n w turned) (raised ++ counter_place P n w turned ∷ []) ≤ times (counter_place P n w turned) (counter_places P c v) =
    omega (arith, ap (times (counter_place P n w turned)) next, part-le P c v d n (counter_place P n w turned) (k + 1) hd e) in
    let under : count_of T n w turned < support_count P E n w turned = omega (arith, h.counters.each n w turned hn hw hb, places-count P p E c v n w turned h.stood hw hb, times-push (counter_place P n w turned) raised (counter_place P n w turned), flag-is (counter_place P n w turned) (counter_place P n w turned) refl) in
    let few : count_of T n w turned < 4096 = omega (arith, support_count-few P p E n w turned hb) in
    let inside : count_place T.values T.dirs n w turned < length T.counts = omega (arith, place_in-lt (values P) P.dirs n w turned P.cells hn hw hb, place-is P T h.counters.fits n w turned, h.counters.fits.whole) in
    record {
      cell_in = hn;
      value_in = hw;
      dir_in = hb;
      below_limit = omega (arith, under, support_count-short P E n w turned, h.counters.fits.few w turned);
      fewer = fewer-raised T n w turned few inside;
      after = subst (λ ys. IsRaising P E c v ys (with_count T n w turned (entry_of T n w turned + 1))) next (record {
        problem = p;
        counters = raised-one P (less E c v) raised T n w turned h.counters hn hw hb few;
        stood = h.stood;
      });
    }

-- all raised, the counters count what stood before
pub all_raised : (P : Network) (E : Test) (c v d : ℕ) (T : Table) → IsRaising P E c v (places_upto P c v d) T → d ≡ P.dirs → AreLowered P E [] T
all_raised P E c v d T h e = record {
  fits = h.counters.fits;
  each = λ c' v' d' hc hv hd.
      let now = h.counters.each c' v' d' hc hv hd in
      let all = places-count P h.problem E c v c' v' d' h.stood hv hd in
      let same = ap (λ m. times (counter_place P c' v' d') (places_upto P c v m)) e in
      let none : times (counter_place P c' v' d') [] ≡ 0 = refl in
      omega arith;
}

pub raised_side : (P : Network) (E : Test) (c v d : ℕ) (o : Option ℕ) (T : Table) → neighbour P c d ≡ o → IsRaising P E c v (places_upto P c v d ++ side_places P v d o) T → IsRaising P E c v (places_upto P c v (d + 1)) T
raised_side P E c v d o T e h =
    let same : places_upto P c v d ++ side_places P v d o ≡ places_upto P c v (d + 1) = ap (λ x. places_upto P c v d ++ side_places P v d x) (sym e) ∙ ap (places_upto P c v) (sym (add-one d)) in
    subst (λ xs. IsRaising P E c v xs T) same h

pub raised_none : (P : Network) (E : Test) (c v d : ℕ) (T : Table) → neighbour P c d ≡ None → IsRaising P E c v (places_upto P c v d) T → IsRaising P E c v (places_upto P c v (d + 1)) T
raised_none P E c v d T e h = raised_side P E c v d None T e (subst (λ xs. IsRaising P E c v xs T) (sym (append-nil (places_upto P c v d))) h)
