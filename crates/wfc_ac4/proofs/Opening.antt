-- The opening: each pair is looked at once.
use Rattle.std.proofs.Common.{◌≡◌, ℕ, ◌+◌, ◌*◌, ◌/◌, ◌%◌, ◌<◌, ◌≤◌, List, [], ◌∷◌, ◌++◌, length, refl, sym, ◌∙◌, ap, subst, arith, Option, Some, None, inl, inr, ◌⊎◌}
use Rattle.std.specs.Prelude.{IsTrue, slice_get}
use Rattle.std.proofs.Math.Nat.{mul-le-mul_right}
use Rattle.std.proofs.lemmas.Bool.{cases_lt, cases_eq, and_from}
use Rattle.std.proofs.lemmas.List.FromFn.{get_or-map-range_with_len, length-map-range_with_len}
use Rattle.std.proofs.lemmas.List.{get_or_past}
use Rattle.std.proofs.lemmas.Nat.{same_from_place, mul-add-lt, div-mul-add, mod-mul-add}
use Rattle.wfc_problem.specs.Network.{Network, values, neighbour, supports_of, in_base, IsProblem}
use Rattle.wfc_problem.specs.Domains.{Test, Within, base_with, support_count}
use Rattle.wfc_log.specs.declared.Cause.TheVariants.{Arc}
use Rattle.wfc_log.specs.declared.Removal.{Removal}
use Rattle.wfc_log.specs.declared.Verdict.TheVariants.{Alive, Dead}
use Rattle.wfc_domains.specs.declared.board.Board.{Board}
use Rattle.wfc_log.specs.Domains.{Flags, has, size_of, less}
use Rattle.wfc_domains.specs.Counters.{entry_of, Table, FitsTable, count_of, counts_of, counters_of, counter_place}
use Rattle.wfc_domains.specs.Removals.{without, IsUnsupported}
use Rattle.wfc_domains.specs.Store.{left_of, IsOpening, IsLeastUnsupported, IsLeastEmpty, IsBefore}
use Rattle.wfc_domains.specs.Board.{view_of, IsTraced, IsFresh, Loses}
use Rattle.wfc_domains.proofs.Problems.{support_count-few, neighbour-dir, support_count-le}
use Rattle.wfc_domains.proofs.Places.{place_in-lt}
use Rattle.wfc_domains.proofs.Removals.{less-within, without-within}
use Rattle.wfc_domains.proofs.Boards.{board-board_without, stands-in, not-alive}
use Rattle.wfc_ac4.specs.Places.{times}
use Rattle.wfc_ac4.specs.State.{AreGone, AreLowered, IsBetweenRemovals, IsScanned}
use Rattle.wfc_ac4.proofs.MarkLemmas.{mod-small, gone-within}

-- ---- counters as they are loaded

pub loaded-fits : (P : Network) (D : Test) (limit : ℕ) → ((v d : ℕ) → length (supports_of P v d) ≤ limit) → FitsTable P (counts_of P D limit)
loaded-fits P D limit few = record {
  same_cells = refl;
  same_values = refl;
  same_dirs = refl;
  few = few;
  whole = length-map-range_with_len (λ i. support_count P D (i / P.dirs / values P) (i / P.dirs % values P) (i % P.dirs)) 0 (counters_of P);
}

loaded-entry : (P : Network) (D : Test) (limit c v d : ℕ) → c < P.cells → v < values P → d < P.dirs → entry_of (counts_of P D limit) c v d ≡ support_count P D c v d
loaded-entry P D limit c v d hc hv hd =
    let i = counter_place P c v d in
    let q : i / P.dirs ≡ c * values P + v = div-mul-add (c * values P + v) P.dirs d hd in
    let r : i % P.dirs ≡ d = mod-mul-add (c * values P + v) P.dirs d hd in
    let x : i / P.dirs / values P ≡ c = ap (λ k. k / values P) q ∙ div-mul-add c (values P) v hv in
    let y : i / P.dirs % values P ≡ v = ap (λ k. k % values P) q ∙ mod-mul-add c (values P) v hv in
    get_or-map-range_with_len (λ j. support_count P D (j / P.dirs / values P) (j / P.dirs % values P) (j % P.dirs)) 0 (counters_of P) i i 0 (place_in-lt (values P) P.dirs c v d P.cells hc hv hd) (omega arith)
    ∙ ap (λ a. support_count P D a (i / P.dirs % values P) (i % P.dirs)) x ∙ ap (λ a. support_count P D c a (i % P.dirs)) y ∙ ap (support_count P D c v) r

pub loaded-count : (P : Network) → IsProblem P → (D : Test) (limit c v d : ℕ) → c < P.cells → v < values P → d < P.dirs → count_of (counts_of P D limit) c v d ≡ support_count P D c v d
loaded-count P p D limit c v d hc hv hd =
    ap (λ x. x % 32768) (loaded-entry P D limit c v d hc hv hd) ∙ mod-small (support_count P D c v d) (omega (arith, support_count-few P p D c v d hd))

pub loaded-lowered : (P : Network) → IsProblem P → (D : Test) (T : Table) → ((v d : ℕ) → length (supports_of P v d) ≤ T.limit) → T ≡ counts_of P D T.limit → AreLowered P D [] T
loaded-lowered P p D T few e = subst (λ t. AreLowered P D [] t) (sym e) (record {
  fits = loaded-fits P D T.limit few;
  each = λ c v d hc hv hd.
      let now = loaded-count P p D T.limit c v d hc hv hd in
      let none : times (counter_place P c v d) [] ≡ 0 = refl in
      omega arith;
})

-- none is marked
pub loaded-gone : (P : Network) → IsProblem P → (D : Test) (E : Flags) (T : Table) → T ≡ counts_of P D T.limit → AreGone E T
loaded-gone P p D E T e = subst (AreGone E) (sym e) (λ c v d hv hd m. elim (cases_lt c P.cells) [
  | inl hc ↦ absurd (omega (arith, loaded-entry P D T.limit c v d hc hv hd, support_count-few P p D c v d hd))
  | inr past ↦
      let row : P.cells * values P ≤ c * values P = mul-le-mul_right (values P) past in
      let more : P.cells * values P ≤ c * values P + v = omega arith in
      let behind : counters_of P ≤ (c * values P + v) * P.dirs = mul-le-mul_right P.dirs more in
      absurd (omega (arith, get_or_past (counts_of P D T.limit).counts (counter_place P c v d) 0 (omega (arith, length-map-range_with_len (λ i. support_count P D (i / P.dirs / values P) (i / P.dirs % values P) (i % P.dirs)) 0 (counters_of P)))))
])

-- ---- one pair looked at

-- of the counters of the base, that of a value without support is 0
base-count : (b : Board) (T : Table) (c v d : ℕ) → AreLowered b.problem.now (in_base b.problem.now) [] T → c < b.problem.now.cells → v < values b.problem.now → d < b.problem.now.dirs → count_of T c v d ≡ support_count b.problem.now (in_base b.problem.now) c v d
base-count b T c v d h hc hv hd =
    let now = h.each c v d hc hv hd in
    let none : times (counter_place b.problem.now c v d) [] ≡ 0 = refl in
    omega arith

-- with nothing removed the domains are the base
base-stands : (b : Board) → IsTraced b → b.trail.removals ≡ [] → has b.domains ≡ in_base b.problem.now
base-stands b t e = t.stands ∙ ap (without (in_base b.problem.now)) e

-- nothing before the pair lacks a support
least-here : (b : Board) (T : Table) (cell value dir : ℕ) → IsScanned b T (cell * values b.problem.now + value) → b.verdict ≡ Alive → b.trail.removals ≡ []
    → ((e n : ℕ) → e < dir → neighbour b.problem.now cell e ≡ Some n → 0 < count_of T cell value e)
    → (c v d : ℕ) → IsTrue (in_base b.problem.now c v) → IsUnsupported b.problem.now (in_base b.problem.now) c v d → IsBefore c v d cell value dir → ⊥
least-here b T cell value dir h alive none earlier c v d t bare before =
    let P = b.problem.now in
    let stands : IsTrue (has b.domains c v) = ap (λ f. f c v) (base-stands b h.board.traced none) ∙ t in
    let range = stands-in b h.board.traced c v stands in
    let is = base-count b T c v d h.counters range.0 range.1 (neighbour-dir P c d bare.next bare.beside) in
    let zero' : count_of T c v d ≡ 0 = is ∙ bare.none in
    elim before [
      | inl l ↦
          let row : (c + 1) * values P ≤ cell * values P = mul-le-mul_right (values P) (let z : c + 1 ≤ cell = omega arith in z) in
          let pos = h.supported alive c v d bare.next (omega (arith, row, range.1)) stands bare.beside in
          absurd (omega arith)
      | inr same ↦ elim same.1 [
        | inl l ↦
            let row = ap (λ x. x * values P) same.0 in
            let pos = h.supported alive c v d bare.next (omega arith) stands bare.beside in
            absurd (omega arith)
        | inr both ↦
            let pos = earlier d bare.next both.1 (ap (λ x. neighbour P x d) (sym same.0) ∙ bare.beside) in
            let eq = ap (λ x. count_of T x v d) same.0 ∙ ap (λ x. count_of T cell x d) both.0 in
            absurd (omega arith)
      ]
    ]

first-push : (rs : List Removal) (r first : Removal) → slice_get (rs ++ r ∷ []) 0 ≡ Some first → (slice_get rs 0 ≡ Some first) ⊎ ((rs ≡ []) × (r ≡ first))
first-push [] r first e = inr (refl, some e)
  where
    some : Some r ≡ Some first → r ≡ first
    some e = cc
first-push (x ∷ rs) r first e = inl e

pub scanned-removed : (b b' : Board) (T : Table) (cell value dir next : ℕ) → IsScanned b T (cell * values b.problem.now + value) → b.verdict ≡ Alive
    → cell < b.problem.now.cells → value < values b.problem.now → dir < b.problem.now.dirs → neighbour b.problem.now cell dir ≡ Some next → count_of T cell value dir ≡ 0
    → ((e n : ℕ) → e < dir → neighbour b.problem.now cell e ≡ Some n → 0 < count_of T cell value e)
    → Loses b b' cell value (Arc dir) → IsScanned b' T (cell * values b'.problem.now + value)
scanned-removed b b' T cell value dir next h alive hc hv hd beside zero' earlier loses =
    let P = b.problem.now in
    let rs = b.trail.removals in
    let D = b'.domains in
    let l = loses.less in
    let r : Removal = record { cell = cell; value = value; before = size_of b.domains cell; cause = Arc dir } in
    let le = support_count-le P (left_of (view_of b)) (in_base P) cell value dir (without-within (in_base P) rs) in
    let bare : IsUnsupported P (left_of (view_of b)) cell value dir = record { next = next; beside = beside; none = omega (arith, base-count b T cell value dir h.counters hc hv hd) } in
    let left_cut : Within (left_of (view_of b)) (base_with P b.levels.standing) = λ x y t. h.cut alive x y (ap (λ f. f x y) h.board.traced.stands ∙ t) in
    let within' : Within (has D) (has b.domains) = λ c' v' t. less-within (has b.domains) cell value c' v' (ap (λ f. f c' v') (sym l.each) ∙ t) in
    subst (λ (x : Board). IsScanned x T (cell * values x.problem.now + value)) (sym loses.same) (record {
      board = board-board_without b D cell value (Arc dir) h.board alive l hc hv (left_cut, bare);
      cut = λ _ x y t. h.cut alive x y (within' x y t);
      counters = h.counters;
      marks = gone-within b.domains D T h.marks within';
      supported = λ _ c v d n i t e. h.supported alive c v d n i (within' c v t) e;
      first = λ f e. elim (first-push rs r f e) [
        | inl old ↦ h.first f old
        | inr new ↦ subst (λ x. IsLeastUnsupported P (in_base P) x) new.1 (record { dir = dir; arc = refl; least = least-here b T cell value dir h alive new.0 earlier })
      ];
    })

pub scanned-next : (b : Board) (T : Table) (c v : ℕ) → IsScanned b T (c * values b.problem.now + v) → v < values b.problem.now
    → (b.verdict ≡ Alive → IsTrue (has b.domains c v) → (d n : ℕ) → neighbour b.problem.now c d ≡ Some n → 0 < count_of T c v d) → IsScanned b T (c * values b.problem.now + v + 1)
scanned-next b T c v h hv here = record {
  board = h.board;
  cut = h.cut;
  counters = h.counters;
  marks = h.marks;
  supported = λ alive c' v' d n l t e. elim (cases_eq (c' * values b.problem.now + v') (c * values b.problem.now + v)) [
    | inl same ↦
        let range = stands-in b h.board.traced c' v' t in
        let which = same_from_place c' v' c v (values b.problem.now) range.1 hv same in
        let pos = here alive (sym (ap (λ x. has b.domains x v') which.0 ∙ ap (has b.domains c) which.1) ∙ t) d n (sym (ap (λ x. neighbour b.problem.now x d) which.0) ∙ e) in
        let eq = ap (λ x. count_of T x v' d) which.0 ∙ ap (λ x. count_of T c x d) which.1 in
        omega arith
    | inr ne ↦ h.supported alive c' v' d n (omega arith) t e
  ];
  first = h.first;
}

-- a cell whose values all have support in each direction needs no look
pub scanned-row : (b : Board) (T : Table) (cell : ℕ) → IsScanned b T (cell * values b.problem.now) → ((v d : ℕ) → v < T.values → d < T.dirs → 0 < count_of T cell v d) → IsScanned b T ((cell + 1) * values b.problem.now)
scanned-row b T cell h here = record {
  board = h.board;
  cut = h.cut;
  counters = h.counters;
  marks = h.marks;
  supported = λ alive c v d n l t e.
      let P = b.problem.now in
      let range = stands-in b h.board.traced c v t in
      elim (cases_lt (c * values P + v) (cell * values P)) [
        | inl before ↦ h.supported alive c v d n before t e
        | inr after ↦
            let same : c ≡ cell = cell-is P c v cell range.1 after l in
            let pos = here v d (omega (arith, range.1, h.counters.fits.same_values)) (omega (arith, neighbour-dir P c d n e, h.counters.fits.same_dirs)) in
            let eq = ap (λ x. count_of T x v d) same in
            omega arith
      ];
  first = h.first;
}
  where
    cell-is : (P : Network) (c v cell : ℕ) → v < values P → cell * values P ≤ c * values P + v → c * values P + v < (cell + 1) * values P → c ≡ cell
    cell-is P c v cell hv low high = elim (cases_lt c cell) [
      | inl less ↦ let rows : (c + 1) * values P ≤ cell * values P = mul-le-mul_right (values P) (let z : c + 1 ≤ cell = omega arith in z) in absurd (omega arith)
      | inr at_least ↦ elim (cases_lt cell c) [
        | inl more ↦ let rows : (cell + 1) * values P ≤ c * values P = mul-le-mul_right (values P) (let z : cell + 1 ≤ c = omega arith in z) in absurd (omega arith)
        | inr at_most ↦ omega arith
      ]
    ]

pub scanned-at : (b : Board) (T : Table) (i j : ℕ) → IsScanned b T i → i ≡ j → IsScanned b T j
scanned-at b T i j h e = subst (IsScanned b T) e h

-- all looked at, nothing is worked off
pub scanned-done : (b : Board) (T : Table) → IsScanned b T (b.problem.now.cells * values b.problem.now) → IsBetweenRemovals b T 0
scanned-done b T h = record {
  board = h.board;
  cut = h.cut;
  counters = h.counters;
  marks = h.marks;
  supported = λ alive c v d n t e.
      let range = stands-in b h.board.traced c v t in
      h.supported alive c v d n (omega (arith, mul-add-lt c (values b.problem.now) v b.problem.now.cells range.0 range.1)) t e;
  in_log = omega arith;
}

-- before the first look
pub scanned-none : (b : Board) (T : Table) (spare : ℕ) → IsFresh b spare → FitsTable b.problem.now T → T ≡ counts_of b.problem.now (has b.domains) T.limit → IsScanned b T 0
scanned-none b T spare f fits e = record {
  board = f.board;
  cut = λ _ c v t. subst (λ ls. IsTrue (base_with b.problem.now ls c v)) (sym (ap (λ l. l.standing) f.levels)) (and_from _ _ (ap (λ g. g c v) (sym base) ∙ t) refl);
  counters = loaded-lowered b.problem.now f.board.traced.problem (in_base b.problem.now) T fits.few (e ∙ ap (λ D. counts_of b.problem.now D T.limit) base);
  marks = loaded-gone b.problem.now f.board.traced.problem (has b.domains) b.domains T e;
  supported = λ alive c v d n l. absurd (omega arith);
  first = λ r g. absurd (no_first (sym (ap (λ rs. slice_get rs 0) f.removals) ∙ g));
}
  where
    base : has b.domains ≡ in_base b.problem.now
    base = base-stands b f.board.traced f.removals

    no_first : {r : Removal} → ◌≡◌ {A = Option Removal} None (Some r) → ⊥
    no_first e = cc

-- ---- an opening closed

-- a longer log begins with the same removal
pub first-grown : (rs more : List Removal) (r : Removal) → slice_get (rs ++ more) 0 ≡ Some r → (rs ≡ [] → more ≡ []) → slice_get rs 0 ≡ Some r
first-grown [] more r e none = absurd (no_first (sym (ap (λ xs. slice_get xs 0) (none refl)) ∙ e))
  where
    no_first : ◌≡◌ {A = Option Removal} None (Some r) → ⊥
    no_first e = cc
first-grown (x ∷ rs) more r e none = e

-- after a scan of an alive board and a closing of what it found
pub opening-closed : (a s n : Board) (spare : ℕ) → IsFresh a spare → a.verdict ≡ Alive → s.problem ≡ a.problem → n.problem ≡ s.problem
    → ((r : Removal) → slice_get s.trail.removals 0 ≡ Some r → IsLeastUnsupported s.problem.now (in_base s.problem.now) r)
    → (more : List Removal) → n.trail.removals ≡ s.trail.removals ++ more → (s.trail.removals ≡ [] → n.trail.removals ≡ [])
    → IsOpening n.problem.now n.trail.removals n.verdict
opening-closed a s n spare f alive same_s same_n first more e idle = record {
  empty = λ cell least. absurd (not-alive (sym (is_dead cell least) ∙ alive));
  first = λ r g. subst (λ P. IsLeastUnsupported P (in_base P) r) (sym (ap (λ p. p.now) same_n))
      (first r (first-grown s.trail.removals more r (sym (ap (λ xs. slice_get xs 0) e) ∙ g) (λ none. more-none none (sym (idle none) ∙ e))));
}
  where
    P-same : n.problem.now ≡ a.problem.now
    P-same = ap (λ p. p.now) (same_n ∙ same_s)

    is_dead : (cell : ℕ) → IsLeastEmpty n.problem.now (in_base n.problem.now) cell → a.verdict ≡ Dead cell
    is_dead cell least = (f.opening.empty cell (subst (λ P. IsLeastEmpty P (in_base P) cell) P-same least)).1

    more-none : s.trail.removals ≡ [] → [] ≡ s.trail.removals ++ more → more ≡ []
    more-none none g = sym (ap (λ xs. xs ++ more) none) ∙ sym g

-- a dead board is as it was opened
pub between-dead : (b : Board) (T : Table) (spare : ℕ) → IsFresh b spare → (b.verdict ≡ Alive → ⊥) → FitsTable b.problem.now T → T ≡ counts_of b.problem.now (has b.domains) T.limit → IsBetweenRemovals b T 0
between-dead b T spare f dead fits e =
    let s = scanned-none b T spare f fits e in
    record { board = s.board; cut = s.cut; counters = s.counters; supported = λ alive. absurd (dead alive); marks = s.marks; in_log = omega arith }

pub between-at : (b : Board) (T : Table) (i j : ℕ) → IsBetweenRemovals b T i → i ≡ j → IsBetweenRemovals b T j
between-at b T i j h e = subst (IsBetweenRemovals b T) e h

-- the spare levels of a fresh board are its own
pub fresh-own : (b : Board) (spare : ℕ) → IsFresh b spare → IsFresh b b.levels.spare
fresh-own b spare f = subst (IsFresh b) (sym (ap (λ l. l.spare) f.levels)) f
