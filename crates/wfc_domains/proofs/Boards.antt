-- A board after a removal, under one literal more, and with its last removal taken back.
use Rattle.std.proofs.Common.{◌≡◌, ◌≢◌, ℕ, ◌+◌, ◌-◌, ◌<◌, ◌≤◌, false, cond, List, [], ◌∷◌, ◌++◌, length, get_or, take, drop, refl, sym, ◌∙◌, ap, subst, arith, inl, inr}
use Rattle.std.specs.Prelude.{not, ◌&&◌, ◌==◌, IsTrue, Some, filter, slice_get, slice_index}
use Rattle.std.specs.List.{range_with_len}
use Rattle.std.proofs.lemmas.List.FromFn.{get_or-map-range_with_len}
use Rattle.std.proofs.lemmas.Bool.{cases_lt, cases_eq, false_from_ne_true, cond-true, cond-false, eq-eqb, ne_eqb}
use Rattle.std.proofs.lemmas.List.{take-append-le, drop-append-le, length-append, length_push, take_at, take_all, drop_all, get_or-drop, get_or_append_left, get_or_push, get_or_past, length-drop, append_assoc, append-nil}
use Rattle.std.proofs.lemmas.Option.{get_or_from_slice_get, slice_get-get_or, slice_get_within}
use Rattle.wfc_problem.specs.Network.{Network, values, in_base, IsProblem}
use Rattle.wfc_problem.specs.Domains.{Test, Within}
use Rattle.wfc_problem.specs.Rounds.{depth_of}
use Rattle.wfc_problem.specs.Sizes.{is_dead, size_at}
use Rattle.wfc_problem.specs.declared.Literal.{Literal}
use Rattle.wfc_log.specs.declared.Cause.{Cause}
use Rattle.wfc_log.specs.declared.Removal.{Removal}
use Rattle.wfc_log.specs.declared.Verdict.{Verdict}
use Rattle.wfc_log.specs.declared.Verdict.TheVariants.{Alive, Dead}
use Rattle.wfc_domains.specs.declared.board.Board.{Board}
use Rattle.wfc_log.specs.Domains.{Flags, has, size_of, less, IsLess, base_of}
use Rattle.wfc_log.specs.Log.{extent_of, IsInside, IsCauseBelow, IsLogged, cells_of, sizes_after}
use Rattle.wfc_domains.specs.Removals.{without, IsCause, IsRemoved, AreRemoved}
use Rattle.wfc_domains.specs.Store.{StoreView, IsSound, IsLongLevel, level_mark, list_limit, left_of, added_of, before_of}
use Rattle.wfc_domains.specs.Board.{view_of, AreStood, IsTraced, HasLevels, HasValues, IsBoard, IsListed, IsFresh, board_without, Grows}
use Rattle.wfc_domains.proofs.Problems.{base-in, base_table, depth-few, few_pairs, dead-iff, empty-size}
use Rattle.wfc_domains.proofs.SizeLemmas.{stood-sizes}
use Rattle.wfc_domains.proofs.Removals.{less-gone, less-back, without-within, without-append, without-push, without-split, without-in, stood-push, stood-front, stood-room, stood-few, size-less, size-other, removed-push}

-- ---- sizes

-- the size of a cell of the problem's domains
pub size-at : (P : Network) (D : Flags) (E : Test) (c : ℕ) → D.values ≡ values P → has D ≡ E → size_of D c ≡ size_at P E c
size-at P D E c e f = ap (λ n. length (filter (has D c) (range_with_len 0 n))) e ∙ ap (λ T. size_at P T c) f

-- without a value a cell has one less
pub size-smaller : (P : Network) (D D' : Flags) (c v : ℕ) → D.values ≡ values P → v < values P → IsLess D D' c v → size_of D' c + 1 ≡ size_of D c
size-smaller P D D' c v e hv l =
    let new = size-at P D' (less (has D) c v) c (l.same_values ∙ e) l.each in
    let old = size-at P D (has D) c e refl in
    let falls = size-less P (has D) c v hv l.stood in
    omega arith

-- and others as many as before
pub size-others : (P : Network) (D D' : Flags) (c v n : ℕ) → D.values ≡ values P → IsLess D D' c v → n ≢ c → size_of D' n ≡ size_of D n
size-others P D D' c v n e l ne =
    size-at P D' (less (has D) c v) n (l.same_values ∙ e) l.each ∙ size-other P (has D) c v n ne ∙ sym (size-at P D (has D) n e refl)

-- ---- marks

-- the last mark is in the log
pub mark-in : (v : StoreView) → HasLevels v → level_mark v.marks ≤ length v.removals
mark-in v h = elim (cases_lt 0 (length v.marks)) [
  | inl some ↦ h.in_log (length v.marks - 1) (omega arith)
  | inr none ↦ let z = get_or_past v.marks (length v.marks - 1) 0 (omega arith) in omega arith
]

-- a longer log has the same levels
pub levels-longer : (v : StoreView) (more : List Removal) (verdict : Verdict) → HasLevels v → HasLevels (record v { removals = v.removals ++ more; verdict = verdict })
levels-longer v more verdict h = record {
  one_mark_each = h.one_mark_each;
  ordered = h.ordered;
  in_log = λ k l. omega (arith, h.in_log k l, length-append v.removals more);
  sound_at = λ k spare l.
      let Q : List Removal → Type 0 = λ rs. IsSound (record { problem = v.problem; standing = take k v.standing; spare = spare; removals = rs; marks = take k v.marks; verdict = Alive }) in
      subst Q (sym (take-append-le (slice_index v.marks k) v.removals more (h.in_log k l))) (h.sound_at k spare l);
}

-- ---- a value less

pub some-dead : {a b : ℕ} → Dead a ≡ Dead b → a ≡ b
some-dead e = cc

pub not-alive : {a : ℕ} → Dead a ≡ Alive → ⊥
not-alive e = cc

-- the domains of a board lie within the base
pub left-within : (b : Board) → Within (left_of (view_of b)) (in_base b.problem.now)
left-within b = without-within (in_base b.problem.now) b.trail.removals

-- where each cell has a value none is empty
pub left-filled : (b : Board) → IsTraced b → HasValues b → is_dead b.problem.now (left_of (view_of b)) ≡ false
left-filled b t filled = false_from_ne_true _ (λ e.
    let P = b.problem.now in
    let dead = (dead-iff P t.problem (left_of (view_of b)) (left-within b)).0 e in
    let pos = filled dead.0 dead.1 in
    let same = size-at P b.domains (left_of (view_of b)) dead.0 t.same_values t.stands in
    let none = empty-size P (left_of (view_of b)) dead.0 dead.2 in
    omega arith)

-- the removal is one from what is left
pub removal-is : (b : Board) (D : Flags) (cell value : ℕ) (cause : Cause) → IsTraced b → HasValues b → IsLess b.domains D cell value
    → IsCause b.problem.now b.levels.standing (left_of (view_of b)) cell value cause
    → IsRemoved b.problem.now b.levels.standing (left_of (view_of b)) (record { cell = cell; value = value; before = size_of b.domains cell; cause = cause })
removal-is b D cell value cause t filled l k = record {
  filled = left-filled b t filled;
  stood = ap (λ f. f cell value) (sym t.stands) ∙ l.stood;
  before = size-at b.problem.now b.domains (left_of (view_of b)) cell t.same_values t.stands;
  cause = k;
}

pub traced-board_without : (b : Board) (D : Flags) (cell value : ℕ) (cause : Cause) → IsTraced b → IsLess b.domains D cell value → IsTraced (board_without b D cell value cause)
traced-board_without b D cell value cause t l =
    let r : Removal = record { cell = cell; value = value; before = size_of b.domains cell; cause = cause } in
    record {
      problem = t.problem;
      same_cells = l.same_cells ∙ t.same_cells;
      same_values = l.same_values ∙ t.same_values;
      whole = l.same_length ∙ t.whole;
      stands = l.each ∙ ap (λ E. less E cell value) t.stands ∙ sym (without-push (in_base b.problem.now) b.trail.removals r);
      stood = stood-push (in_base b.problem.now) b.trail.removals r t.stood (ap (λ f. f cell value) (sym t.stands) ∙ l.stood);
      room = t.room;
      extent = t.extent;
    }

pub board-board_without : (b : Board) (D : Flags) (cell value : ℕ) (cause : Cause) → IsBoard b → b.verdict ≡ Alive → IsLess b.domains D cell value → cell < b.problem.now.cells → value < values b.problem.now
    → IsCause b.problem.now b.levels.standing (left_of (view_of b)) cell value cause → IsBoard (board_without b D cell value cause)
board-board_without b D cell value cause h alive l hc hv k =
    let P = b.problem.now in
    let rs = b.trail.removals in
    let r : Removal = record { cell = cell; value = value; before = size_of b.domains cell; cause = cause } in
    let m = level_mark b.levels.marks in
    let m_in = mark-in (view_of b) h.levels in
    let smaller = size-smaller P b.domains D cell value h.traced.same_values hv l in
    let left : without (without (in_base P) (take m rs)) (drop m rs) ≡ left_of (view_of b) = without-split (in_base P) rs m in
    let here : IsRemoved P b.levels.standing (without (without (in_base P) (take m rs)) (drop m rs)) r = subst (λ E. IsRemoved P b.levels.standing E r) (sym left) (removal-is b D cell value cause h.traced (h.filled alive) l k) in
    let more = removed-push P b.levels.standing (without (in_base P) (take m rs)) (drop m rs) r h.added here in
    let A : List Removal → List Removal → Type 0 = λ front back. AreRemoved P b.levels.standing (without (in_base P) front) back in
    record {
      traced = traced-board_without b D cell value cause h.traced l;
      levels = levels-longer (view_of b) (r ∷ []) (cond (size_of b.domains cell == 1) (Dead cell) Alive) h.levels;
      added = subst (λ front. A front (drop m (rs ++ r ∷ []))) (sym (take-append-le m rs (r ∷ []) m_in)) (subst (A (take m rs)) (sym (drop-append-le m rs (r ∷ []) m_in)) more);
      filled = λ still c hc'. elim (cases_eq c cell) [
        | inl e ↦
            let big : size_of b.domains cell ≢ 1 = λ one. not-alive (sym (cond-true _ _ _ (eq-eqb _ _ one)) ∙ still) in
            let was = h.filled alive cell hc in
            let same = ap (size_of D) e in
            omega arith
        | inr ne ↦ let was = h.filled alive c hc' in omega (arith, size-others P b.domains D cell value c h.traced.same_values l ne)
      ];
      empty = λ c e. elim (cases_eq (size_of b.domains cell) 1) [
        | inl one ↦
            let which : cell ≡ c = some-dead (sym (cond-true _ _ _ (eq-eqb _ _ one)) ∙ e) in
            (omega (arith, which), let same = ap (size_of D) which in omega arith)
        | inr big ↦ absurd (not-alive (sym e ∙ cond-false _ _ _ (ne_eqb _ _ big)))
      ];
    }

-- ---- a literal more

-- a sound store is as sound with another number of spare levels
sound-spare : (v : StoreView) (spare : ℕ) → IsSound v → IsSound (record v { spare = spare })
sound-spare v spare s = record { problem = s.problem; marked = s.marked; verdict = s.verdict; began = s.began; added = s.added; opening = s.opening }

pub levels-put : (v : StoreView) (l : Literal) (spare : ℕ) → HasLevels v → IsSound v → v.verdict ≡ Alive
    → HasLevels (record v { standing = v.standing ++ l ∷ []; marks = v.marks ++ length v.removals ∷ []; spare = spare })
levels-put v l spare h sound alive = record {
  one_mark_each = omega (arith, h.one_mark_each, length_push v.standing l, length_push v.marks n);
  ordered = λ j k jk hk. elim (cases_lt k (length v.marks)) [
    | inl i ↦ omega (arith, h.ordered j k jk i, old k i, old j (omega arith))
    | inr i ↦
        let last : k ≡ length v.marks = omega (arith, length_push v.marks n) in
        omega (arith, new k last, old j (omega arith), h.in_log j (omega arith))
  ];
  in_log = λ k hk. elim (cases_lt k (length v.marks)) [
    | inl i ↦ omega (arith, h.in_log k i, old k i)
    | inr i ↦ omega (arith, new k (omega (arith, length_push v.marks n)))
  ];
  sound_at = λ k s hk. elim (cases_lt k (length v.marks)) [
    | inl i ↦
        move s (h.sound_at k s i)
        (sym (take-append-le k v.standing (l ∷ []) (omega (arith, h.one_mark_each))))
        (sym (ap (λ x. take x v.removals) (old k i)))
        (sym (take-append-le k v.marks (n ∷ []) (omega arith)))
    | inr i ↦
        let last : k ≡ length v.marks = omega (arith, length_push v.marks n) in
        move s (subst (λ o. IsSound (record v { spare = s; verdict = o })) alive (sound-spare v s sound))
        (sym (take_at v.standing (l ∷ []) k (omega (arith, h.one_mark_each))))
        (sym (take_all (slice_index (v.marks ++ n ∷ []) k) v.removals (omega (arith, new k last))))
        (sym (take_at v.marks (n ∷ []) k (omega arith)))
  ];
}
  where
    n : ℕ
    n = length v.removals

    old : (k : ℕ) → k < length v.marks → slice_index (v.marks ++ n ∷ []) k ≡ slice_index v.marks k
    old k i = get_or_append_left v.marks (n ∷ []) 0 k i

    new : (k : ℕ) → k ≡ length v.marks → slice_index (v.marks ++ n ∷ []) k ≡ n
    new k i = get_or_push v.marks n 0 k (sym i)

    move : (s : ℕ) {ls ls' : List Literal} {rs rs' : List Removal} {ms ms' : List ℕ}
        → IsSound (record { problem = v.problem; standing = ls; spare = s; removals = rs; marks = ms; verdict = Alive }) → ls ≡ ls' → rs ≡ rs' → ms ≡ ms'
        → IsSound (record { problem = v.problem; standing = ls'; spare = s; removals = rs'; marks = ms'; verdict = Alive })
    move s {ls} {ls'} {rs} {rs'} {ms} {ms'} sound a b c =
        subst (λ x. IsSound (record { problem = v.problem; standing = ls'; spare = s; removals = rs'; marks = x; verdict = Alive })) c
        (subst (λ x. IsSound (record { problem = v.problem; standing = ls'; spare = s; removals = x; marks = ms; verdict = Alive })) b
        (subst (λ x. IsSound (record { problem = v.problem; standing = x; spare = s; removals = rs; marks = ms; verdict = Alive })) a sound))

-- the last mark of one more
pub mark-push : (marks : List ℕ) (n : ℕ) → level_mark (marks ++ n ∷ []) ≡ n
mark-push marks n = get_or_push marks n 0 (length (marks ++ n ∷ []) - 1) (omega (arith, length_push marks n))

-- ---- where the list of the log begins

-- a long level stays long
pub long-grown : (a b : Board) → IsLongLevel (view_of a) → Grows a b → IsLongLevel (view_of b)
long-grown a b long g =
    let m = ap (λ l. level_mark l.marks) g.levels in
    omega (
      arith,
      ap (λ p. list_limit p.now) g.problem,
      length-drop (level_mark a.levels.marks) a.trail.removals,
      length-drop (level_mark b.levels.marks) b.trail.removals,
      ap length g.removals,
      length-append a.trail.removals g.more,
      m,
    )

-- a list that begins with the last level does so while that level grows
pub listed-grown : (a b : Board) → IsListed a → Grows a b → b.trail.start ≡ a.trail.start → IsListed b
listed-grown a b listed g start = elim listed [
  | inl same ↦ inl (start ∙ same ∙ sym (ap (λ l. level_mark l.marks) g.levels))
  | inr long ↦ inr (long-grown a b long g)
]

-- a fresh board's list begins with its first level
pub listed-fresh : (b : Board) (spare : ℕ) → IsFresh b spare → IsListed b
listed-fresh b spare f = inl (f.begun ∙ sym (ap (λ l. level_mark l.marks) f.levels))

-- and so does that of one that grew from it
pub listed-fresh-grown : (a b : Board) (spare : ℕ) → IsFresh a spare → Grows a b → b.trail.start ≡ a.trail.start → IsListed b
listed-fresh-grown a b spare f g start = listed-grown a b (listed-fresh a spare f) g start

-- a new level begins a list
pub listed-begun : (b : Board) (marks : List ℕ) (n : ℕ) → b.levels.marks ≡ marks ++ n ∷ [] → b.trail.start ≡ n → IsListed b
listed-begun b marks n e start = inl (start ∙ sym (ap level_mark e ∙ mark-push marks n))

-- where as many removals leave the list as it may have, the level is long
pub listed-settled : (b : Board) (count : ℕ) → IsListed b → count ≡ list_limit b.problem.now → b.trail.start + count ≤ length b.trail.removals
    → IsListed (record b { trail = record b.trail { start = b.trail.start + count } })
listed-settled b count listed limit within = elim listed [
  | inl same ↦ inr (omega (arith, length-drop (level_mark b.levels.marks) b.trail.removals))
  | inr long ↦ inr long
]

-- ---- the board under one literal more

-- before it cuts
pub board-put : (b : Board) (l : Literal) (spare : ℕ) → IsBoard b → IsSound (view_of b) → b.verdict ≡ Alive
    → IsBoard (record b { levels = record { standing = b.levels.standing ++ l ∷ []; marks = b.levels.marks ++ length b.trail.removals ∷ []; spare = spare }; trail = record b.trail { start = length b.trail.removals } })
board-put b l spare h sound alive = record {
  traced = record {
    problem = h.traced.problem;
    same_cells = h.traced.same_cells;
    same_values = h.traced.same_values;
    whole = h.traced.whole;
    stands = h.traced.stands;
    stood = h.traced.stood;
    room = h.traced.room;
    extent = h.traced.extent;
  };
  levels = levels-put (view_of b) l spare h.levels sound alive;
  added =
      let rs = b.trail.removals in
      let m = level_mark (b.levels.marks ++ length rs ∷ []) in
      let none : drop m rs ≡ [] = drop_all m rs (omega (arith, mark-push b.levels.marks (length rs))) in
      subst (λ xs. AreRemoved b.problem.now (b.levels.standing ++ l ∷ []) (without (in_base b.problem.now) (take m rs)) xs) (sym none) tt;
  filled = h.filled;
  empty = h.empty;
}

-- ---- the last removal taken back

-- what the last removal says
pub record IsLast (b : Board) (rs : List Removal) (r : Removal) : Type 0 where
  pub cell_in : r.cell < b.problem.now.cells
  pub value_in : r.value < values b.problem.now
  pub stood : IsTrue (without (in_base b.problem.now) rs r.cell r.value)
  pub gone : has b.domains r.cell r.value ≡ false

pub last-is : (b : Board) (rs : List Removal) (r : Removal) → IsTraced b → b.trail.removals ≡ rs ++ r ∷ [] → IsLast b rs r
last-is b rs r t e =
    let P = b.problem.now in
    let s = (stood-front (in_base P) rs r (subst (AreStood (in_base P)) e t.stood)).1 in
    let range = without-in P t.problem rs r.cell r.value s in
    record {
      cell_in = range.0;
      value_in = range.1;
      stood = s;
      gone = ap (λ f. f r.cell r.value) (t.stands ∙ ap (without (in_base P)) e ∙ without-push (in_base P) rs r) ∙ less-gone (without (in_base P) rs) r.cell r.value;
    }

pub traced-back : (b : Board) (D : Flags) (rs : List Removal) (r : Removal) (start : ℕ) → IsTraced b → b.trail.removals ≡ rs ++ r ∷ [] → IsLess D b.domains r.cell r.value
    → IsTraced (record b { domains = D; trail = record b.trail { start = start; removals = rs } })
traced-back b D rs r start t e l =
    let P = b.problem.now in
    let front = stood-front (in_base P) rs r (subst (AreStood (in_base P)) e t.stood) in
    record {
      problem = t.problem;
      same_cells = sym l.same_cells ∙ t.same_cells;
      same_values = sym l.same_values ∙ t.same_values;
      whole = sym l.same_length ∙ t.whole;
      stands = less-back (has D) (without (in_base P) rs) r.cell r.value (sym l.each ∙ t.stands ∙ ap (without (in_base P)) e ∙ without-push (in_base P) rs r) l.stood front.1;
      stood = front.0;
      room = t.room;
      extent = t.extent;
    }

-- ---- growing

pub grows-none : (b : Board) → Grows b b
grows-none b = record { problem = refl; levels = refl; more = []; removals = sym (append-nil b.trail.removals); room = refl }

pub grows-more : {a b c : Board} → Grows a b → Grows b c → Grows a c
grows-more {a} {b} {c} f g = record {
  problem = g.problem ∙ f.problem;
  levels = g.levels ∙ f.levels;
  more = f.more ++ g.more;
  removals = g.removals ∙ ap (λ xs. xs ++ g.more) f.removals ∙ append_assoc a.trail.removals f.more g.more;
  room = g.room ∙ f.room;
}

pub grows-board_without : (b : Board) (D : Flags) (cell value : ℕ) (cause : Cause) → Grows b (board_without b D cell value cause)
grows-board_without b D cell value cause = record { problem = refl; levels = refl; more = record { cell = cell; value = value; before = size_of b.domains cell; cause = cause } ∷ []; removals = refl; room = refl }

-- ---- room

-- where each cell has a value there is room for a removal
pub board-room : (b : Board) → IsTraced b → HasValues b → length b.trail.removals < b.trail.room
board-room b t filled =
    let P = b.problem.now in
    let left = left_of (view_of b) in
    omega (arith, stood-room P t.problem b.trail.removals t.stood (λ c l. omega (arith, filled c l, size-at P b.domains left c t.same_values t.stands)), t.room)

-- a log has at most as many removals as there are pairs
pub log-depth : (b : Board) → IsTraced b → length b.trail.removals ≤ depth_of b.problem.now
log-depth b t = omega (arith, stood-few b.problem.now (in_base b.problem.now) b.trail.removals (λ c v s. base-in b.problem.now t.problem c v s) t.stood)

-- a log is not long
pub log-few : (b : Board) → IsTraced b → length b.trail.removals ≤ 8388608
log-few b t =
    let P = b.problem.now in
    omega (arith, stood-few P (in_base P) b.trail.removals (λ c v s. base-in P t.problem c v s) t.stood, depth-few P t.problem, few_pairs P t.problem)

-- a value that stands is one of the problem
pub stands-in : (b : Board) → IsTraced b → (c v : ℕ) → IsTrue (has b.domains c v) → (c < b.problem.now.cells) × (v < values b.problem.now)
stands-in b t c v stands = without-in b.problem.now t.problem b.trail.removals c v (ap (λ f. f c v) (sym t.stands) ∙ stands)

-- the sizes that the log left are those of the domains
board-sizes : (b : Board) → IsTraced b → (c : ℕ) → c < b.problem.now.cells → size_of b.domains c ≡ slice_index (sizes_after b.trail.extent.sizes (cells_of b.trail.removals)) c
board-sizes b t c hc =
    let P = b.problem.now in
    let rs = b.trail.removals in
    let E = without (in_base P) rs in
    size-at P b.domains E c t.same_values t.stands
    ∙ sym (get_or-map-range_with_len (size_at P E) 0 P.cells c c 0 hc (omega arith))
    ∙ sym (ap (λ s. slice_index s c) (ap (λ e. sizes_after e.sizes (cells_of rs)) t.extent ∙ stood-sizes P (in_base P) rs (λ k v s. base-in P t.problem k v s) t.stood))

-- the removal of a value that stands can be logged
pub board-logged : (b : Board) → IsTraced b → (c v : ℕ) (cause : Cause) → IsTrue (has b.domains c v) → IsCauseBelow b.problem.now.dirs cause
    → IsLogged b.trail.extent (sizes_after b.trail.extent.sizes (cells_of b.trail.removals)) (record { cell = c; value = v; before = size_of b.domains c; cause = cause })
board-logged b t c v cause stands hd =
    let P = b.problem.now in
    let range = stands-in b t c v stands in
    let falls = size-less P (has b.domains) c v range.1 stands in
    record {
      inside = subst (λ e. IsInside e c v cause) (sym t.extent) (record { cell_in = range.0; value_in = range.1; cause_in = hd });
      before = board-sizes b t c range.0;
      some = omega (arith, falls, size-at P b.domains (has b.domains) c t.same_values refl);
    }

-- what was removed is gone, and what was gone stays so
pub board_without-gone : {D D' : Flags} {c v : ℕ} → IsLess D D' c v → has D' c v ≡ false
board_without-gone {D} {D'} {c} {v} l = ap (λ f. f c v) l.each ∙ less-gone (has D) c v

pub board_without-stays : {D D' : Flags} {c v : ℕ} (c' v' : ℕ) → IsLess D D' c v → has D c' v' ≡ false → has D' c' v' ≡ false
board_without-stays {D} {D'} {c} {v} c' v' l e = ap (λ f. f c' v') l.each ∙ ap (λ b. b && not (c' == c && v' == v)) e

-- what stands on a grown board stood before
pub grown-within : (old new : Board) → IsTraced old → IsTraced new → new.problem ≡ old.problem → (more : List Removal) → new.trail.removals ≡ old.trail.removals ++ more → Within (has new.domains) (has old.domains)
grown-within old new t t' same more e c v stands =
    let B = in_base old.problem.now in
    ap (λ f. f c v) t.stands ∙ without-within (without B old.trail.removals) more c v
    (ap (λ f. f c v) (sym (without-append B old.trail.removals more)) ∙ ap (λ xs. without B xs c v) (sym e) ∙ ap (λ p. without (in_base p.now) new.trail.removals c v) (sym same) ∙ ap (λ f. f c v) (sym t'.stands) ∙ stands)

-- ---- a fresh board

-- a board with nothing removed and no literal
pub board-emptied : (b : Board) → IsTraced b → b.trail.removals ≡ [] → b.levels.standing ≡ [] → b.levels.marks ≡ []
    → (b.verdict ≡ Alive → HasValues b)
    → ((cell : ℕ) → b.verdict ≡ Dead cell → (cell < b.problem.now.cells) × (size_of b.domains cell ≡ 0))
    → IsBoard b
board-emptied b t no_removals no_literals no_marks filled empty = record {
  traced = t;
  levels = record {
    one_mark_each = ap length no_marks ∙ sym (ap length no_literals);
    ordered = λ j k jk l. absurd (omega (arith, ap length no_marks));
    in_log = λ k l. absurd (omega (arith, ap length no_marks));
    sound_at = λ k s l. absurd (omega (arith, ap length no_marks));
  };
  added = subst (AreRemoved b.problem.now b.levels.standing (before_of (view_of b))) (sym none) tt;
  filled = filled;
  empty = empty;
}
  where
    none : drop (level_mark b.levels.marks) b.trail.removals ≡ []
    none = drop_all (level_mark b.levels.marks) b.trail.removals (omega (arith, ap length no_removals))

pub board-fresh : (b : Board) → IsProblem b.problem.now → b.domains ≡ base_of b.problem.now → b.trail.removals ≡ [] → depth_of b.problem.now + 1 ≤ b.trail.room + b.problem.now.cells → b.trail.extent ≡ extent_of b.problem.now → b.levels.standing ≡ [] → b.levels.marks ≡ []
    → (b.verdict ≡ Alive → HasValues b)
    → ((cell : ℕ) → b.verdict ≡ Dead cell → (cell < b.problem.now.cells) × (size_of b.domains cell ≡ 0))
    → IsBoard b
board-fresh b p is_base no_removals room extent no_literals no_marks filled empty = board-emptied b (record {
  problem = p;
  same_cells = ap (λ d. d.cells) is_base;
  same_values = ap (λ d. d.values) is_base;
  whole = ap (λ d. length d.flags) is_base ∙ base_table b.problem.now p;
  stands = ap has is_base ∙ ap (without (in_base b.problem.now)) (sym no_removals);
  stood = subst (AreStood (in_base b.problem.now)) (sym no_removals) tt;
  room = room;
  extent = extent;
}) no_removals no_literals no_marks filled empty

-- ---- the last level

-- a removal of the last level is one of the log
pub added-there : (v : StoreView) (i m : ℕ) (r : Removal) → m ≡ level_mark v.marks → slice_get (added_of v) i ≡ Some r → slice_get v.removals (m + i) ≡ Some r
added-there v i m r mark there =
    let k = level_mark v.marks in
    let inside : k + i < length v.removals = omega (arith, slice_get_within (added_of v) i r there, length-drop k v.removals) in
    let same : get_or v.removals (k + i) r ≡ r = sym (get_or-drop k v.removals i r) ∙ get_or_from_slice_get (added_of v) i r r there in
    ap (λ n. slice_get v.removals (n + i)) mark ∙ slice_get-get_or v.removals (k + i) r inside ∙ ap Some same
