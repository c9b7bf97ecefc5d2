-- What a sweep does to a board, and what a closed board is.
use Rattle.std.proofs.Common.{◌≡◌, ℕ, ◌+◌, ◌*◌, ◌<◌, ◌≤◌, false, List, [], ◌∷◌, ◌++◌, length, take, refl, sym, ◌∙◌, ap, subst, arith, Option, Some, None, inl, inr, ◌⊎◌}
use Rattle.std.specs.Prelude.{IsTrue, slice_get, All}
use Rattle.std.proofs.Math.Nat.{mul-le-mul_right}
use Rattle.std.proofs.lemmas.Bool.{true≢false, cases_eq, and_from}
use Rattle.std.proofs.lemmas.List.{length_push}
use Rattle.std.proofs.lemmas.Nat.{same_from_place, mul-add-lt}
use Rattle.wfc_problem.specs.Network.{Network, values, neighbour, in_base, IsProblem}
use Rattle.std.proofs.lemmas.List.Elements.{All-push, All-take}
use Rattle.wfc_problem.specs.Domains.{Within, IsArcConsistent, IsLiteralIn, base_with, support_count}
use Rattle.wfc_problem.specs.Rounds.{greatest}
use Rattle.wfc_problem.specs.Sizes.{is_dead}
use Rattle.wfc_problem.specs.declared.Literal.{Literal}
use Rattle.wfc_log.specs.declared.Cause.TheVariants.{Arc}
use Rattle.wfc_log.specs.declared.Removal.{Removal}
use Rattle.wfc_log.specs.declared.Verdict.{Verdict}
use Rattle.wfc_log.specs.declared.Verdict.TheVariants.{Alive, Dead}
use Rattle.wfc_domains.specs.declared.board.Board.{Board}
use Rattle.wfc_log.specs.Domains.{has, size_of}
use Rattle.wfc_domains.specs.Removals.{without, IsUnsupported}
use Rattle.wfc_domains.specs.Store.{StoreView, IsVerdict, IsOpening, IsLeastEmpty, IsLeastUnsupported, IsBefore, left_of}
use Rattle.wfc_domains.specs.Board.{view_of, IsTraced, HasLevels, IsBoard, IsCut, IsListed, IsFresh, board_without, Loses}
use Rattle.wfc_domains.specs.Swept.{IsFirstUnsupported, IsSwept, FirstIsLeast, IsClosed}
use Rattle.wfc_domains.proofs.Problems.{consistent-from_counts, greatest-is, greatest-same}
use Rattle.wfc_domains.proofs.Removals.{less-within}
use Rattle.wfc_domains.proofs.Boards.{board-board_without, stands-in, not-alive}
use Rattle.wfc_domains.proofs.Sound.{sound-from}

-- with nothing removed the domains are the base
pub base-stands : (b : Board) → IsTraced b → b.trail.removals ≡ [] → has b.domains ≡ in_base b.problem.now
base-stands b t e = t.stands ∙ ap (without (in_base b.problem.now)) e

-- ---- the first removal

-- where each pair before one has support, and that one in each direction before one, no pair of the base before it lacks any
pub none-before : (P : Network) (κ : ℕ → ℕ → ℕ → ℕ) (cell value dir : ℕ)
    → ((c v d n : ℕ) → IsTrue (in_base P c v) → v < values P → neighbour P c d ≡ Some n → support_count P (in_base P) c v d ≡ 0 → κ c v d ≡ 0)
    → ((c v : ℕ) → IsTrue (in_base P c v) → v < values P)
    → ((c v d n : ℕ) → c * values P + v < cell * values P + value → IsTrue (in_base P c v) → neighbour P c d ≡ Some n → 0 < κ c v d)
    → ((e n : ℕ) → e < dir → neighbour P cell e ≡ Some n → 0 < κ cell value e)
    → (c v d : ℕ) → IsTrue (in_base P c v) → IsUnsupported P (in_base P) c v d → IsBefore c v d cell value dir → ⊥
none-before P κ cell value dir zero' range earlier sides c v d t bare before =
    let hv = range c v t in
    let z = zero' c v d bare.next t hv bare.beside bare.none in
    elim before [
      | inl l ↦
          let row : (c + 1) * values P ≤ cell * values P = mul-le-mul_right (values P) (let w : c + 1 ≤ cell = omega arith in w) in
          let pos = earlier c v d bare.next (omega (arith, row, hv)) t bare.beside in
          absurd (omega arith)
      | inr same ↦ elim same.1 [
        | inl l ↦
            let row = ap (λ x. x * values P) same.0 in
            let pos = earlier c v d bare.next (omega arith) t bare.beside in
            absurd (omega arith)
        | inr both ↦
            let pos = sides d bare.next both.1 (ap (λ x. neighbour P x d) (sym same.0) ∙ bare.beside) in
            let eq = ap (λ x. κ x v d) same.0 ∙ ap (λ x. κ cell x d) both.0 in
            absurd (omega arith)
      ]
    ]

-- the first of one more is the first, or there was none
pub first-push : (rs : List Removal) (r first : Removal) → slice_get (rs ++ r ∷ []) 0 ≡ Some first → (slice_get rs 0 ≡ Some first) ⊎ ((rs ≡ []) × (r ≡ first))
first-push [] r first e = inr (refl, some e)
  where
    some : Some r ≡ Some first → r ≡ first
    some e = cc
first-push (x ∷ rs) r first e = inl e

-- ---- one pair looked at

-- its removal has a true cause
pub board_without-swept : (b b' : Board) (c v d : ℕ) → IsBoard b → IsCut b → b.verdict ≡ Alive → c < b.problem.now.cells → v < values b.problem.now
    → IsFirstUnsupported b.problem.now (has b.domains) c v d → Loses b b' c v (Arc d) → IsBoard b' × IsCut b'
board_without-swept b b' c v d h cut alive hc hv f loses =
    let P = b.problem.now in
    let D = b'.domains in
    let l = loses.less in
    let bare : IsUnsupported P (left_of (view_of b)) c v d = subst (λ E. IsUnsupported P E c v d) h.traced.stands f.bare in
    let left_cut : Within (left_of (view_of b)) (base_with P b.levels.standing) = λ x y t. cut alive x y (ap (λ g. g x y) h.traced.stands ∙ t) in
    let within : Within (has D) (has b.domains) = λ x y t. less-within (has b.domains) c v x y (ap (λ g. g x y) (sym l.each) ∙ t) in
    let cut' : IsCut (board_without b D c v (Arc d)) = λ _ x y t. cut alive x y (within x y t) in
    (subst IsBoard (sym loses.same) (board-board_without b D c v (Arc d) h alive l hc hv (left_cut, bare)), subst IsCut (sym loses.same) cut')

pub swept-board_without : (b b' : Board) (start c v d : ℕ) → IsSwept b start (c * values b.problem.now + v) → Loses b b' c v (Arc d) → IsSwept b' start (c * values b'.problem.now + v + 1)
swept-board_without b b' start c v d h loses =
    let longer : length b'.trail.removals ≡ length b.trail.removals + 1 = ap (λ (x : Board). length x.trail.removals) loses.same ∙ length_push b.trail.removals (record { cell = c; value = v; before = size_of b.domains c; cause = Arc d }) in
    record {
      longer = omega (arith, h.longer);
      supported = λ alive same. absurd (omega (arith, h.longer));
    }

pub first-board_without : (b b' : Board) (start c v d : ℕ) → IsTraced b → b.verdict ≡ Alive → IsFirstUnsupported b.problem.now (has b.domains) c v d → Loses b b' c v (Arc d)
    → IsSwept b start (c * values b.problem.now + v) → FirstIsLeast b → FirstIsLeast b'
first-board_without b b' start c v d t alive f loses swept first =
    let P = b.problem.now in
    let B = in_base P in
    let r : Removal = record { cell = c; value = v; before = size_of b.domains c; cause = Arc d } in
    subst FirstIsLeast (sym loses.same) (λ g e. elim (first-push b.trail.removals r g e) [
      | inl old ↦ first g old
      | inr new ↦
          let base = base-stands b t new.0 in
          let same : length b.trail.removals ≡ start = omega (arith, ap length new.0, swept.longer) in
          let count = λ (x y z : ℕ). support_count P (has b.domains) x y z in
          subst (λ x. IsLeastUnsupported P B x) new.1 (record {
            dir = d;
            arc = refl;
            least = none-before P (support_count P (has b.domains)) c v d
                (λ x y z n s hy e zero'. ap (λ E. support_count P E x y z) base ∙ zero')
                (λ x y s. (stands-in b t x y (ap (λ g. g x y) base ∙ s)).1)
                (λ x y z n l s e. swept.supported alive same x y z n l (ap (λ g. g x y) base ∙ s) e)
                f.first;
          })
    ])

-- a pair that has support, or does not stand
pub swept-next : (b : Board) (start c v : ℕ) → IsTraced b → IsSwept b start (c * values b.problem.now + v) → v < values b.problem.now
    → (b.verdict ≡ Alive → IsTrue (has b.domains c v) → (d n : ℕ) → neighbour b.problem.now c d ≡ Some n → 0 < support_count b.problem.now (has b.domains) c v d)
    → IsSwept b start (c * values b.problem.now + v + 1)
swept-next b start c v t h hv here = record {
  longer = h.longer;
  supported = λ alive same c' v' d n l s e. elim (cases_eq (c' * values b.problem.now + v') (c * values b.problem.now + v)) [
    | inl eq ↦
        let range = stands-in b t c' v' s in
        let which = same_from_place c' v' c v (values b.problem.now) range.1 hv eq in
        let pos = here alive (sym (ap (λ x. has b.domains x v') which.0 ∙ ap (has b.domains c) which.1) ∙ s) d n (sym (ap (λ x. neighbour b.problem.now x d) which.0) ∙ e) in
        let eq' = ap (λ x. support_count b.problem.now (has b.domains) x v' d) which.0 ∙ ap (λ x. support_count b.problem.now (has b.domains) c x d) which.1 in
        omega arith
    | inr ne ↦ h.supported alive same c' v' d n (omega arith) s e
  ];
}

pub swept-at : (b : Board) (start i j : ℕ) → IsSwept b start i → i ≡ j → IsSwept b start j
swept-at b start i j h e = subst (IsSwept b start) e h

-- a whole sweep that removed nothing
pub swept-consistent : (b : Board) (start i : ℕ) → IsTraced b → IsSwept b start i → b.problem.now.cells * values b.problem.now ≤ i → length b.trail.removals ≡ start → b.verdict ≡ Alive → IsArcConsistent b.problem.now (left_of (view_of b))
swept-consistent b start i t h all same alive =
    let P = b.problem.now in
    subst (IsArcConsistent P) t.stands (consistent-from_counts P (has b.domains) (λ c v d n s e.
    let range = stands-in b t c v s in
    h.supported alive same c v d n (omega (arith, mul-add-lt c (values P) v P.cells range.0 range.1)) s e))

-- ---- closed boards

pub first-grown : (rs more : List Removal) (r : Removal) → slice_get (rs ++ more) 0 ≡ Some r → (slice_get rs 0 ≡ Some r) ⊎ (rs ≡ [])
first-grown [] more r e = inr refl
first-grown (x ∷ rs) more r e = inl e

-- a fresh board that was closed
pub closed-fresh : (a n : Board) (spare : ℕ) → IsFresh a spare → IsBoard n → IsCut n → n.problem ≡ a.problem → n.levels ≡ a.levels
    → (n.verdict ≡ Alive → IsArcConsistent n.problem.now (left_of (view_of n))) → FirstIsLeast n → ((a.verdict ≡ Alive → ⊥) → n ≡ a) → IsListed n → IsClosed n
closed-fresh a n spare f board cut same levels consistent first dead listed = record {
  traced = board.traced;
  levels = board.levels;
  sound = sound-from n board (λ alive c v t. cut alive c v (ap (λ g. g c v) board.traced.stands ∙ t)) consistent (λ _. opening a.verdict refl);
  listed = listed;
}
  where
    opening : (o : Verdict) → a.verdict ≡ o → IsOpening n.problem.now n.trail.removals n.verdict
    opening Alive alive = record {
      empty = λ cell least. absurd (not-alive (sym (f.opening.empty cell (subst (λ P. IsLeastEmpty P (in_base P) cell) (ap (λ p. p.now) same) least)).1 ∙ alive));
      first = first;
    }
    opening (Dead cell) e = subst (λ (x : Board). IsOpening x.problem.now x.trail.removals x.verdict) (sym (dead (λ alive. not-alive (sym e ∙ alive))))
        (subst (λ rs. IsOpening a.problem.now rs a.verdict) (sym f.removals) f.opening)

-- a board under literals that was closed
pub closed-later : (n : Board) → IsBoard n → IsCut n → (n.verdict ≡ Alive → IsArcConsistent n.problem.now (left_of (view_of n))) → 0 < length n.levels.standing → IsListed n → IsClosed n
closed-later n board cut consistent some listed = record {
  traced = board.traced;
  levels = board.levels;
  sound = sound-from n board (λ alive c v t. cut alive c v (ap (λ g. g c v) board.traced.stands ∙ t)) consistent (λ none. absurd (omega (arith, ap length none)));
  listed = listed;
}

-- it is alive where the greatest domains are
pub closed-alive : (b : Board) (P : Network) (ls : List Literal) → IsClosed b → b.problem.now ≡ P → b.levels.standing ≡ ls → is_dead P (greatest P ls) ≡ false → b.verdict ≡ Alive
closed-alive b P ls h same standing alive = which b.verdict refl
  where
    which : (o : Verdict) → b.verdict ≡ o → b.verdict ≡ Alive
    which Alive e = e
    which (Dead cell) e =
        let told = subst (IsVerdict b.problem.now b.levels.standing (left_of (view_of b))) e h.sound.verdict in
        absurd (true≢false (sym told.0 ∙ ap (λ N. is_dead N (greatest N b.levels.standing)) same ∙ ap (λ xs. is_dead P (greatest P xs)) standing ∙ alive))

-- before each literal the greatest domains were alive
pub levels-alive : (v : StoreView) → IsProblem v.problem → HasLevels v → (k : ℕ) → k < length v.standing → is_dead v.problem (greatest v.problem (take k v.standing)) ≡ false
levels-alive v p h k l =
    let s = h.sound_at k 0 (omega (arith, h.one_mark_each)) in
    ap (is_dead v.problem) (greatest-same v.problem (take k v.standing) _ _ (greatest-is v.problem p (take k v.standing)) s.verdict.0) ∙ s.verdict.1

-- the base is not cut without literals
pub fresh-cut : (b : Board) (spare : ℕ) → IsFresh b spare → IsCut b
fresh-cut b spare f _ c v t = subst (λ ls. IsTrue (base_with b.problem.now ls c v)) (sym (ap (λ l. l.standing) f.levels)) (and_from _ _ (ap (λ g. g c v) (sym (base-stands b f.board.traced f.removals)) ∙ t) refl)

-- and has no first removal
pub fresh-first : (b : Board) (spare : ℕ) → IsFresh b spare → FirstIsLeast b
fresh-first b spare f r e = absurd (no_first (sym (ap (λ rs. slice_get rs 0) f.removals) ∙ e))
  where
    no_first : ◌≡◌ {A = Option Removal} None (Some r) → ⊥
    no_first e = cc

-- ---- literals in range

pub literals-push : (P Q : Network) (ls ls' : List Literal) (l : Literal) → Q ≡ P → ls' ≡ ls ++ l ∷ [] → All (IsLiteralIn P) ls → IsLiteralIn P l → All (IsLiteralIn Q) ls'
literals-push P Q ls ls' l same e all here =
    subst (λ N. All (IsLiteralIn N) ls') (sym same) (subst (All (IsLiteralIn P)) (sym e) (All-push (IsLiteralIn P) ls l all here))

pub literals-front : (P Q : Network) (ls ls' : List Literal) (k : ℕ) → Q ≡ P → ls' ≡ take k ls → All (IsLiteralIn P) ls → All (IsLiteralIn Q) ls'
literals-front P Q ls ls' k same e all =
    subst (λ N. All (IsLiteralIn N) ls') (sym same) (subst (All (IsLiteralIn P)) (sym e) (All-take (IsLiteralIn P) k ls all))
