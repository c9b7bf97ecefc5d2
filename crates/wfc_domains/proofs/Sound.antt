-- That a board whose work is done is a sound store, and what undoing leaves.
use Rattle.std.proofs.Common.{◌≡◌, ℕ, ◌+◌, ◌-◌, ◌<◌, true, false, List, [], ◌∷◌, ◌++◌, length, take, drop, min, refl, sym, ◌∙◌, ap, subst, arith, inl, inr}
use Rattle.std.specs.Prelude.{IsTrue, slice_index}
use Rattle.std.proofs.lemmas.Bool.{true≢false, cases_lt, false_from_ne_true, and_parts}
use Rattle.std.proofs.lemmas.List.{take-append-drop, take-take, get_or-take, length-take, get_or_past}
use Rattle.wfc_problem.specs.Network.{Network, in_base}
use Rattle.wfc_problem.specs.Domains.{Test, Within, IsArcConsistent, IsInGreatest, IsEmptyAt, base_with}
use Rattle.wfc_problem.specs.Rounds.{greatest}
use Rattle.wfc_problem.specs.Sizes.{is_dead, size_at}
use Rattle.wfc_problem.specs.declared.Literal.{Literal}
use Rattle.wfc_problem.specs.declared.Literal.TheVariants.{Is, Not}
use Rattle.wfc_log.specs.declared.Cause.{Cause}
use Rattle.wfc_log.specs.declared.Cause.TheVariants.{Assumed, Arc}
use Rattle.wfc_log.specs.declared.Removal.{Removal}
use Rattle.wfc_log.specs.declared.Verdict.{Verdict}
use Rattle.wfc_log.specs.declared.Verdict.TheVariants.{Alive, Dead}
use Rattle.wfc_domains.specs.declared.board.Board.{Board}
use Rattle.wfc_log.specs.Domains.{has, size_of, less}
use Rattle.wfc_domains.specs.Removals.{without, IsCause, AreRemoved}
use Rattle.wfc_domains.specs.Store.{StoreView, IsSound, IsVerdict, IsOpening, IsLeastEmpty, level_mark, left_of, before_of, added_of, all_but_last, without_last}
use Rattle.wfc_domains.specs.Board.{view_of, IsTraced, HasLevels, IsBoard, IsCut}
use Rattle.wfc_domains.proofs.Problems.{greatest-lower, greatest-within, greatest-from_holding, greatest-is, counts-from_consistent, support_count-le, dead-iff, zero-empty, empty-size, alive-pos}
use Rattle.wfc_domains.proofs.Removals.{less-contains, without-split}
use Rattle.wfc_domains.proofs.Boards.{size-at, not-alive, grown-within, left-within, left-filled}
use Rattle.wfc_domains.proofs.Cuts.{cut_is, cut_not}

-- ---- what removals for true causes keep

-- a value removed for a true cause is in no consistent domains that lie within
cause-excludes : (P : Network) (literals : List Literal) (E D : Test) (c v : ℕ) (cause : Cause) → Within E (base_with P literals) → IsArcConsistent P E → Within E D → IsCause P literals D c v cause → E c v ≡ true → ⊥
cause-excludes P literals E D c v Assumed base consistent within k t = true≢false (sym (and_parts _ _ (base c v t)).1 ∙ k)
cause-excludes P literals E D c v (Arc d) base consistent within k t =
    let pos = counts-from_consistent P E consistent c v d k.1.next t k.1.beside in
    let le = support_count-le P E D c v d within in
    omega (arith, k.1.none)

-- so what removals leave holds each consistent part of the cut base
pub removed-holds : (P : Network) (literals : List Literal) (E D : Test) (rs : List Removal) → Within E (base_with P literals) → IsArcConsistent P E → Within E D → AreRemoved P literals D rs → Within E (without D rs)
removed-holds P literals E D [] base consistent within k = within
removed-holds P literals E D (r ∷ rs) base consistent within k =
    removed-holds P literals E (less D r.cell r.value) rs base consistent
    (less-contains E D r.cell r.value within (cause-excludes P literals E D r.cell r.value r.cause base consistent within k.0.cause)) k.1

-- a part within the base of all literals is one within that of the first
lower : (P : Network) (literals : List Literal) (k c v : ℕ) → IsInGreatest P literals c v → IsInGreatest P (take k literals) c v
lower P literals k c v g = greatest-lower P (take k literals) (drop k literals) c v (subst (λ ls. IsInGreatest P ls c v) (sym (take-append-drop k literals)) g)

-- the domains that a level began with hold each consistent part of its cut base
before-holds : (v : StoreView) → HasLevels v → (E : Test) → Within E (base_with v.problem v.standing) → IsArcConsistent v.problem E → Within E (before_of v)
before-holds v h E base consistent = elim (cases_lt 0 (length v.marks)) [
  | inl some ↦
      let k = length v.marks - 1 in
      let s = h.sound_at k 0 (omega arith) in
      λ c w t. (s.verdict.0 c w).1 (lower v.problem v.standing k c w (record { domains = E; within = base; consistent = consistent; stands = t }))
  | inr none ↦
      let z : level_mark v.marks ≡ 0 = get_or_past v.marks (length v.marks - 1) 0 (omega arith) in
      λ c w t. ap (λ m. without (in_base v.problem) (take m v.removals) c w) z ∙ (and_parts _ _ (base c w t)).0
]

-- so do the domains of a board
pub board-holds : (b : Board) → IsBoard b → (E : Test) → Within E (base_with b.problem.now b.levels.standing) → IsArcConsistent b.problem.now E → Within E (left_of (view_of b))
board-holds b h E base consistent c v t =
    let m = level_mark b.levels.marks in
    let B = in_base b.problem.now in
    ap (λ f. f c v) (sym (without-split B b.trail.removals m))
    ∙ removed-holds b.problem.now b.levels.standing E (before_of (view_of b)) (added_of (view_of b)) base consistent (before-holds (view_of b) h.levels E base consistent) h.added c v t

-- ---- the verdict

-- where each cell has a value none is empty
pub board-filled : (b : Board) → IsBoard b → b.verdict ≡ Alive → is_dead b.problem.now (left_of (view_of b)) ≡ false
board-filled b h alive = left-filled b h.traced (h.filled alive)

-- a cell without a value is empty
pub board-empty : (b : Board) → IsBoard b → (cell : ℕ) → b.verdict ≡ Dead cell → IsEmptyAt (left_of (view_of b)) cell
board-empty b h cell e =
    let P = b.problem.now in
    let zero' = (h.empty cell e).1 in
    let same = size-at P b.domains (left_of (view_of b)) cell h.traced.same_values h.traced.stands in
    zero-empty P h.traced.problem (left_of (view_of b)) (left-within b) cell (omega arith)

-- alive, cut and consistent: the greatest domains
verdict-alive : (b : Board) → IsBoard b → b.verdict ≡ Alive → Within (left_of (view_of b)) (base_with b.problem.now b.levels.standing) → IsArcConsistent b.problem.now (left_of (view_of b))
    → IsVerdict b.problem.now b.levels.standing (left_of (view_of b)) Alive
verdict-alive b h alive cut consistent =
    (greatest-from_holding b.problem.now b.levels.standing (left_of (view_of b)) cut consistent (board-holds b h), board-filled b h alive)

-- dead: a cell is empty in the greatest domains
verdict-dead : (b : Board) → IsBoard b → (cell : ℕ) → b.verdict ≡ Dead cell → IsVerdict b.problem.now b.levels.standing (left_of (view_of b)) (Dead cell)
verdict-dead b h cell e =
    let P = b.problem.now in
    let p = h.traced.problem in
    let G = greatest P b.levels.standing in
    let is = greatest-is P p b.levels.standing in
    let empty = board-empty b h cell e in
    let within : Within G (in_base P) = λ c v t. let i = (is c v).0 t in (and_parts _ _ (i.within c v i.stands)).0 in
    let none : IsEmptyAt G cell = λ v. false_from_ne_true (G cell v) (λ t.
    let i = (is cell v).0 t in
    true≢false (sym (board-holds b h i.domains i.within i.consistent cell v i.stands) ∙ empty v)) in
    ((dead-iff P p G within).1 (cell, (h.empty cell e).0, none), (h.empty cell e).0, empty)

-- ---- a sound store

-- the literals before the last
but-last : (v : StoreView) → HasLevels v → take (length v.marks - 1) v.standing ≡ all_but_last v.standing
but-last v h = ap (λ n. take (n - 1) v.standing) h.one_mark_each

began-from : (v : StoreView) → HasLevels v → 0 < length v.standing → IsVerdict v.problem (all_but_last v.standing) (before_of v) Alive
began-from v h some =
    let s = h.sound_at (length v.marks - 1) 0 (omega (arith, h.one_mark_each)) in
    subst (λ ls. IsVerdict v.problem ls (before_of v) Alive) (but-last v h) s.verdict

pub sound-from : (b : Board) → IsBoard b
    → (b.verdict ≡ Alive → Within (left_of (view_of b)) (base_with b.problem.now b.levels.standing))
    → (b.verdict ≡ Alive → IsArcConsistent b.problem.now (left_of (view_of b)))
    → (b.levels.standing ≡ [] → IsOpening b.problem.now b.trail.removals b.verdict)
    → IsSound (view_of b)
sound-from b h cut consistent opening = record {
  problem = h.traced.problem;
  marked = h.levels.one_mark_each;
  verdict = says b.verdict refl;
  began = began-from (view_of b) h.levels;
  added = h.added;
  opening = opening;
}
  where
    says : (o : Verdict) → b.verdict ≡ o → IsVerdict b.problem.now b.levels.standing (left_of (view_of b)) o
    says Alive e = verdict-alive b h e (cut e) (consistent e)
    says (Dead cell) e = verdict-dead b h cell e

-- ---- the last literal taken away

pub sound-undone : (v : StoreView) → HasLevels v → 0 < length v.standing → IsSound (without_last v)
sound-undone v h some =
    let Q : List Literal → Type 0 = λ ls. IsSound (record { problem = v.problem; standing = ls; spare = v.spare + 1; removals = take (level_mark v.marks) v.removals; marks = all_but_last v.marks; verdict = Alive }) in
    subst Q (but-last v h) (h.sound_at (length v.marks - 1) (v.spare + 1) (omega (arith, h.one_mark_each)))

pub levels-undone : (v : StoreView) → HasLevels v → 0 < length v.standing → HasLevels (without_last v)
levels-undone v h some = record {
  one_mark_each = length-take last v.marks ∙ (let z : min last (length v.marks) ≡ min (length v.standing - 1) (length v.standing) = omega (arith, h.one_mark_each) in z) ∙ sym (length-take (length v.standing - 1) v.standing);
  ordered = λ j k jk hk. omega (arith, old j (omega (arith, inside k hk)), old k (inside k hk), h.ordered j k jk (omega (arith, inside k hk)));
  in_log = λ k hk. omega (arith, old k (inside k hk), h.ordered k last (inside k hk) last_in, length-take m v.removals, h.in_log last last_in);
  sound_at = λ k s hk.
      let i = inside k hk in
      move s (h.sound_at k s (omega arith))
      (sym (take-take k (length v.standing - 1) v.standing (omega (arith, h.one_mark_each))))
      (sym (ap (λ x. take x (take m v.removals)) (old k i) ∙ take-take (slice_index v.marks k) m v.removals (h.ordered k last i last_in)))
      (sym (take-take k last v.marks (omega arith)));
}
  where
    last : ℕ
    last = length v.marks - 1

    m : ℕ
    m = level_mark v.marks

    last_in : last < length v.marks
    last_in = omega (arith, h.one_mark_each)

    inside : (k : ℕ) → k < length (all_but_last v.marks) → k < last
    inside k hk = omega (arith, length-take last v.marks)

    old : (k : ℕ) → k < last → slice_index (all_but_last v.marks) k ≡ slice_index v.marks k
    old k i = get_or-take last v.marks k 0 i

    move : (s : ℕ) {ls ls' : List Literal} {rs rs' : List Removal} {ms ms' : List ℕ}
        → IsSound (record { problem = v.problem; standing = ls; spare = s; removals = rs; marks = ms; verdict = Alive }) → ls ≡ ls' → rs ≡ rs' → ms ≡ ms'
        → IsSound (record { problem = v.problem; standing = ls'; spare = s; removals = rs'; marks = ms'; verdict = Alive })
    move s {ls} {ls'} {rs} {rs'} {ms} {ms'} sound a b c =
        subst (λ x. IsSound (record { problem = v.problem; standing = ls'; spare = s; removals = rs'; marks = x; verdict = Alive })) c
        (subst (λ x. IsSound (record { problem = v.problem; standing = ls'; spare = s; removals = x; marks = ms; verdict = Alive })) b
        (subst (λ x. IsSound (record { problem = v.problem; standing = x; spare = s; removals = rs; marks = ms; verdict = Alive })) a sound))

-- a sound store that is alive has a board between two removals
pub board-alive : (b : Board) → IsTraced b → HasLevels (view_of b) → IsSound (view_of b) → b.verdict ≡ Alive → IsBoard b
board-alive b t levels sound alive = record {
  traced = t;
  levels = levels;
  added = sound.added;
  filled = λ _ c l.
      let told = subst (IsVerdict b.problem.now b.levels.standing (left_of (view_of b))) alive sound.verdict in
      let pos = alive-pos b.problem.now (left_of (view_of b)) told.1 c l in
      omega (arith, size-at b.problem.now b.domains (left_of (view_of b)) c t.same_values t.stands);
  empty = λ cell e. absurd (not-alive (sym e ∙ alive));
}

-- ---- a literal put on

-- what stands on a sound board that is alive the literals leave
pub sound-cut : (b : Board) → IsTraced b → IsSound (view_of b) → b.verdict ≡ Alive → Within (has b.domains) (base_with b.problem.now b.levels.standing)
sound-cut b t sound alive c v stands =
    let told = subst (IsVerdict b.problem.now b.levels.standing (left_of (view_of b))) alive sound.verdict in
    greatest-within b.problem.now b.levels.standing (left_of (view_of b)) told.0 c v (ap (λ f. f c v) (sym t.stands) ∙ stands)

-- what stands on the board after one more lies within the base of the literals before
later-cut : (old new : Board) → IsTraced old → IsSound (view_of old) → old.verdict ≡ Alive → IsTraced new → new.problem ≡ old.problem → (more : List Removal) → new.trail.removals ≡ old.trail.removals ++ more
    → Within (has new.domains) (base_with old.problem.now old.levels.standing)
later-cut old new t sound alive t' same more e c v stands = sound-cut old t sound alive c v (grown-within old new t t' same more e c v stands)

move-cut : (old new : Board) (ls : List Literal) → new.problem ≡ old.problem → new.levels.standing ≡ ls → Within (has new.domains) (base_with old.problem.now ls) → Within (has new.domains) (base_with new.problem.now new.levels.standing)
move-cut old new ls same e within =
    subst (λ xs. Within (has new.domains) (base_with new.problem.now xs)) (sym e) (subst (λ P. Within (has new.domains) (base_with P ls)) (sym (ap (λ p. p.now) same)) within)

pub put-is : (old new : Board) (l : Literal) (cell value : ℕ) → l ≡ Is value cell → IsTraced old → IsSound (view_of old) → old.verdict ≡ Alive → IsTraced new → new.problem ≡ old.problem → (more : List Removal) → new.trail.removals ≡ old.trail.removals ++ more
    → new.levels.standing ≡ old.levels.standing ++ l ∷ [] → (new.verdict ≡ Alive → (other : ℕ) → IsTrue (has new.domains cell other) → other ≡ value) → IsCut new
put-is old new l cell value is t sound alive t' same more e standing alone still =
    move-cut old new (old.levels.standing ++ Is value cell ∷ []) same (standing ∙ ap (λ x. old.levels.standing ++ x ∷ []) is)
    (cut_is old.problem.now old.levels.standing cell value (has new.domains) (later-cut old new t sound alive t' same more e) (alone still))

pub put-not : (old new : Board) (l : Literal) (cell value : ℕ) → l ≡ Not value cell → IsTraced old → IsSound (view_of old) → old.verdict ≡ Alive → IsTraced new → new.problem ≡ old.problem → (more : List Removal) → new.trail.removals ≡ old.trail.removals ++ more
    → new.levels.standing ≡ old.levels.standing ++ l ∷ [] → has new.domains cell value ≡ false → IsCut new
put-not old new l cell value is t sound alive t' same more e standing gone still =
    move-cut old new (old.levels.standing ++ Not value cell ∷ []) same (standing ∙ ap (λ x. old.levels.standing ++ x ∷ []) is)
    (cut_not old.problem.now old.levels.standing cell value (has new.domains) (later-cut old new t sound alive t' same more e) gone)

-- ---- an opening

-- the verdict of a board with nothing removed, where the sizes before the cell that it names are positive
pub opening-verdict : (b : Board) → IsBoard b → b.trail.removals ≡ [] → ((cell : ℕ) → b.verdict ≡ Dead cell → (c : ℕ) → c < cell → 0 < size_of b.domains c) → IsOpening b.problem.now [] b.verdict
opening-verdict b h none least = record {
  empty = λ cell e. (refl, which b.verdict refl cell e);
  first = λ r e. cc;
}
  where
    B : Test
    B = in_base b.problem.now

    same : (c : ℕ) → size_of b.domains c ≡ size_at b.problem.now B c
    same c = size-at b.problem.now b.domains B c h.traced.same_values (h.traced.stands ∙ ap (without B) none)

    within : Within B B
    within c v t = t

    which : (o : Verdict) → b.verdict ≡ o → (cell : ℕ) → IsLeastEmpty b.problem.now B cell → b.verdict ≡ Dead cell
    which Alive alive cell e = let pos = h.filled alive cell e.cell_in in absurd (omega (arith, same cell, empty-size b.problem.now B cell e.empty))
    which (Dead found) dead cell e = elim (cases_lt found cell) [
      | inl l ↦ absurd (e.least found l (zero-empty b.problem.now h.traced.problem B within found (sym (same found) ∙ (h.empty found dead).1)))
      | inr l ↦ elim (cases_lt cell found) [
        | inl l' ↦ let pos = least found dead cell l' in absurd (omega (arith, same cell, empty-size b.problem.now B cell e.empty))
        | inr l' ↦ let z : found ≡ cell = omega arith in dead ∙ ap (λ c. Dead c) z
      ]
    ]
