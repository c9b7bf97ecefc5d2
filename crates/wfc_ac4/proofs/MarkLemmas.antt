-- Marks beside counters: they stand only at values that don't stand.
use Rattle.std.proofs.Common.{◌≡◌, ℕ, zero, suc, ◌+◌, ◌-◌, ◌*◌, ◌/◌, ◌%◌, ◌<◌, ◌≤◌, false, List, length, sym, ◌∙◌, ap, subst, arith, inl, inr}
use Rattle.std.specs.Prelude.{slice_index}
use Rattle.std.proofs.lemmas.Bool.{cases_Bool, cases_eq, cases_lt, true≢false}
use Rattle.std.proofs.lemmas.Nat.{mod-mul-add, div-add-mod'}
use Rattle.std.proofs.Math.Nat.{mod-lt, mod-eq_of_lt}
use Rattle.wfc_problem.specs.Network.{Network}
use Rattle.wfc_problem.specs.Domains.{Test, Within}
use Rattle.wfc_log.specs.Domains.{Flags, has, less}
use Rattle.wfc_domains.specs.Counters.{Table, FitsTable, IsMarked, Marks, Unmarks, count_of, entry_of, with_count, count_place}
use Rattle.wfc_domains.proofs.Marking.{entry-same, entry-other}
use Rattle.wfc_domains.proofs.Removals.{less-keeps}
use Rattle.wfc_ac4.specs.State.{AreLowered, AreGone}

-- ---- entries and their counts

-- an entry with a count is not 0
pub entry-pos : (x : ℕ) → 0 < x % 32768 → 0 < x
entry-pos zero h = absurd (omega arith)
entry-pos (suc x) h = omega arith

-- an entry one less has a count one less
pub pred-mod : (x : ℕ) → 0 < x % 32768 → (x - 1) % 32768 ≡ x % 32768 - 1
pred-mod x h =
    let l : x % 32768 < 32768 = mod-lt x (omega arith) in
    let e : x ≡ x / 32768 * 32768 + x % 32768 = sym (div-add-mod' x 32768) in
    let f : x - 1 ≡ x / 32768 * 32768 + (x % 32768 - 1) = omega arith in
    ap (λ y. y % 32768) f ∙ mod-mul-add (x / 32768) 32768 (x % 32768 - 1) (omega arith)

-- an entry one more has a count one more, where the count is small
pub suc-mod : (x : ℕ) → x % 32768 < 4096 → (x + 1) % 32768 ≡ x % 32768 + 1
suc-mod x h =
    let e : x ≡ x / 32768 * 32768 + x % 32768 = sym (div-add-mod' x 32768) in
    let f : x + 1 ≡ x / 32768 * 32768 + (x % 32768 + 1) = omega arith in
    ap (λ y. y % 32768) f ∙ mod-mul-add (x / 32768) 32768 (x % 32768 + 1) (omega arith)

-- an entry without a mark is its count
pub mod-small : (x : ℕ) → x < 32768 → x % 32768 ≡ x
mod-small x l = mod-eq_of_lt l

-- a count small enough, and one more: the mark was there
pub marked-before : (x : ℕ) → x % 32768 < 4096 → 32768 ≤ x + 1 → 32768 ≤ x
marked-before x few m = elim (cases_lt x 32768) [
  | inl l ↦ let e = mod-small x l in absurd (omega arith)
  | inr l ↦ l
]

-- ---- marks

pub gone-within : (D E : Flags) (T : Table) → AreGone D T → Within (has E) (has D) → AreGone E T
gone-within D E T h within c v d hv hd m = elim (cases_Bool (has E c v)) [
  | inl t ↦ absurd (true≢false (sym (within c v t) ∙ h c v d hv hd m))
  | inr f ↦ f
]

-- fewer marks
pub gone-fewer : (D : Flags) (T T' : Table) → AreGone D T → T'.values ≡ T.values → T'.dirs ≡ T.dirs → ((c v d : ℕ) → IsMarked T' c v d → IsMarked T c v d) → AreGone D T'
gone-fewer D T T' h same_values same_dirs fewer c v d hv hd m = h c v d (omega (arith, same_values)) (omega (arith, same_dirs)) (fewer c v d m)

-- a counter lowered
pub gone-lowered : (D : Flags) (T : Table) (n w d : ℕ) → AreGone D T → 0 < entry_of T n w d → count_place T.values T.dirs n w d < length T.counts → AreGone D (with_count T n w d (entry_of T n w d - 1))
gone-lowered D T n w d h pos inside c v e hv he m = h c v e hv he (elim (cases_eq (count_place T.values T.dirs c v e) (count_place T.values T.dirs n w d)) [
  | inl same ↦
      let is = entry-same T n w d (entry_of T n w d - 1) c v e same inside in
      let was : entry_of T c v e ≡ entry_of T n w d = ap (slice_index T.counts) same in
      omega arith
  | inr ne ↦ omega (arith, entry-other T n w d (entry_of T n w d - 1) c v e ne)
])

-- a counter raised
pub fewer-raised : (T : Table) (n w d : ℕ) → count_of T n w d < 4096 → count_place T.values T.dirs n w d < length T.counts → (c v e : ℕ) → IsMarked (with_count T n w d (entry_of T n w d + 1)) c v e → IsMarked T c v e
fewer-raised T n w d few inside c v e m = elim (cases_eq (count_place T.values T.dirs c v e) (count_place T.values T.dirs n w d)) [
  | inl same ↦
      let is = entry-same T n w d (entry_of T n w d + 1) c v e same inside in
      let was : entry_of T c v e ≡ entry_of T n w d = ap (slice_index T.counts) same in
      let b = marked-before (entry_of T n w d) few (omega arith) in
      omega arith
  | inr ne ↦ omega (arith, entry-other T n w d (entry_of T n w d + 1) c v e ne)
]

-- the marks of a value that does not stand
pub gone-marked : (D : Flags) (T T' : Table) (n w : ℕ) → AreGone D T → Marks T T' n w → has D n w ≡ false → AreGone D T'
gone-marked D T T' n w h k f c v d hv hd m =
    let hv' : v < T.values = omega (arith, k.same_values) in
    let hd' : d < T.dirs = omega (arith, k.same_dirs) in
    elim (k.marks c v d hv' hd' m) [
      | inl old ↦ h c v d hv' hd' old
      | inr here ↦ ap (λ x. has D x v) here.0 ∙ ap (has D n) here.1 ∙ f
    ]

-- the marks taken from a value that comes back
pub gone-unmarked : (D D' : Flags) (T T' : Table) (n w : ℕ) → AreGone D T → Unmarks T T' n w T.dirs → has D ≡ less (has D') n w → AreGone D' T'
gone-unmarked D D' T T' n w h k back c v d hv hd m =
    let hv' : v < T.values = omega (arith, k.same_values) in
    let hd' : d < T.dirs = omega (arith, k.same_dirs) in
    elim (cases_Bool (has D' c v)) [
      | inl t ↦
          let stays = less-keeps (has D') n w c v t (λ e f. k.cleared d hd' (subst (λ x. IsMarked T' n x d) f (subst (λ x. IsMarked T' x v d) e m))) in
          absurd (true≢false (sym stays ∙ ap (λ g. g c v) (sym back) ∙ h c v d hv' hd' (k.marks c v d m)))
      | inr f ↦ f
    ]

-- ---- the same counts

pub fits-same : (P : Network) (T T' : Table) → FitsTable P T → T'.cells ≡ T.cells → T'.values ≡ T.values → T'.dirs ≡ T.dirs → T'.limit ≡ T.limit → length T'.counts ≡ length T.counts → FitsTable P T'
fits-same P T T' h c v d m l = record {
  same_cells = c ∙ h.same_cells;
  same_values = v ∙ h.same_values;
  same_dirs = d ∙ h.same_dirs;
  few = λ x y. omega (arith, h.few x y, m);
  whole = l ∙ h.whole;
}

pub lowered-marked : (P : Network) (E : Test) (lowered : List ℕ) (T T' : Table) (n w : ℕ) → AreLowered P E lowered T → Marks T T' n w → AreLowered P E lowered T'
lowered-marked P E lowered T T' n w h k = record {
  fits = fits-same P T T' h.fits k.same_cells k.same_values k.same_dirs k.same_limit k.same_length;
  each = λ c v d hc hv hd. let now = h.each c v d hc hv hd in let same = k.counts c v d in omega arith;
}

pub lowered-unmarked : (P : Network) (E : Test) (lowered : List ℕ) (T T' : Table) (n w k : ℕ) → AreLowered P E lowered T → Unmarks T T' n w k → AreLowered P E lowered T'
lowered-unmarked P E lowered T T' n w k h u = record {
  fits = fits-same P T T' h.fits u.same_cells u.same_values u.same_dirs u.same_limit u.same_length;
  each = λ c v d hc hv hd. let now = h.each c v d hc hv hd in let same = u.counts c v d in omega arith;
}
