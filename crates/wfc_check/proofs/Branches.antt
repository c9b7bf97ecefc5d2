-- A branch that is put off, and one that comes back.
use Rattle.std.proofs.Common.{◌≡◌, ℕ, ◌+◌, ◌<◌, ◌≤◌, Bool, true, false, cond, [], ◌∷◌, refl, sym, ◌∙◌, ap, arith}
use Rattle.std.specs.Prelude.{not, ◌&&◌, ◌||◌, ◌==◌, nat_le, IsTrue}
use Rattle.std.proofs.lemmas.Bool.Decides.{nat_tests}
use Rattle.std.proofs.lemmas.Bool.{eqb-true}
use Rattle.wfc_problem.specs.Domains.{Test, with_literal}
use Rattle.wfc_problem.specs.Network.{IsProblem, in_base, values}
use Rattle.wfc_problem.specs.declared.Literal.TheVariants.{Is, Not}
use Rattle.wfc_check.specs.Entries.{behind_entry, put_off, TrailView, standing, waits_of, with_more, Resumes, Branches}
use Rattle.wfc_check.specs.declared.trail.Entry.{Entry}
use Rattle.wfc_check.proofs.Entries.{left_more, waiting_more, left_inside}
use Rattle.wfc_check.proofs.Kept.{taken, waits_at}

-- ---- one more entry

pub standing_more : (t : TrailView) (e : Entry) → standing (with_more t e) ≡ behind_entry (standing t) e
standing_more t e = left_more (in_base t.problem) t.entries e

pub waits_more : (t : TrailView) (e : Entry) → waits_of (with_more t e) ≡ put_off (standing t) (waits_of t) e
waits_more t e = waiting_more (in_base t.problem) [] t.entries e

-- ---- a branch comes back

pub waits_same : (start here new : TrailView) (e : Entry) → waits_of here ≡ waits_of start → here ≡ with_more new e → e.waits ≡ false → waits_of new ≡ waits_of start
waits_same start here new e same last w =
    sym (waits_more new e ∙ ap (λ b. cond b (with_literal (standing new) (Not e.value e.cell) ∷ waits_of new) (waits_of new)) w) ∙ ap waits_of (sym last) ∙ same

pub resumes : (start here new : TrailView) (e : Entry) → waits_of here ≡ waits_of start → here ≡ with_more new e → e.waits ≡ true
    → IsTrue (standing new e.cell e.value) → Resumes start new e
resumes start here new e same last w stands = record {
  stands = stands;
  waited = sym same ∙ ap waits_of last ∙ waits_more new e ∙ ap (λ b. cond b (with_literal (standing new) (Not e.value e.cell) ∷ waits_of new) (waits_of new)) w;
}

-- ---- the values beside one are taken away, from the least on

-- what is left below a value at the cell is that one alone
abbrev pub cut_below : Test → ℕ → ℕ → ℕ → Test
cut_below D c v n x w = D x w && (not (x == c) || (w == v || nat_le n w))

pub below_none : (D : Test) (c v x w : ℕ) → D x w ≡ cut_below D c v 0 x w
below_none D c v x w = all (D x w) (x == c) (w == v) (nat_le 0 w) (grind (arith, nat_tests))
  where
    all : (d a b l : Bool) → l ≡ true → d ≡ (d && (not a || (b || l)))
    all d a b l t = grind (arith, t)

le_next : (n w : ℕ) → nat_le (n + 1) w ≡ (nat_le n w && not (w == n))
le_next n w = grind (arith, nat_tests)

not_both : (n v w : ℕ) → not (n == v) ≡ true → ((w == v) && (w == n)) ≡ false
not_both n v w ne = grind (arith, nat_tests)

pub below_taken : (D : Test) (c v n x w : ℕ) → not (n == v) ≡ true → with_literal (cut_below D c v n) (Not n c) x w ≡ cut_below D c v (n + 1) x w
below_taken D c v n x w ne =
    one (D x w) (x == c) (w == v) (w == n) (nat_le n w) (not_both n v w ne)
    ∙ ap (λ l. D x w && (not (x == c) || (w == v || l))) (sym (le_next n w))
  where
    one : (d a b o l : Bool) → (b && o) ≡ false → ((d && (not a || (b || l))) && not (a && o)) ≡ (d && (not a || (b || (l && not o))))
    one true true true true l h = cc
    one true true true false l h = grind (arith, h)
    one true true false o l h = grind (arith, h)
    one true false b o l h = grind (arith, h)
    one false a b o l h = grind (arith, h)

pub below_skipped : (D : Test) (c v n x w : ℕ) → (not (n == v) && cut_below D c v n c n) ≡ false → cut_below D c v n x w ≡ cut_below D c v (n + 1) x w
below_skipped D c v n x w skip =
    one (D x w) (x == c) (w == v) (w == n) (nat_le n w) (λ a o.
    let e = eqb-true x c a in
    let f = eqb-true w n o in
    ap (λ y. not (w == v) && cut_below D c v n y w) e ∙ ap (λ y. not (y == v) && cut_below D c v n c y) f ∙ skip)
    ∙ ap (λ l. D x w && (not (x == c) || (w == v || l))) (sym (le_next n w))
  where
    one : (d a b o l : Bool) → (a ≡ true → o ≡ true → (not b && (d && (not a || (b || l)))) ≡ false) → (d && (not a || (b || l))) ≡ (d && (not a || (b || (l && not o))))
    one d false b o l h = grind arith
    one d true b false l h = grind arith
    one d true true true l h = grind arith
    one true true false true true h = h refl refl
    one true true false true false h = grind arith
    one false true false true l h = grind arith

pub below_all : (D : Test) (c v n : ℕ) → ((x w : ℕ) → D x w ≡ true → w < n) → (x w : ℕ) → cut_below D c v n x w ≡ with_literal D (Is v c) x w
below_all D c v n few x w = one (D x w) (x == c) (w == v) (nat_le n w) (λ t. let l = few x w t in grind (arith, nat_tests))
  where
    one : (d a b l : Bool) → (d ≡ true → l ≡ false) → (d && (not a || (b || l))) ≡ (d && (not a || b))
    one true a b l h = let f = h refl in grind (arith, f)
    one false a b l h = grind arith

-- the trail while they are taken away
pub record IsCutting (start here : TrailView) (c v n : ℕ) : Type 0 where
  pub same : here.problem ≡ start.problem
  pub each : (x w : ℕ) → standing here x w ≡ cut_below (standing start) c v n x w
  pub waiting : waits_of here ≡ with_literal (standing start) (Not v c) ∷ waits_of start

pub cutting_begins : (start here : TrailView) (c v : ℕ) → here ≡ with_more start (waits_at c v) → IsCutting start here c v 0
cutting_begins start here c v is = record {
  same = ap (λ t. t.problem) is;
  each = λ x w. ap (λ t. standing t x w) is ∙ ap (λ D. D x w) (standing_more start (waits_at c v)) ∙ below_none (standing start) c v x w;
  waiting = ap waits_of is ∙ waits_more start (waits_at c v);
}

pub cutting_taken : (start here new : TrailView) (c v n : ℕ) (b : Bool) → IsCutting start here c v n → b ≡ (not (n == v) && standing here c n) → b ≡ true
    → new ≡ with_more here (taken c n) → IsCutting start new c v (n + 1)
cutting_taken start here new c v n b h is t more =
    let ne : not (n == v) ≡ true = grind (arith, is, t) in
    record {
      same = ap (λ t. t.problem) more ∙ h.same;
      each = λ x w. ap (λ t. standing t x w) more ∙ ap (λ D. D x w) (standing_more here (taken c n))
          ∙ ap (λ y. y && not (x == c && w == n)) (h.each x w) ∙ below_taken (standing start) c v n x w ne;
      waiting = ap waits_of more ∙ waits_more here (taken c n) ∙ h.waiting;
    }

pub cutting_skipped : (start here : TrailView) (c v n : ℕ) (b : Bool) → IsCutting start here c v n → b ≡ (not (n == v) && standing here c n) → b ≡ false → IsCutting start here c v (n + 1)
cutting_skipped start here c v n b h is f = record {
  same = h.same;
  each = λ x w. h.each x w ∙ below_skipped (standing start) c v n x w (ap (λ y. not (n == v) && y) (sym (h.each c n)) ∙ sym is ∙ f);
  waiting = h.waiting;
}

pub cutting_ends : (start here : TrailView) (c v n : ℕ) → IsProblem start.problem → values start.problem ≤ n → IsCutting start here c v n → Branches start here c v
cutting_ends start here c v n p whole h = record {
  problem = h.same;
  first = λ i x w. each x w i;
  second = h.waiting;
}
  where
    each : (x w : ℕ) → standing here x w ≡ with_literal (standing start) (Is v c) x w
    each x w = h.each x w ∙ below_all (standing start) c v n (λ y z t. let s = left_inside start.problem p start.entries y z t in omega (arith, whole, s.1)) x w
