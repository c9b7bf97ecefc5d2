-- Removals taken back.
use Rattle.std.proofs.Common.{◌≡◌, ℕ, ◌-◌, ◌<◌, ◌≤◌, List, [], ◌∷◌, ◌++◌, length, take, refl, sym, ◌∙◌, ap, subst, arith}
use Rattle.std.proofs.lemmas.List.{take-append-le, take_all, take_at, take-take, length_push}
use Rattle.wfc_problem.specs.Network.{in_base}
use Rattle.wfc_log.specs.declared.Removal.{Removal}
use Rattle.wfc_domains.specs.declared.board.Board.{Board}
use Rattle.wfc_log.specs.Domains.{has, less}
use Rattle.wfc_domains.specs.Counters.{Unmarks, Table, counter_place}
use Rattle.wfc_domains.specs.Removals.{without}
use Rattle.wfc_domains.specs.Board.{IsTraced, Regains}
use Rattle.wfc_problem.specs.Rounds.{depth_of}
use Rattle.wfc_domains.proofs.Problems.{base-in}
use Rattle.wfc_domains.proofs.Removals.{without-push, stood-few}
use Rattle.wfc_ac4.specs.Places.{times}
use Rattle.wfc_ac4.specs.State.{counted_base, AreGone, AreLowered, IsRolled, IsRaising}
use Rattle.wfc_ac4.proofs.MarkLemmas.{gone-fewer, gone-unmarked, lowered-unmarked}
use Rattle.wfc_ac4.proofs.Steps.{lowered-agree}

-- a front of a front
pub front-shorter : (old new all : List Removal) (r : Removal) → old ≡ new ++ r ∷ [] → old ≡ take (length old) all → new ≡ take (length new) all
front-shorter old new all r e f =
    sym (take_at new (r ∷ []) (length new) refl) ∙ ap (take (length new)) (sym e ∙ f) ∙ take-take (length new) (length old) all (omega (arith, ap length e, length_push new r))

-- it was worked off: the counters are those without it
pub start_raising : (b b' : Board) (T : Table) (head : ℕ) (r : Removal) → IsRolled b T head → Regains b b' r → length b'.trail.removals < head → IsRaising b'.problem.now (without (in_base b'.problem.now) b'.trail.removals) r.cell r.value [] T
start_raising b b' T head r h g l =
    let P = b.problem.now in
    let rs = b'.trail.removals in
    let all : take head b.trail.removals ≡ rs ++ r ∷ [] = take_all head b.trail.removals (omega (arith, ap length g.removals, length_push rs r)) ∙ g.removals in
    let counters = lowered-agree P _ _ [] T h.counters (ap (without (in_base P)) all ∙ without-push (in_base P) rs r) in
    subst (λ N. IsRaising N (without (in_base N) rs) r.cell r.value [] T) (sym (ap (λ (x : Board). x.problem.now) g.same)) (record {
      problem = h.traced.problem;
      counters = record {
        fits = counters.fits;
        each = λ c v d hc hv hd. let now = counters.each c v d hc hv hd in let none : times (counter_place P c v d) [] ≡ 0 = refl in omega arith;
      };
      stood = g.stood;
    })

-- it was pending: no counter changes
pub pending_back : (b b' : Board) (T : Table) (head : ℕ) (r : Removal) → IsRolled b T head → IsTraced b' → AreGone b'.domains T → Regains b b' r → head ≤ length b'.trail.removals → IsRolled b' T head
pending_back b b' T head r h t gone g l =
    let same : b'.problem ≡ b.problem = ap (λ (x : Board). x.problem) g.same in
    let P = b.problem.now in
    record {
      traced = t;
      marks = gone;
      counters = subst (λ N. AreLowered N (without (in_base N) (take head b'.trail.removals)) [] T) (sym (ap (λ p. p.now) same))
          (lowered-agree P _ _ [] T h.counters (ap (without (in_base P)) (ap (take head) g.removals ∙ take-append-le head b'.trail.removals (r ∷ []) l)));
      in_log = l;
    }

-- worked off, its counters are raised
pub worked_back : (b b' : Board) (T T' : Table) (head : ℕ) (r : Removal) → IsRolled b T head → IsTraced b' → AreGone b'.domains T' → Regains b b' r → length b'.trail.removals < head
    → AreLowered b'.problem.now (without (in_base b'.problem.now) b'.trail.removals) [] T' → IsRolled b' T' (head - 1)
worked_back b b' T T' head r h t gone g l counters = record {
  traced = t;
  marks = gone;
  counters = lowered-agree b'.problem.now _ _ [] T' counters (sym (ap (without (in_base b'.problem.now)) (take_all (head - 1) b'.trail.removals (omega (arith, h.in_log, ap length g.removals, length_push b'.trail.removals r)))));
  in_log = omega (arith, h.in_log, ap length g.removals, length_push b'.trail.removals r);
}

-- with the marks of the last removal taken away
pub rolled_unmarked : (b : Board) (T T' : Table) (head n w k : ℕ) → IsRolled b T head → Unmarks T T' n w k → IsRolled b T' head
rolled_unmarked b T T' head n w k h u = record {
  traced = h.traced;
  marks = gone-fewer b.domains T T' h.marks u.same_values u.same_dirs u.marks;
  counters = lowered-unmarked b.problem.now (counted_base b head) [] T T' n w k h.counters u;
  in_log = h.in_log;
}

-- and so none stands at the value that comes back
pub back_gone : (b b' : Board) (T T' : Table) (head : ℕ) (r : Removal) → IsRolled b T head → IsTraced b' → Regains b b' r → Unmarks T T' r.cell r.value T.dirs → AreGone b'.domains T'
back_gone b b' T T' head r h t g u =
    let N : b'.problem.now ≡ b.problem.now = ap (λ (x : Board). x.problem.now) g.same in
    let old : has b.domains ≡ without (in_base b.problem.now) b.trail.removals = h.traced.stands in
    let new : has b'.domains ≡ without (in_base b.problem.now) b'.trail.removals = t.stands ∙ ap (λ P. without (in_base P) b'.trail.removals) N in
    let back : has b.domains ≡ less (has b'.domains) r.cell r.value = old ∙ ap (without (in_base b.problem.now)) g.removals ∙ without-push (in_base b.problem.now) b'.trail.removals r ∙ ap (λ D. less D r.cell r.value) (sym new) in
    gone-unmarked b.domains b'.domains T T' r.cell r.value h.marks u back

-- a log has at most as many removals as there are pairs
pub log-depth : (b : Board) → IsTraced b → length b.trail.removals ≤ depth_of b.problem.now
log-depth b t = omega (arith, stood-few b.problem.now (in_base b.problem.now) b.trail.removals (λ c v s. base-in b.problem.now t.problem c v s) t.stood)
