-- What an engine's state says of the store that it is.
use Rattle.std.proofs.Common.{◌≡◌, ℕ, ◌+◌, List, [], ◌++◌, length, take, refl, sym, ◌∙◌, ap, subst, arith}
use Rattle.std.proofs.lemmas.List.{take_all, take-append-le, length-append}
use Rattle.wfc_problem.specs.Network.{neighbour, in_base}
use Rattle.wfc_problem.specs.Domains.{Within, IsArcConsistent}
use Rattle.wfc_log.specs.declared.Removal.{Removal}
use Rattle.wfc_log.specs.declared.Verdict.TheVariants.{Alive}
use Rattle.wfc_domains.specs.declared.board.Board.{Board}
use Rattle.wfc_log.specs.Domains.{has}
use Rattle.wfc_domains.specs.Counters.{HasCounts, Table, counter_place}
use Rattle.wfc_domains.specs.Removals.{without}
use Rattle.wfc_domains.specs.Store.{IsSound, IsOpening, IsVerdict, left_of, level_mark, all_but_last, without_last}
use Rattle.wfc_domains.specs.Heights.{Heights}
use Rattle.wfc_domains.specs.Board.{view_of, IsTraced, IsBoard, IsCut}
use Rattle.wfc_domains.proofs.Problems.{consistent-from_counts, counts-from_consistent, greatest-consistent, neighbour-dir}
use Rattle.wfc_domains.proofs.Removals.{without-in}
use Rattle.wfc_domains.proofs.Boards.{stands-in}
use Rattle.wfc_domains.proofs.Sound.{sound-from}
use Rattle.wfc_ac4.specs.Places.{times}
use Rattle.wfc_ac4.specs.State.{AreGone, AreLowered, HaveSupport, IsBetweenRemovals, counted_base}
use Rattle.wfc_ac4.proofs.MarkLemmas.{gone-within}
use Rattle.wfc_ac4.proofs.Steps.{lowered-agree}

-- with nothing pending the counters count what stands
pub settled-counts : (b : Board) (T : Table) (head : ℕ) → AreLowered b.problem.now (counted_base b head) [] T → head ≡ length b.trail.removals → AreLowered b.problem.now (left_of (view_of b)) [] T
settled-counts b T head h e = lowered-agree b.problem.now _ _ [] T h (ap (without (in_base b.problem.now)) (take_all head b.trail.removals (omega arith)))

pub settled-table : (b : Board) (T : Table) (head : ℕ) → AreLowered b.problem.now (counted_base b head) [] T → head ≡ length b.trail.removals → HasCounts b.problem.now (left_of (view_of b)) T
settled-table b T head h e = λ c v d hc hv hd.
    let is = (settled-counts b T head h e).each c v d hc hv hd in
    let none : times (counter_place b.problem.now c v d) [] ≡ 0 = refl in
    omega arith

-- and so what stands is consistent
settled-consistent : (b : Board) (T : Table) (head : ℕ) → IsBetweenRemovals b T head → b.verdict ≡ Alive → head ≡ length b.trail.removals → IsArcConsistent b.problem.now (left_of (view_of b))
settled-consistent b T head h alive e =
    let P = b.problem.now in
    consistent-from_counts P (left_of (view_of b)) (λ c v d n t beside.
    let range = without-in P h.board.traced.problem b.trail.removals c v t in
    let now = (settled-counts b T head h.counters e).each c v d range.0 range.1 (neighbour-dir P c d n beside) in
    let none : times (counter_place P c v d) [] ≡ 0 = refl in
    let pos = h.supported alive c v d n (ap (λ f. f c v) h.board.traced.stands ∙ t) beside in
    omega arith)

-- an engine between two removals, with nothing pending while it is alive, is a sound store
pub between-sound : (b : Board) (T : Table) (head : ℕ) → IsBetweenRemovals b T head → (b.verdict ≡ Alive → head ≡ length b.trail.removals)
    → (b.levels.standing ≡ [] → IsOpening b.problem.now b.trail.removals b.verdict) → IsSound (view_of b)
between-sound b T head h settled opening =
    sound-from b h.board (λ alive c v t. h.cut alive c v (ap (λ f. f c v) h.board.traced.stands ∙ t)) (λ alive. settled-consistent b T head h alive (settled alive)) opening

-- a sound store that is alive has support for each value
pub alive-supported : (b : Board) (T : Table) (head : ℕ) → IsTraced b → IsSound (view_of b) → AreLowered b.problem.now (counted_base b head) [] T → head ≡ length b.trail.removals → HaveSupport b T
alive-supported b T head t sound counters e alive c v d n stands beside =
    let P = b.problem.now in
    let told = subst (IsVerdict P b.levels.standing (left_of (view_of b))) alive sound.verdict in
    let range = stands-in b t c v stands in
    let now = (settled-counts b T head counters e).each c v d range.0 range.1 (neighbour-dir P c d n beside) in
    let none : times (counter_place P c v d) [] ≡ 0 = refl in
    let pos = counts-from_consistent P (left_of (view_of b)) (greatest-consistent P b.levels.standing (left_of (view_of b)) told.0) c v d n (ap (λ f. f c v) (sym t.stands) ∙ stands) beside in
    omega arith

-- the same domains and log, under one literal more, and after what it cut
pub put-between : (old new : Board) (T : Table) (head : ℕ) → IsTraced old → IsSound (view_of old) → old.verdict ≡ Alive → AreLowered old.problem.now (counted_base old head) [] T → head ≡ length old.trail.removals → AreGone old.domains T
    → IsBoard new → IsCut new → new.problem ≡ old.problem → (more : List Removal) → new.trail.removals ≡ old.trail.removals ++ more → Within (has new.domains) (has old.domains) → IsBetweenRemovals new T head
put-between old new T head t sound alive counters e gone board cut same more log within = record {
  board = board;
  cut = cut;
  counters = subst (λ P. AreLowered P (without (in_base P) (take head new.trail.removals)) [] T) (sym (ap (λ p. p.now) same))
      (lowered-agree old.problem.now _ _ [] T counters (ap (without (in_base old.problem.now)) (sym (ap (take head) log ∙ take-append-le head old.trail.removals more (omega arith)))));
  marks = gone-within old.domains new.domains T gone within;
  supported = λ still c v d n stands beside. alive-supported old T head t sound counters e alive c v d n (within c v stands) (ap (λ p. neighbour p.now c d) (sym same) ∙ beside);
  in_log = omega (arith, ap length log, length-append old.trail.removals more);
}

-- rolled back and with its last level popped, a store is as it was before its last literal
pub undone-is : (b rolled : Board) (levels : Heights) (mark : ℕ) → mark ≡ level_mark b.levels.marks → rolled.problem ≡ b.problem → rolled.levels ≡ b.levels → rolled.trail.removals ≡ take mark b.trail.removals
    → levels ≡ record { standing = all_but_last rolled.levels.standing; marks = all_but_last rolled.levels.marks; spare = rolled.levels.spare + 1 }
    → view_of (record rolled { levels = levels; verdict = Alive }) ≡ without_last (view_of b)
undone-is b rolled levels mark is_mark same same_levels removals popped =
    let l : levels ≡ record { standing = all_but_last b.levels.standing; marks = all_but_last b.levels.marks; spare = b.levels.spare + 1 } =
    popped ∙ ap (λ (x : Heights). record { standing = all_but_last x.standing; marks = all_but_last x.marks; spare = x.spare + 1 }) same_levels in
    let rs : rolled.trail.removals ≡ take (level_mark b.levels.marks) b.trail.removals = removals ∙ ap (λ n. take n b.trail.removals) is_mark in
    λ i. record {
      problem = (same i).now;
      standing = (l i).standing;
      spare = (l i).spare;
      removals = rs i;
      marks = (l i).marks;
      verdict = Alive;
    }
