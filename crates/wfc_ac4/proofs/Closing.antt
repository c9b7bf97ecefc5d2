-- A growing log worked off: its steps, and the removals of its last level.
use Rattle.std.proofs.Common.{◌≡◌, ℕ, ◌+◌, ◌<◌, ◌≤◌, List, ◌++◌, length, get_or, take, drop, sym, ◌∙◌, ap, arith, Some}
use Rattle.std.specs.Prelude.{slice_get}
use Rattle.std.proofs.lemmas.List.{take-append-le, length-drop, get_or-drop}
use Rattle.std.proofs.lemmas.Option.{slice_get-get_or}
use Rattle.wfc_problem.specs.Network.{Network}
use Rattle.wfc_log.specs.declared.Removal.{Removal}
use Rattle.wfc_domains.specs.declared.board.Board.{Board}
use Rattle.wfc_domains.specs.Board.{IsBoard, Grows}
use Rattle.wfc_domains.specs.Counters.{Table, cost_of}
use Rattle.wfc_ac4.specs.State.{IsBetweenRemovals}

-- the cost of a front is that of the same front of a longer log
pub cost-front : (P : Network) (k : ℕ) (old new more : List Removal) → new ≡ old ++ more → k ≤ length old → cost_of P (take k new) ≡ cost_of P (take k old)
cost-front P k old new more e l = ap (cost_of P) (ap (take k) e ∙ take-append-le k old more l)

-- a place of the last level is one of the log, behind those of earlier levels
pub last-in : (rs xs : List Removal) (begun start at : ℕ) → xs ≡ drop begun rs → begun ≡ start → at < length xs → start + at < length rs
last-in rs xs begun start at e same inside = omega (arith, ap length e, length-drop begun rs, same, inside)

-- and the same removal stands there
pub last-at : (rs xs : List Removal) (begun start at : ℕ) (d : Removal) → xs ≡ drop begun rs → begun ≡ start → at < length xs → slice_get rs (start + at) ≡ Some (get_or xs at d)
last-at rs xs begun start at d e same inside =
    let there : get_or xs at d ≡ get_or rs (start + at) d = ap (λ ys. get_or ys at d) e ∙ get_or-drop begun rs at d ∙ ap (λ n. get_or rs (n + at) d) same in
    slice_get-get_or rs (start + at) d (last-in rs xs begun start at e same inside) ∙ ap Some (sym there)

-- ---- the list begun at another removal

-- a board says nothing of where the list begins
board-listed : (b : Board) (s : ℕ) → IsBoard b → IsBoard (record b { trail = record b.trail { start = s } })
board-listed b s h =
    let t = h.traced in
    record {
      traced = record { problem = t.problem; same_cells = t.same_cells; same_values = t.same_values; whole = t.whole; stands = t.stands; stood = t.stood; room = t.room; extent = t.extent };
      levels = h.levels;
      added = h.added;
      filled = h.filled;
      empty = h.empty;
    }

-- nor does the state between removals
pub between-listed : (b : Board) (T : Table) (head s : ℕ) → IsBetweenRemovals b T head → IsBetweenRemovals (record b { trail = record b.trail { start = s } }) T head
between-listed b T head s h = record {
  board = board-listed b s h.board;
  cut = h.cut;
  counters = h.counters;
  supported = h.supported;
  marks = h.marks;
  in_log = h.in_log;
}

-- nor what a board grew by
pub grows-listed : (a b : Board) (s : ℕ) → Grows a b → Grows a (record b { trail = record b.trail { start = s } })
grows-listed a b s h = record { problem = h.problem; levels = h.levels; more = h.more; removals = h.removals; room = h.room }
