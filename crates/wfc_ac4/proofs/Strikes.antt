-- A value struck: removed and marked, or not there.
use Rattle.std.proofs.Common.{◌≡◌, ℕ, ◌-◌, List, refl, sym, ap, subst, inl, inr}
use Rattle.wfc_problem.specs.Network.{Network}
use Rattle.wfc_domains.specs.Counters.{Table, entry_of, with_count}
use Rattle.wfc_domains.specs.Board.{Grows}
use Rattle.wfc_domains.proofs.Boards.{board_without-gone, grows-board_without, grows-none}
use Rattle.wfc_ac4.specs.declared.flight.Flight.{Flight}
use Rattle.wfc_ac4.specs.State.{IsWorking}
use Rattle.wfc_ac4.specs.Flight.{GoesOn, IsStruck}
use Rattle.wfc_ac4.proofs.Steps.{SideStep, step_removed, step_lowered, working-marked}

-- the log goes on
pub struck_on : (old new : Flight) (T U : Table) (n w d : ℕ) → IsStruck old new T U n w d → GoesOn old new
struck_on old new T U n w d s = elim s [
  | inl x ↦ record { grows = subst (Grows old.board) (sym x.board.same) (grows-board_without old.board _ _ _ _); start = ap (λ b. b.trail.start) x.board.same; head = x.head }
  | inr x ↦ subst (GoesOn old) (sym x.same) (record { grows = grows-none old.board; start = refl; head = refl })
]

-- the limit of the counts stays
pub struck_limit : (old new : Flight) (T U : Table) (n w d : ℕ) → IsStruck old new T U n w d → U.limit ≡ T.limit
struck_limit old new T U n w d s = elim s [ inl x ↦ x.marks.same_limit | inr x ↦ ap (λ t. t.limit) x.same_counts ]

-- the state after a counter has come to 0, and its value is struck
pub struck_working : (old new : Flight) (T S U : Table) (k c v n w d : ℕ) (lowered : List ℕ) (next : Network → List ℕ)
    → IsWorking old.board T k c v lowered → SideStep old.board.problem.now lowered (next old.board.problem.now) c v n w d T
    → S ≡ with_count T n w d (entry_of T n w d - 1) → entry_of T n w d ≡ 1 → IsStruck old new S U n w d
    → IsWorking new.board U k c v (next new.board.problem.now)
struck_working old new T S U k c v n w d lowered next h s is_table one_left struck = elim struck [
  | inl x ↦
      let r = step_removed old.board new.board T S k c v lowered next n w d h s is_table x.alive one_left x.board in
      working-marked new.board S U k c v n w _ r x.marks (board_without-gone x.board.less)
  | inr x ↦
      subst (λ (f : Flight). IsWorking f.board U k c v (next f.board.problem.now)) (sym x.same)
      (subst (λ (t : Table). IsWorking old.board t k c v (next old.board.problem.now)) (sym x.same_counts)
      (step_lowered old.board T S k c v lowered (next old.board.problem.now) n w d h s is_table (λ alive _ stands. x.gone alive stands)))
]

-- the same of a value and a direction that are called otherwise
pub struck_as : (old new : Flight) (T U : Table) (n w w' d d' : ℕ) → w ≡ w' → d ≡ d' → IsStruck old new T U n w d → IsStruck old new T U n w' d'
struck_as old new T U n w w' d d' value way struck = subst (λ v. IsStruck old new T U n v d') value (subst (IsStruck old new T U n w) way struck)
