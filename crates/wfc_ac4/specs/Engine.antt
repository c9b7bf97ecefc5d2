-- What holds of an engine between two calls.
use Rattle.std.specs.Prelude.{◌≡◌, ◌≤◌, [], length}
use Rattle.wfc_log.specs.declared.Verdict.TheVariants.{Alive}
use Rattle.wfc_domains.specs.Store.{StoreView, IsSound, level_mark}
use Rattle.wfc_domains.specs.Board.{view_of, IsListed, IsTraced, HasLevels}
use Rattle.wfc_ac4.specs.Links.{AreLinks}
use Rattle.wfc_ac4.specs.State.{AreLowered, AreGone, counted_base}
use Rattle.wfc_ac4.specs.declared.Ac4.TheInside.{Inside}

-- what contracts see of it
abbrev pub engine_view : Inside → StoreView
engine_view a = view_of a.flight.board

-- the store is sound; the counters count what is not worked off; while it is alive, and before the last literal,
-- all is worked off; and its last level is in a list or long
pub record HoldsTogether (a : Inside) : Type 0 where
  pub sound : IsSound (view_of a.flight.board)
  pub traced : IsTraced a.flight.board
  pub levels : HasLevels (view_of a.flight.board)
  pub counters : AreLowered a.flight.board.problem.now (counted_base a.flight.board a.flight.head) [] a.flight.counters
  pub marks : AreGone a.flight.board.domains a.flight.counters
  pub in_log : a.flight.head ≤ length a.flight.board.trail.removals
  pub settled : a.flight.board.verdict ≡ Alive → a.flight.head ≡ length a.flight.board.trail.removals
  pub linked : AreLinks a.flight.board.problem.now a.links
  pub marked : level_mark a.flight.board.levels.marks ≤ a.flight.head
  pub listed : IsListed a.flight.board
