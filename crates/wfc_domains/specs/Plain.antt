-- What holds of a plain store between two calls.
use Rattle.std.specs.Prelude.{◌≡◌, All}
use Rattle.wfc_problem.specs.Domains.{IsLiteralIn}
use Rattle.wfc_domains.specs.Store.{StoreView}
use Rattle.wfc_domains.specs.Board.{view_of}
use Rattle.wfc_domains.specs.Swept.{IsClosed}
use Rattle.wfc_domains.specs.declared.plain.PlainStore.TheInside.{Inside}

-- what contracts see of it
abbrev pub plain_view : Inside → StoreView
plain_view a = view_of a.board

-- its board is closed, and it keeps the literals once more
pub record HoldsPlain (a : Inside) : Type 0 where
  pub closed : IsClosed a.board
  pub literals : a.literals.standing ≡ a.board.levels.standing
  pub literals_in : All (IsLiteralIn a.board.problem.now) a.literals.standing
  pub spare : a.literals.spare ≡ a.board.levels.spare
