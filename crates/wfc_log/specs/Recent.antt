-- What holds of the parts that a log is kept in.
use Rattle.std.specs.Prelude.{◌+◌, ◌≤◌, ◌++◌, length, vec_len, vec_capacity}
use Rattle.wfc_log.specs.Log.{AreLogged}
use Rattle.wfc_log.specs.declared.trail.Trail.TheInside.{Inside}

-- there is room for all removals, as numbers and as a list, and each is one that there can be
pub record HasRoomForAll (a : Inside) : Type 0 where
  pub fits : length a.older.removals + vec_len a.list ≤ a.room
  pub number_room : a.room ≤ a.older.room
  pub list_room : a.room ≤ vec_capacity a.list
  pub logged : AreLogged a.older.extent a.older.extent.sizes (a.older.removals ++ a.list.items)
