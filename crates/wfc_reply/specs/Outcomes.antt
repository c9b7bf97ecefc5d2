-- How a command ends whose run ends so.
use Rattle.std.specs.Prelude.{ℕ}
use Rattle.wfc_reply.specs.declared.reply.CommandVerdict.{CommandVerdict}
use Rattle.wfc_reply.specs.declared.reply.CommandVerdict.TheVariants.{Done, MapExists, NoMap, Spent}
use Rattle.wfc_search.specs.declared.Outcome.{Outcome}
use Rattle.wfc_search.specs.declared.Outcome.TheVariants as outcome

-- how a command ends whose run ends so
abbrev pub verdict_of : ℕ → Outcome → CommandVerdict
verdict_of budget outcome.Map = Done
verdict_of budget outcome.NoMap = NoMap
verdict_of budget outcome.Spent = Spent budget

-- the status that a run which ends so has
abbrev pub outcome_status : Outcome → ℕ
outcome_status outcome.Map = 0
outcome_status outcome.NoMap = 1
outcome_status outcome.Spent = 2

-- how `refute` ends whose run ends so
abbrev pub refute_verdict : ℕ → Outcome → CommandVerdict
refute_verdict budget outcome.Map = MapExists
refute_verdict budget outcome.NoMap = Done
refute_verdict budget outcome.Spent = Spent budget

-- the status of a run that ends so: where there is no map, a refutation was written
abbrev pub refute_status : Outcome → ℕ
refute_status outcome.NoMap = 0
refute_status outcome.Map = 1
refute_status outcome.Spent = 2
