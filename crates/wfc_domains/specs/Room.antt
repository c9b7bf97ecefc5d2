-- What holds of the parts that levels are kept in.
use Rattle.std.specs.Prelude.{◌≡◌, ◌+◌, ◌≤◌, ◌<◌, ◌^◌, vec_len, vec_capacity}
use Rattle.wfc_domains.specs.declared.levels.Levels.TheInside.{Inside}

-- each literal has a mark, and there is room for the levels that are spare
pub record HasRoom (a : Inside) : Type 0 where
  pub one_mark_each : vec_len a.marks ≡ vec_len a.standing
  pub literals_fit : vec_len a.standing + a.spare ≤ vec_capacity a.standing
  pub marks_fit : vec_len a.marks + a.spare ≤ vec_capacity a.marks
  pub few : vec_len a.standing + a.spare < 2 ^ 32
