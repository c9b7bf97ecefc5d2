use Rattle.std.proofs.Common.{subst, ◌≡◌}
use Rattle.wfc_map_commands.proofs.LearnGivenLemmas.{given_learn_tiles, learn_tiles_given}
use Rattle.wfc_map_commands.proofs.laws.learn_tasks_of_tiles_are_given.Goals as goal
use Rattle.wfc_map_commands.specs.LearnTask.{learn_tiles}
use Rattle.wfc_task.specs.TileGiven.{IsTileSetOf}
use Rattle.wfc_tileset.specs.Tiles.{TileSetView}

pub returns : goal.returns
returns c = record {
  task = λ asked tiles files set. (
    λ is.
        let given = learn_tiles_given asked files (learn_tiles set) tiles is in
        let same : given.0 ≡ set = cc (given.1) in
        subst (λ (s : TileSetView). IsTileSetOf asked files s) same given.2,
    given_learn_tiles asked files set tiles,
  );
}
