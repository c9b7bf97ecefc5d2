use Rattle.std.proofs.Common.{subst, ◌≡◌}
use Rattle.wfc_map_commands.proofs.FillGivenLemmas.{fill_tiles_given, given_fill_tiles}
use Rattle.wfc_map_commands.proofs.laws.fill_tasks_of_tiles_are_given.Goals as goal
use Rattle.wfc_map_commands.specs.FillGiven.{IsTileFillTask}
use Rattle.wfc_map_commands.specs.FillTask.{fill_tiles}
use Rattle.wfc_problem.specs.Network.{Network}
use Rattle.wfc_render.specs.declared.form.Layout.{Layout}
use Rattle.wfc_tiled.specs.Mask.{MaskView}
use Rattle.wfc_tileset.specs.Tiles.{TileSetView}

pub returns : goal.returns
returns c = record {
  task = λ kinds asked tiles files set mask layout P. (
    λ is.
        let given = fill_tiles_given kinds asked files (fill_tiles set mask layout P) tiles is in
        let same : given.0 ≡ set = cc (given.4) in
        let holes : given.1 ≡ mask = cc (given.4) in
        let written : given.2 ≡ layout = cc (given.4) in
        let problem : given.3 ≡ P = cc (given.4) in
        subst (λ (s : TileSetView). IsTileFillTask kinds asked files s mask layout P) same (subst (λ (m : MaskView). IsTileFillTask kinds asked files given.0 m layout P) holes
        (subst (λ (l : Layout). IsTileFillTask kinds asked files given.0 given.1 l P) written (subst (λ (q : Network). IsTileFillTask kinds asked files given.0 given.1 given.2 q) problem given.5))),
    given_fill_tiles kinds asked files set mask layout P tiles,
  );
}
