-- The problem of a request over told files, whatever its map is made of.
use Rattle.std.proofs.Common.{List, Ok, Result, ap, ◌∙◌, ◌≡◌}
use Rattle.wfc_outside.specs.Folder.{File}
use Rattle.wfc_plan.proofs.CallerLemmas.{done_is, outcome_on, outcome_parts}
use Rattle.wfc_plan.specs.Plan.{Plan, and_then, done, outcome}
use Rattle.wfc_plan.specs.declared.fault.Fault.{Fault}
use Rattle.wfc_problem.specs.Network.{Network}
use Rattle.wfc_task.proofs.GivenLemmas.{given_problem, given_sample, problem_given, sample_given}
use Rattle.wfc_task.proofs.TileGivenLemmas.{given_tiled, given_tiles, tiled_given, tiles_given}
use Rattle.wfc_task.specs.Posed.{OfSample, OfTiles, Posed, PosedBy, posed_plan, posed_plan_by, sample_problem_plan, tile_problem_plan}
use Rattle.wfc_task.specs.SamplePlans.{problem_plan, sample_plan}
use Rattle.wfc_task.specs.TilePlans.{tiled_plan, tiles_plan}
use Rattle.wfc_task.specs.declared.lesson.Taught.{Taught}
use Rattle.wfc_tiled.specs.Mask.{MaskView}
use Rattle.wfc_tileset.specs.Tiles.{TileSetView}
use Rattle.wfc_words.specs.RequestView.{RequestView}
use Rattle.wfc_words.specs.declared.kinds.SourceModel.{SourceModel}
use Rattle.wfc_words.specs.declared.kinds.SourceModel.TheVariants.{Overlap, Tiles}

-- the problem of a mask and a problem
abbrev pub problem_made : MaskView × Network → Plan Network
problem_made made = done made.1

-- what follows a tile set
abbrev pub behind_tiles : RequestView → TileSetView → Plan Network
behind_tiles asked set = and_then (tiled_plan asked set) problem_made

sample_posed : (asked : RequestView) (files : List File) (P : Network) → outcome (sample_problem_plan asked) files ≡ Ok P → OfSample asked files P
sample_posed asked files P is =
    let parts = outcome_parts (sample_plan asked) (problem_plan asked) files P is in
    record {
      kind = parts.0.kind;
      patterns = parts.0.patterns;
      palette = parts.0.palette;
      sample = sample_given asked files parts.0 parts.1;
      problem = problem_given asked files parts.0 P parts.2;
    }

posed_sample : (asked : RequestView) (files : List File) (P : Network) → OfSample asked files P → outcome (sample_problem_plan asked) files ≡ Ok P
posed_sample asked files P of =
    let lesson : Taught = record { kind = of.kind; palette = of.palette; patterns = of.patterns } in
    outcome_on (sample_plan asked) (problem_plan asked) files lesson (given_sample asked files of.kind of.patterns of.palette of.sample) ∙ given_problem asked files lesson P of.problem

tiles_posed : (asked : RequestView) (files : List File) (P : Network) → outcome (tile_problem_plan asked) files ≡ Ok P → OfTiles asked files P
tiles_posed asked files P is =
    let parts = outcome_parts (tiles_plan asked) (behind_tiles asked) files P is in
    let made = outcome_parts (tiled_plan asked parts.0) problem_made files P parts.2 in
    let same : made.0.1 ≡ P = done_is made.0.1 P files made.2 in
    record {
      set = parts.0;
      tiles = tiles_given asked files parts.0 parts.1;
      mask = made.0.0;
      problem = tiled_given asked files parts.0 made.0.0 P (made.1 ∙ ap (λ (P : Network). let end : Result (MaskView × Network) Fault = Ok (made.0.0, P) in end) same);
    }

posed_tiles : (asked : RequestView) (files : List File) (P : Network) → OfTiles asked files P → outcome (tile_problem_plan asked) files ≡ Ok P
posed_tiles asked files P of =
    outcome_on (tiles_plan asked) (behind_tiles asked) files of.set (given_tiles asked files of.set of.tiles)
    ∙ outcome_on (tiled_plan asked of.set) problem_made files (of.mask, P) (given_tiled asked files of.set of.mask P of.problem)

posed_given_by : (source : SourceModel) (asked : RequestView) (files : List File) (P : Network) → outcome (posed_plan_by source asked) files ≡ Ok P → PosedBy source asked files P
posed_given_by (Overlap n) asked files P is = sample_posed asked files P is
posed_given_by Tiles asked files P is = tiles_posed asked files P is

given_posed_by : (source : SourceModel) (asked : RequestView) (files : List File) (P : Network) → PosedBy source asked files P → outcome (posed_plan_by source asked) files ≡ Ok P
given_posed_by (Overlap n) asked files P of = posed_sample asked files P of
given_posed_by Tiles asked files P of = posed_tiles asked files P of

-- the problem of a request is made exactly where it is that of the files
pub posed_given : (asked : RequestView) (files : List File) (P : Network) → outcome (posed_plan asked) files ≡ Ok P → Posed asked files P
posed_given asked files P is = posed_given_by asked.source asked files P is

pub given_posed : (asked : RequestView) (files : List File) (P : Network) → Posed asked files P → outcome (posed_plan asked) files ≡ Ok P
given_posed asked files P of = given_posed_by asked.source asked files P of
