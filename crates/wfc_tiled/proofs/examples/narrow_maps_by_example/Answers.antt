use Rattle.std.proofs.Common.{inr, refl, arith}
use Rattle.wfc_tileset.specs.Samples.{straight_lines}
use Rattle.wfc_tiled.proofs.LegalMapLemmas.{refused_across, refused_down}
use Rattle.wfc_tiled.proofs.examples.narrow_maps_by_example.Goals as goal

pub returns-clause-across : goal.returns-clause-across
returns-clause-across c legal =
    refused_across straight_lines 1 1 refl (legal.across 0 0 0 (omega arith) (omega arith) (omega arith, inr (refl, refl, refl)) (0, omega arith, refl) (0, omega arith, refl))

pub returns-clause-down : goal.returns-clause-down
returns-clause-down c legal =
    refused_down straight_lines 0 0 refl (legal.down 0 0 0 (omega arith) (omega arith) (omega arith, inr (refl, refl, refl)) (0, omega arith, refl) (0, omega arith, refl))
