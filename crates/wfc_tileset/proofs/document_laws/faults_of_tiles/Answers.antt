use Rattle.std.proofs.Common.{ℕ, nat_le, if◌then◌else◌, List, Result, Ok, Err, ap, refl, ◌∙◌}
use Rattle.std.specs.Prelude.{codes}
use Rattle.toml.specs.Data.{get_member}
use Rattle.wfc_tileset.specs.Document.{elements_in, few_variants, result_then, some_tiles}
use Rattle.wfc_tileset.specs.Tiles.{TileView}
use Rattle.wfc_tileset.specs.declared.fault.Key.TheVariants as key
use Rattle.wfc_tileset.specs.declared.fault.TileFault.{TileFault}
use Rattle.wfc_tileset.specs.declared.fault.TileFault.TheVariants as fault
use Rattle.wfc_tileset.specs.declared.variants.TheConstants.{MAX_VARIANTS}
use Rattle.wfc_tileset.proofs.DocumentSetLemmas.{behind_arrays, behind_tile_items, behind_tiles}
use Rattle.wfc_tileset.proofs.SaidPairLemmas.{then_ok}
use Rattle.wfc_tileset.proofs.document_laws.faults_of_tiles.Goals as goal

-- what so many variants are answered
abbrev few_of : List TileView → ℕ → Result (List TileView) TileFault
few_of tiles count = if nat_le count MAX_VARIANTS then Ok tiles else Err (fault.TooManyVariants count)

pub returns-clause-variants_before_pairs : goal.returns-clause-variants_before_pairs
returns-clause-variants_before_pairs c ms items pairs arrays many =
    then_ok (elements_in key.Tile (get_member (codes "tile") ms)) (behind_tile_items ms) items (ap (elements_in key.Tile) arrays.0)
    ∙ then_ok (elements_in key.Pair (get_member (codes "pair") ms)) (behind_arrays items) pairs (ap (elements_in key.Pair) arrays.1)
    ∙ ap (λ r. result_then r (behind_tiles pairs)) (then_ok (some_tiles items) few_variants many.0 many.1 ∙ ap (few_of many.0) many.2)

pub returns-clause-first : goal.returns-clause-first
returns-clause-first c = refl
