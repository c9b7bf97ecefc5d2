use Rattle.std.proofs.Common.{List, subst, arith}
use Rattle.wfc_tileset.specs.Tiles.{TileView}
use Rattle.wfc_tileset.specs.Numbers.{IsNumbered}
use Rattle.wfc_tileset.proofs.VariantLemmas.{few_tiles}
use Rattle.wfc_tileset.proofs.variants.Variants.tiles.Goals as goal

pub returns-clause-few : goal.returns-clause-few
returns-clause-few c =
    let is = subst (λ (ts : List TileView). IsNumbered ts c.self.inside.list.items c.self.inside.first.items) c.self.view_is c.self.invariant in
    omega (arith, is.limit, few_tiles c.args.self.now)
