use Rattle.std.proofs.Common.{List, length, subst, arith, ◌≡◌}
use Rattle.wfc_tileset.specs.Tiles.{TileView, variant_total}
use Rattle.wfc_tileset.specs.Numbers.{IsNumbered}
use Rattle.wfc_tileset.proofs.VariantLemmas.{length_listed}
use Rattle.wfc_tileset.proofs.variants.Variants.count.Goals as goal

pub overflow_cast-result : goal.overflow_cast-result
overflow_cast-result c =
    let is = subst (λ (ts : List TileView). IsNumbered ts c.self.inside.list.items c.self.inside.first.items) c.self.view_is c.self.invariant in
    let long : length c.self.inside.list.items ≡ variant_total c.args.self.now = length_listed _ _ _ is in
    omega (arith, is.limit)

pub returns-clause-value : goal.returns-clause-value
returns-clause-value c =
    let is = subst (λ (ts : List TileView). IsNumbered ts c.self.inside.list.items c.self.inside.first.items) c.self.view_is c.self.invariant in
    let long : length c.self.inside.list.items ≡ variant_total c.args.self.now = length_listed _ _ _ is in
    omega arith

pub returns-clause-limit : goal.returns-clause-limit
returns-clause-limit c =
    let is = subst (λ (ts : List TileView). IsNumbered ts c.self.inside.list.items c.self.inside.first.items) c.self.view_is c.self.invariant in
    let long : length c.self.inside.list.items ≡ variant_total c.args.self.now = length_listed _ _ _ is in
    omega (arith, is.limit)
