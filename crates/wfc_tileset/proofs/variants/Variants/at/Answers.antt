use Rattle.std.proofs.Common.{List, length, subst, sym, arith, ◌≡◌}
use Rattle.wfc_tileset.specs.Tiles.{TileView, variant_total}
use Rattle.wfc_tileset.specs.Numbers.{IsNumbered, IsVariant}
use Rattle.wfc_tileset.proofs.VariantLemmas.{length_listed, listed_at, variant_there}
use Rattle.wfc_tileset.proofs.variants.Variants.at.Goals as goal

pub index-requires : goal.index-requires
index-requires c =
    let is = subst (λ (ts : List TileView). IsNumbered ts c.self.inside.list.items c.self.inside.first.items) c.self.view_is c.self.invariant in
    let long : length c.self.inside.list.items ≡ variant_total c.args.self.now = length_listed _ _ _ is in
    omega arith

pub returns-clause-value : goal.returns-clause-value
returns-clause-value c =
    let is = subst (λ (ts : List TileView). IsNumbered ts c.self.inside.list.items c.self.inside.first.items) c.self.view_is c.self.invariant in
    listed_at _ _ _ is c.args.v c.index.result.now c.requires.v_in c.index.ensures

pub returns-clause-variant : goal.returns-clause-variant
returns-clause-variant c =
    let is = subst (λ (ts : List TileView). IsNumbered ts c.self.inside.list.items c.self.inside.first.items) c.self.view_is c.self.invariant in
    subst (IsVariant c.args.self.now) (sym (listed_at _ _ _ is c.args.v c.index.result.now c.requires.v_in c.index.ensures)) (variant_there c.args.self.now c.args.v c.requires.v_in)
