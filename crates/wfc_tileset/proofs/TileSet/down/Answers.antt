use Rattle.std.proofs.Common.{◌≡◌, ◌+◌, ◌*◌, ◌<◌, Bool, false, get_or, List, length, subst, ap, ◌∙◌}
use Rattle.std.specs.Prelude.{◌↔◌, IsTrue}
use Rattle.wfc_tileset.specs.Tiles.{TileSetView, variant_total, variant_at}
use Rattle.wfc_tileset.specs.Allowed.{IsDown, down_pairs}
use Rattle.wfc_tileset.proofs.PairLemmas.{says}
use Rattle.wfc_tileset.proofs.TileSetLemmas.{length-down, down_says}
use Rattle.wfc_tileset.proofs.TileSet.down.Goals as goal

pub is_marked-requires-clause-square : goal.is_marked-requires-clause-square
is_marked-requires-clause-square c =
    let long : length c.self.inside.down.items ≡ variant_total c.self.inside.variants * variant_total c.self.inside.variants =
    length-down _ c.self.inside.across.items c.self.inside.down.items c.self.invariant in
    cc

pub returns : goal.returns
returns c =
    let P : TileSetView → Type 0 = λ set. c.args.upper < variant_total set.tiles → c.args.lower < variant_total set.tiles
    → IsTrue c.is_marked.result ↔ IsDown set (variant_at set.tiles c.args.upper) (variant_at set.tiles c.args.lower) in
    let down_said = down_says _ c.self.inside.across.items c.self.inside.down.items c.args.upper c.args.lower c.is_marked.result c.self.invariant
    (c.is_marked.ensures.value ∙ ap (λ (flags : List Bool). get_or flags (c.args.upper * variant_total c.self.inside.variants + c.args.lower) false) c.deref.ensures.value) in
    let set = c.args.self.now in
    let allowed = subst P c.self.view_is down_said c.requires.upper_in c.requires.lower_in in
    record {
      allowed = allowed;
      value = says (down_pairs set) (variant_at set.tiles c.args.upper) (variant_at set.tiles c.args.lower) c.is_marked.result allowed;
    }
