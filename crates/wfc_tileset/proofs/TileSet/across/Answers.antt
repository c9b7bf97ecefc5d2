use Rattle.std.proofs.Common.{◌≡◌, ◌+◌, ◌*◌, ◌<◌, Bool, false, get_or, List, length, subst, ap, ◌∙◌}
use Rattle.std.specs.Prelude.{◌↔◌, IsTrue}
use Rattle.wfc_tileset.specs.Tiles.{TileSetView, variant_total, variant_at}
use Rattle.wfc_tileset.specs.Allowed.{IsAcross, across_pairs}
use Rattle.wfc_tileset.proofs.PairLemmas.{says}
use Rattle.wfc_tileset.proofs.TileSetLemmas.{length-across, across_says}
use Rattle.wfc_tileset.proofs.TileSet.across.Goals as goal

pub is_marked-requires-clause-square : goal.is_marked-requires-clause-square
is_marked-requires-clause-square c =
    let long : length c.self.inside.across.items ≡ variant_total c.self.inside.variants * variant_total c.self.inside.variants =
    length-across _ c.self.inside.across.items c.self.inside.down.items c.self.invariant in
    cc

pub returns : goal.returns
returns c =
    let P : TileSetView → Type 0 = λ set. c.args.left < variant_total set.tiles → c.args.right < variant_total set.tiles
    → IsTrue c.is_marked.result ↔ IsAcross set (variant_at set.tiles c.args.left) (variant_at set.tiles c.args.right) in
    let across_said = across_says _ c.self.inside.across.items c.self.inside.down.items c.args.left c.args.right c.is_marked.result c.self.invariant
    (c.is_marked.ensures.value ∙ ap (λ (flags : List Bool). get_or flags (c.args.left * variant_total c.self.inside.variants + c.args.right) false) c.deref.ensures.value) in
    let set = c.args.self.now in
    let allowed = subst P c.self.view_is across_said c.requires.left_in c.requires.right_in in
    record {
      allowed = allowed;
      value = says (across_pairs set) (variant_at set.tiles c.args.left) (variant_at set.tiles c.args.right) c.is_marked.result allowed;
    }
