use Rattle.std.proofs.Common.{◌≡◌, List, length, Ok, subst, sym}
use Rattle.std.specs.Prelude.{IsSome}
use Rattle.wfc_outside.proofs.CallerLemmas.{gives_value}
use Rattle.wfc_tileset.specs.declared.fault.TileFault.TheVariants.{NoMemory}
use Rattle.wfc_tileset.specs.Pictures.{picture_for, picture_name}
use Rattle.wfc_tileset.specs.Tiles.{PictureView, TileSetView}
use Rattle.wfc_tileset.specs.TileSets.{HasClosedTables}
use Rattle.wfc_tileset.proofs.DrawnLemmas.{closed_more, next_fits}
use Rattle.wfc_tileset.proofs.TileSet.take_picture.Goals as goal

pub invariant_of-self-2 : goal.invariant_of-self-2
invariant_of-self-2 c =
    let set : TileSetView = record { tiles = c.self.inside.variants; pairs = c.self.inside.pairs.items; pictures = c.self.inside.pictures.items } in
    let bytes = c.args.bytes.now in
    let picture = c.in_ok-picture.picture in
    let named : IsSome (picture_name set (length set.pictures)) = subst (λ (s : TileSetView). IsSome (picture_name s (length s.pictures))) (sym c.self.view_is) c.requires.named in
    let given : picture_for c.args.self.now bytes ≡ Ok picture = gives_value NoMemory (λ (p : PictureView). p) picture (picture_for c.args.self.now bytes) c.in_ok-picture.ensures.exact in
    let next : Ok picture ≡ picture_for set bytes = sym (subst (λ (s : TileSetView). picture_for s bytes ≡ Ok picture) (sym c.self.view_is) given) in
    subst (λ (ps : List PictureView). HasClosedTables (record { tiles = set.tiles; pairs = set.pairs; pictures = ps }) c.self.inside.across.items c.self.inside.down.items)
    (sym c.in_ok-push.ensures.items)
    (closed_more set c.self.inside.across.items c.self.inside.down.items picture c.self.invariant named (next_fits set bytes picture c.in_ok-picture.ensures.picture next))
