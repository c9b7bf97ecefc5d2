use Rattle.std.proofs.Common.{◌≡◌, List, ℕ, Some, ap, sym, ◌∙◌}
use Rattle.wfc_tileset.specs.Pictures.{fitting_picture, next_name, tile_picture_of}
use Rattle.wfc_tileset.specs.Tiles.{PictureView, TileSetView}
use Rattle.wfc_tileset.proofs.DrawnLemmas.{next_is}
use Rattle.wfc_tileset.proofs.TileSet.next_picture.Goals as goal

pub returns-in-Some : goal.returns-in-Some
returns-in-Some c =
    let set = c.args.self.now in
    let bytes = c.args.bytes.now in
    let name : c.as_bytes.result.now ≡ next_name set = c.as_bytes.ensures.value ∙ c.next_name-name.ensures.value in
    let found : tile_picture_of (next_name set) bytes ≡ Some c.in-Some.picture =
    sym (c.in_ok-picture.ensures.value ∙ ap (λ (n : List ℕ). tile_picture_of n bytes) name) ∙ c.in-Some.is in
    let fits : c.fitting_picture.result ≡ fitting_picture set.pictures c.in-Some.picture =
    c.fitting_picture.ensures.exact ∙ ap (λ (ps : List PictureView). fitting_picture ps c.in-Some.picture) (c.deref.ensures.value ∙ ap (λ (s : TileSetView). s.pictures) c.self.view_is) in
    record { exact = next_is set bytes c.in-Some.picture c.fitting_picture.result found fits; picture = c.fitting_picture.ensures.picture }
