use Rattle.std.proofs.Common.{◌≡◌, ◌+◌, ◌<◌, ◌∷◌, ◌++◌, [], List, ℕ, length, take, ap, subst, sym, ◌∙◌, arith}
use Rattle.std.proofs.lemmas.List.{length-take, take_more}
use Rattle.wfc_tileset.specs.Names.{AreNames, IsNoted}
use Rattle.wfc_tileset.specs.Tiles.{TileView}
use Rattle.wfc_tileset.proofs.NameLemmas.{one_more_name}
use Rattle.wfc_tileset.proofs.names.names_of.Goals as goal

pub loop-tile-preserved : goal.loop-tile-preserved
loop-tile-preserved c =
    let tiles = c.args.tiles.now in
    let i = c.loop-tile.tile-index in
    let tile = c.tile-item.result in
    let inside : i < length tiles = omega arith in
    let name = c.as_str.ensures.value ∙ ap (λ (t : TileView). t.name) c.tile.view_is in
    let noted = subst (λ (bs : List ℕ). IsNoted c.loop-tile.names c.note.new.names bs c.loop-tile.number) name c.in_ok-note.ensures.noted in
    let counted : c.loop-tile.number ≡ length (take i tiles) = omega (arith, length-take i tiles) in
    let next : take i tiles ++ tile ∷ [] ≡ take (i + 1) tiles = ap (λ (t : TileView). take i tiles ++ t ∷ []) c.tile-item.is ∙ sym (take_more tiles i tile inside) in
    record {
      names = subst (λ (ts : List TileView). AreNames c.note.new.names ts) next (one_more_name c.loop-tile.names c.note.new.names (take i tiles) tile c.loop-tile.number c.loop-tile.invariant.names counted noted);
      counted = omega arith;
    }
