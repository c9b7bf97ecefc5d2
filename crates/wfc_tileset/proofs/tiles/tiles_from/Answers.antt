use Rattle.std.proofs.Common.{◌≡◌, true, List, ℕ, length, ap, subst, sym, ◌∙◌, arith, rules}
use Rattle.std.proofs.lemmas.List.Elements.{All-push}
use Rattle.std.proofs.lemmas.Grind.{common_steps}
use Rattle.wfc_tileset.specs.Document.{fits_first}
use Rattle.wfc_tileset.specs.Names.{AreNames, IsNoted}
use Rattle.wfc_tileset.specs.Tiles.{TileView, HasWeight}
use Rattle.wfc_tileset.specs.TileSets.{AreAlike}
use Rattle.wfc_tileset.proofs.AlikeLemmas.{alike_more}
use Rattle.wfc_tileset.proofs.NameLemmas.{one_more_name}
use Rattle.wfc_tileset.proofs.tiles.tiles_from.Goals as goal

pub loop-element-preserved : goal.loop-element-preserved
loop-element-preserved c =
    let tiles = c.loop-element.tiles.items in
    let tile = c.in_ok-tile.tile in
    let fits = subst (λ (ts : List TileView). fits_first ts tile.picture ≡ true) c.deref.ensures.value c.in_ok-tile.ensures.alike in
    let name = c.as_str.ensures.value ∙ ap (λ (t : TileView). t.name) c.tile.view_is in
    let noted = subst (λ (bs : List ℕ). IsNoted c.loop-element.names c.note.new.names bs c.len.result) name c.in_ok-note.ensures.noted in
    let counted : c.len.result ≡ length tiles = search rules in
    record {
      so_far = grind (arith, common_steps);
      counted = grind (arith, common_steps);
      weighed = rw c.in_ok-push.ensures.items (All-push HasWeight _ _ c.loop-element.invariant.weighed c.in_ok-tile.ensures.weighed);
      alike = subst AreAlike (sym c.in_ok-push.ensures.items) (alike_more tiles tile c.loop-element.invariant.alike fits);
      names = subst (λ (ts : List TileView). AreNames c.note.new.names ts) (sym c.in_ok-push.ensures.items)
          (one_more_name c.loop-element.names c.note.new.names tiles tile c.len.result c.loop-element.invariant.names counted noted);
    }
