use Rattle.std.proofs.Common.{◌≡◌, ℕ, ◌∙◌, List, Some, sym, subst, ap}
use Rattle.wfc_tileset.specs.Tiles.{TileView, TileSetView, SpellsVariant, variant_of}
use Rattle.wfc_tileset.specs.Numbers.{IsNamed}
use Rattle.wfc_tileset.proofs.SpellingLemmas.{spelled, no_parts, no_tile, none_before, first_variant, no_variant}
use Rattle.wfc_tileset.proofs.TileSet.find.Goals as goal

pub returns-in_err-name-clause-none : goal.returns-in_err-name-clause-none
returns-in_err-name-clause-none c = rw c.from_residual.ensures (no_parts c.args.self.now.tiles c.args.word.now c.in_err-name.ensures.none)

pub returns-in_err-tile-clause-none : goal.returns-in_err-tile-clause-none
returns-in_err-tile-clause-none c =
    let tiles_are = ap (λ (set : TileSetView). set.tiles) c.self.view_is in
    let none = subst (λ (ts : List TileView). (t : ℕ) → IsNamed ts c.in_ok-name.name.now c.in_ok-name.index t → ⊥) tiles_are c.in_err-tile.ensures.none in
    rw c.from_residual-in_err-tile.ensures (no_tile c.args.self.now.tiles c.args.word.now c.in_ok-name.name.now c.in_ok-name.index c.in_ok-name.ensures.parts none)

pub returns-clause-found : goal.returns-clause-found
returns-clause-found c =
    let tiles_are = ap (λ (set : TileSetView). set.tiles) c.self.view_is in
    let is = spelled c.self.inside.variants c.args.word.now c.in_ok-name.name.now c.in_ok-tile.tile c.in_ok-name.index c.in_ok-tile.ensures.found c.in_ok-name.ensures.parts in
    subst (λ (ts : List TileView). SpellsVariant ts c.args.word.now c.number.result) tiles_are (subst (SpellsVariant c.self.inside.variants c.args.word.now) (sym c.number.ensures.value) is)

pub returns-in_err-name-clause-exact : goal.returns-in_err-name-clause-exact
returns-in_err-name-clause-exact c =
    rw c.from_residual.ensures (sym (no_variant _ _ (no_parts c.args.self.now.tiles c.args.word.now c.in_err-name.ensures.none)))

pub returns-in_err-tile-clause-exact : goal.returns-in_err-tile-clause-exact
returns-in_err-tile-clause-exact c =
    let tiles_are = ap (λ (set : TileSetView). set.tiles) c.self.view_is in
    let none = subst (λ (ts : List TileView). (t : ℕ) → IsNamed ts c.in_ok-name.name.now c.in_ok-name.index t → ⊥) tiles_are c.in_err-tile.ensures.none in
    rw c.from_residual-in_err-tile.ensures
    (sym (no_variant _ _ (no_tile c.args.self.now.tiles c.args.word.now c.in_ok-name.name.now c.in_ok-name.index c.in_ok-name.ensures.parts none)))

pub returns-clause-exact : goal.returns-clause-exact
returns-clause-exact c =
    let tiles_are = ap (λ (set : TileSetView). set.tiles) c.self.view_is in
    let is = spelled c.self.inside.variants c.args.word.now c.in_ok-name.name.now c.in_ok-tile.tile c.in_ok-name.index c.in_ok-tile.ensures.found c.in_ok-name.ensures.parts in
    let none = none_before c.self.inside.variants c.args.word.now c.in_ok-name.name.now c.in_ok-tile.tile c.in_ok-name.index c.in_ok-name.ensures.parts c.in_ok-tile.ensures.first in
    let first = first_variant c.self.inside.variants c.args.word.now _ is none in
    subst (λ (ts : List TileView). Some c.number.result ≡ variant_of ts c.args.word.now) tiles_are (ap Some c.number.ensures.value ∙ sym first)
