use Rattle.std.proofs.Common.{◌++◌, ℕ, List, ap, ◌∙◌}
use Rattle.wfc_picture.specs.declared.symbol.Symbol.{Symbol}
use Rattle.wfc_tileset.specs.Pictures.{kind_of}
use Rattle.wfc_render.specs.Drawn.{symbol_in}
use Rattle.wfc_render.specs.Map.{maxval_of}
use Rattle.wfc_render.specs.Tiled.{shown_at}
use Rattle.wfc_render.proofs.RangeLemmas.{written_next}
use Rattle.wfc_render.proofs.tiled.push_place.Goals as goal

pub loop-i-preserved : goal.loop-i-preserved
loop-i-preserved c =
    let set = c.args.tiles.now in
    let write : ℕ → List ℕ = λ i. symbol_in c.args.form (maxval_of (kind_of set.pictures)) (shown_at set c.args.j c.args.number i) in
    let maxval = c.maxval_of-maxval.ensures.value ∙ ap maxval_of c.kind.ensures.value in
    written_next write c.loop-i.i c.args.text.now.items c.loop-i.text.items c.push_symbol.new.text.items c.loop-i.invariant
    (c.in_ok-push_symbol.ensures.symbol
    ∙ ap (λ (m : ℕ). c.loop-i.text.items ++ symbol_in c.args.form m c.shown_symbol.result) maxval
    ∙ ap (λ (s : Symbol). c.loop-i.text.items ++ symbol_in c.args.form (maxval_of (kind_of set.pictures)) s) c.shown_symbol.ensures.value)
