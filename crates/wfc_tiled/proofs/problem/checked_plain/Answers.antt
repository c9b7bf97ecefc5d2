use Rattle.std.proofs.Common.{◌≡◌, ◌*◌, inl, sym, ap, ◌∙◌}
use Rattle.wfc_tileset.specs.Tiles.{variant_total}
use Rattle.wfc_tiled.proofs.TileLemmas.{too_large}
use Rattle.wfc_tiled.proofs.problem.checked_plain.Goals as goal

pub returns-then-product-gt-MAX_PAIRS : goal.returns-then-product-gt-MAX_PAIRS
returns-then-product-gt-MAX_PAIRS c =
    let product : c.from.result * c.from-2.result * c.from-3.result ≡ c.args.width * c.args.height * variant_total c.args.tiles.now.tiles =
    ap (λ k. k * c.from-2.result * c.from-3.result) c.from.ensures ∙ ap (λ k. c.args.width * k * c.from-3.result) c.from-2.ensures
    ∙ ap (λ k. c.args.width * c.args.height * k) (c.from-3.ensures ∙ c.variants.ensures.value) in
    record { exact = inl (sym (too_large c.args.tiles.now c.args.width c.args.height _ product c.if-product-gt-MAX_PAIRS.true)) }
