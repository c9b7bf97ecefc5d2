use Rattle.std.proofs.Common.{◌≡◌, ◌≤◌, ℕ, length, ap, subst, sym, ◌∙◌, arith}
use Rattle.std.specs.Str.{IsCharBoundary}
use Rattle.wfc_tileset.specs.Document.{name_length}
use Rattle.wfc_tileset.proofs.NameLemmas.{name_boundary}
use Rattle.wfc_tileset.proofs.pairs.pair_end_from.Goals as goal

pub range-requires-clause-end_boundary : goal.range-requires-clause-end_boundary
range-requires-clause-end_boundary c =
    let text = c.args.text.now in
    let at : c.name_length-length.result ≡ name_length text = c.name_length-length.ensures.value ∙ ap name_length c.as_bytes.ensures.value in
    let within : c.name_length-length.result ≤ length text = omega (arith, ap length c.as_bytes.ensures.value) in
    subst (IsCharBoundary text) (sym at) (name_boundary text (subst (λ (n : ℕ). n ≤ length text) at within))
