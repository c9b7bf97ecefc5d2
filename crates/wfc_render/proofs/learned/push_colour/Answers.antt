use Rattle.std.proofs.Common.{append_assoc}
use Rattle.std.proofs.lemmas.Option.{get_or_from_slice_get}
use Rattle.wfc_picture.specs.declared.symbol.Symbol.TheVariants.{Char}
use Rattle.wfc_render.proofs.learned.push_colour.Goals as goal

pub returns : goal.returns
returns c =
    let shown = get_or_from_slice_get c.args.palette.now c.args.k c.symbol.result (Char 32) c.symbol.ensures.value in
    record { line = rw (c.in_ok-push-2.ensures.items, c.in_ok-push_symbol.ensures.symbol, c.in_ok-push.ensures.items, c.in_ok-push_number.ensures.ok, c.from.ensures, shown) (simp append_assoc) }
