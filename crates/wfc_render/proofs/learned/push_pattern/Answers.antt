use Rattle.std.proofs.Common.{append_assoc, []}
use Rattle.std.proofs.lemmas.Option.{get_or_from_slice_get}
use Rattle.wfc_render.proofs.learned.push_pattern.Goals as goal

pub returns : goal.returns
returns c =
    let window = get_or_from_slice_get c.args.patterns.now.windows c.args.p c.window.result.now [] c.window.ensures.value in
    record { line = rw (c.in_ok-push-3.ensures.items, c.in_ok-push_numbers.ensures.numbers, c.in_ok-push-2.ensures.items, c.in_ok-push_number-2.ensures.ok, c.in_ok-push.ensures.items, c.in_ok-push_number.ensures.ok, c.from.ensures, c.from-2.ensures, c.weight.ensures.value, window) (simp append_assoc) }
