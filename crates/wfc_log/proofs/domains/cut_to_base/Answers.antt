-- Each flag is that of the base, and as many there are.
use Rattle.std.proofs.Common.{◌≡◌, ◌*◌, false, refl, arith}
use Rattle.std.proofs.lemmas.List.{ext_get_or}
use Rattle.wfc_problem.specs.Network.{values}
use Rattle.wfc_log.proofs.domains.cut_to_base.Goals as goal

pub returns : goal.returns
returns c =
    let h = c.loop-place.invariant in
    let P = c.args.problem.now in
    let table = c.cells.ensures.problem.sized.base_table in
    let end : c.cells.result * c.values.result ≡ P.cells * values P = rw (c.cells.ensures.value, c.values.ensures.value) refl in
    record { base = ext_get_or false _ _ h.as_long (λ k l. h.done k (omega (arith, l, h.as_long, table, end))) }
