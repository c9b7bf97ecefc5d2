-- As many flags as there are pairs, all of them set, are a whole base.
use Rattle.std.proofs.Common.{◌≡◌, ◌*◌, refl, sym, ◌∙◌, arith}
use Rattle.wfc_problem.specs.Network.{values}
use Rattle.wfc_problem.proofs.CallerLemmas.{all_base}
use Rattle.wfc_log.proofs.domains.base_flags.Goals as goal

pub returns-then-is_whole : goal.returns-then-is_whole
returns-then-is_whole c =
    let P = c.args.problem.now in
    let h = c.in_ok-flags.ensures in
    let whole = sym c.is_whole.ensures.value ∙ c.if-is_whole.true in
    let pairs : c.cells.result * c.values.result ≡ P.cells * values P = rw (c.cells.ensures.value, c.values.ensures.value) refl in
    record { ok = all_base P c.is_whole.ensures.problem whole c.in_ok-flags.flags (h.len ∙ pairs) (λ k l. h.set k (omega (arith, l, h.len))) }
