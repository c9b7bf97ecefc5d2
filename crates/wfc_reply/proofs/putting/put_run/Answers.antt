use Rattle.std.proofs.Common.{refl}
use Rattle.std.proofs.lemmas.Result.{err_from_is_err_and}
use Rattle.wfc_reply.proofs.putting.put_run.Goals as goal

pub returns-in_err-search : goal.returns-in_err-search
returns-in_err-search g c =
    let p = err_from_is_err_and c.from_residual.result c.from_residual.ensures.1 in
    record { puts = rw (p.1, p.2) (refl, refl) }

pub returns : goal.returns
returns g c = record { puts = rw c.in_ok-search.ensures.rule at c.put_search.ensures.puts }
