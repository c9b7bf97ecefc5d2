use Rattle.std.proofs.Common.{inl, refl}
use Rattle.std.proofs.lemmas.Result.{err_from_is_err_and}
use Rattle.wfc_reply.proofs.PuttingLemmas.{behind_text}
use Rattle.wfc_reply.proofs.behind.put_run_behind.Goals as goal

pub returns-in_err-search : goal.returns-in_err-search
returns-in_err-search g c =
    let p = err_from_is_err_and c.from_residual.result c.from_residual.ensures.1 in
    record { puts = rw (p.1, p.2) (refl, refl) }

pub returns-in_err-write_all : goal.returns-in_err-write_all
returns-in_err-write_all g c =
    let p = err_from_is_err_and c.from_residual-in_err-write_all.result c.from_residual-in_err-write_all.ensures.1 in
    record { puts = rw (p.1, p.2) (inl c.in_err-write_all.ensures.put) }

pub returns : goal.returns
returns g c = record {
  puts = behind_text _ _ _ _ _ _ _ _ c.in_ok-write_all.ensures.put c.put_search.ensures.answered (rw c.in_ok-search.ensures.rule at c.put_search.ensures.puts);
}
