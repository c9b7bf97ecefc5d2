use Rattle.std.proofs.Common.{◌≡◌, ◌≤◌, All, vec_len}
use Rattle.wfc_engine_tests.proofs.choose.mixed_sizes.Given as goal

abbrev pub invariant-loop : goal.invariant-loop
invariant-loop l = record { long : vec_len l.sizes ≡ l.counter; small : All (λ size. size ≤ 4096) l.sizes.items }
