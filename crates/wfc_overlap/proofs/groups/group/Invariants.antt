use Rattle.std.proofs.Common.{◌≡◌, List, ℕ, filter}
use Rattle.std.specs.Prelude.{nat_eq}
use Rattle.std.specs.List.{range_with_len}
use Rattle.std.specs.Cmp.Lexicographic.{pointwise}
use Rattle.wfc_pattern.specs.Patterns.{window_at}
use Rattle.wfc_overlap.specs.Sides.{members, shared_part}
use Rattle.wfc_overlap.proofs.groups.group.Given as goal

abbrev pub invariant-loop-q : goal.invariant-loop-q
invariant-loop-q l = (key : List ℕ) → members l.groups key ≡ filter (λ q. pointwise nat_eq key (shared_part l.patterns.n (window_at l.patterns q) l.dir)) (range_with_len 0 l.q)
