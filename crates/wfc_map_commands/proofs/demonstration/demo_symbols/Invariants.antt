use Rattle.std.proofs.Common.{map, ◌%◌, ◌/◌, ◌≡◌}
use Rattle.std.specs.List.{range_with_len}
use Rattle.wfc_map_commands.proofs.demonstration.demo_symbols.Given as goal
use Rattle.wfc_map_commands.specs.Demonstration.{demo_symbol}

abbrev pub invariant-loop-k : goal.invariant-loop-k
invariant-loop-k l = l.symbols.items ≡ map (λ k. demo_symbol l.number (k % l.side) (k / l.side)) (range_with_len 0 l.k)
