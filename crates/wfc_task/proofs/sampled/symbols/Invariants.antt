use Rattle.std.proofs.Common.{map, take, ◌≡◌}
use Rattle.wfc_picture.specs.declared.symbol.Symbol.TheVariants.{Char}
use Rattle.wfc_task.proofs.sampled.symbols.Given as goal

abbrev pub invariant-loop-byte : goal.invariant-loop-byte
invariant-loop-byte l = l.symbols.items ≡ map (λ byte. Char byte) (take l.byte-index l.bytes)
