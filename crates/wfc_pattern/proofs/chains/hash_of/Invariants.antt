use Rattle.std.proofs.Common.{◌≡◌, take, fold}
use Rattle.wfc_pattern.specs.Chains.{next_state}
use Rattle.wfc_pattern.proofs.chains.hash_of.Given as goal

abbrev pub invariant-loop-number : goal.invariant-loop-number
invariant-loop-number l = l.state ≡ fold next_state 0 (take l.number-index l.numbers)
