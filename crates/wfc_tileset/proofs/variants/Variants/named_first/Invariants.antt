use Rattle.std.proofs.Common.{ℕ, ◌<◌}
use Rattle.wfc_tileset.specs.Numbers.{IsNamed}
use Rattle.wfc_tileset.proofs.variants.Variants.named_first.Given as goal

abbrev pub invariant-loop-t : goal.invariant-loop-t
invariant-loop-t l = (tile : ℕ) → tile < l.t → IsNamed l.self l.name l.index tile → ⊥
