use Rattle.std.proofs.Common.{map, take, ◌≡◌}
use Rattle.wfc_picture.specs.declared.symbol.Symbol.TheVariants.{Rgb}
use Rattle.wfc_task.proofs.sampled.colours.Given as goal

abbrev pub invariant-loop-colour : goal.invariant-loop-colour
invariant-loop-colour l = l.symbols.items ≡ map (λ colour. Rgb colour) (take l.colour-index l.pixels)
