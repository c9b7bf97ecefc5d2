use Rattle.std.proofs.Common.{◌≡◌, Err, map, ap, ◌∙◌, subst}
use Rattle.wfc_pins.specs.InOrder.{all_in_order}
use Rattle.wfc_pins.specs.Pins.{pin_of, pins_of}
use Rattle.wfc_pins.specs.Words.{read_lines}
use Rattle.wfc_pins.specs.declared.pins.PinFault.TheVariants as pin_faults
use Rattle.wfc_pins.proofs.FirstLemmas.{first-pins, pins-first, pins-said, said-pins}
use Rattle.wfc_pins.proofs.laws.faults_of_pins.Goals as goal

pub returns-clause-each : goal.returns-clause-each
returns-clause-each c text pins = (pins-said (read_lines text) pins, said-pins (read_lines text) pins)

pub returns-clause-first : goal.returns-clause-first
returns-clause-first c text n = (
  pins-first (read_lines text) n,
  λ found. ap (λ l. all_in_order (map pin_of l)) found.2.is
      ∙ first-pins found.2.before found.0 found.2.after found.2.here found.2.none
      ∙ ap (λ k. Err (pin_faults.BadLine k)) found.1,
)
