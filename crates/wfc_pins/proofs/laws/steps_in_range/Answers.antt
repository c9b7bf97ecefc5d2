use Rattle.std.proofs.Common.{◌≡◌, Some, ap, ◌∙◌}
use Rattle.wfc_pins.specs.declared.steps.RangeFault.TheVariants.{OutOfRange}
use Rattle.wfc_pins.proofs.FirstLemmas.{fits-in, in-fits, range_fault-first, first-range_fault, range_fault-none, none-range_fault}
use Rattle.wfc_pins.proofs.laws.steps_in_range.Goals as goal

pub returns-clause-test : goal.returns-clause-test
returns-clause-test c P step = (fits-in P step, in-fits P step)

pub returns-clause-all : goal.returns-clause-all
returns-clause-all c P steps = (range_fault-none P steps, none-range_fault P steps)

pub returns-clause-first : goal.returns-clause-first
returns-clause-first c P steps n = (
  range_fault-first P steps n,
  λ found. first-range_fault P steps found.0 found.2 ∙ ap (λ k. Some (OutOfRange k)) found.1,
)
