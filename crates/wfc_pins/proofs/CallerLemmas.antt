-- What callers cite: answers in order behind others and one by one, and the first fault of steps.
pub use Rattle.wfc_pins.proofs.InOrderLemmas.{IsReadTo, behind, behind-and_rest, behind-none, read_on}
pub use Rattle.wfc_pins.proofs.StepLemmas.{fault_of_steps, steps_past}
