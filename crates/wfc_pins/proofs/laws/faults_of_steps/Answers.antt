use Rattle.wfc_pins.proofs.StepLemmas.{fault_of_steps, bad_line, nothing_to_undo, one_step_more, right_line}
use Rattle.wfc_pins.proofs.laws.faults_of_steps.Goals as goal

pub returns : goal.returns
returns c = record {
  bad = λ before after line steps right is. fault_of_steps before line after steps _ right (bad_line before line is);
  nothing = λ before after line steps right spent. fault_of_steps before line after steps _ right (nothing_to_undo before line spent.0 spent.1);
  right = λ before line steps step right is. one_step_more before line steps _ right (right_line before line step is);
}
