-- What callers cite: how code goes by a plan, what a plan comes to where the files are told, its first fault, and statuses.
pub use Rattle.wfc_plan.proofs.FileLemmas.{file_given, given_file, one_file}
pub use Rattle.wfc_plan.proofs.KindLemmas.{behind_choosers, choosers_given, faults_choosers, given_choosers}
pub use Rattle.wfc_plan.proofs.OrderLemmas.{Faults, Same, faults_as, faults_first, faults_group, faults_last, faults_none, faults_reading, faults_step, made_in_order, one_value, outcome_out, same_end, same_first, same_known, same_on, same_self}
pub use Rattle.wfc_plan.proofs.PlanLemmas.{IsStepEnd, goes_done, goes_on, goes_out, goes_quiet, goes_read, goes_step, outcome_on, outcome_parts, refused}
pub use Rattle.wfc_plan.proofs.ReachLemmas.{IsStopped, first_missing, goes_reading, goes_stopped}
pub use Rattle.wfc_plan.proofs.StatusLemmas.{fault_between, never_3}
pub use Rattle.wfc_plan.proofs.StepLemmas.{as_outcome, done_is, fault_gives, ok_refused, ok_step, seen_refusal, seen_value, step_is, step_ok, step_on, step_out, then_step, unless_above, unrefused, value_gives, within_limit}
