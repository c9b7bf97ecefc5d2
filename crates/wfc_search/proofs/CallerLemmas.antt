-- What callers cite: runs, their turns and ends.
pub use Rattle.wfc_search.proofs.Literals.{IsLast, last_is, none_first, push_split, longer}
pub use Rattle.wfc_search.proofs.Cuts.{cut_falls, grown_few, grown_none, grown_push, grown_retract}
pub use Rattle.wfc_search.proofs.Turns.{IsChoice, IsRetraction, leads_cases, IsMapEnd, IsNoMapEnd, IsSpentEnd, ends_cases, either_turn, leads_on, ended_leads, ended_same, choice_cuts}
pub use Rattle.wfc_search.proofs.Runs.{between_none, between_start, between_next, between_few, work_falls, work_most, map_legal, no_map_none, spent_volume, run_between, run_same, run_computed, from_exists, from_few, from_computed, from_ended, from_next, from_reached, outcome_map, outcome_none, outcome_spent, volume_enough, outcomes_agree}
pub use Rattle.wfc_search.proofs.Stores.{left_added, before_base, left_base, before_greatest, alive_left, alive_alive, dead_dead}
pub use Rattle.wfc_search.proofs.Ended.{IsEnded, ended_in, ended_in_map, length-assignment_of, assignment_whole, says_true, quiet_step, quiet_run}
