-- What callers cite: how the code of a command ends, what its call came to, the run by its first chooser, and the lines of a run.
pub use Rattle.wfc_reply.proofs.CameLemmas.{CameTo, CameWith, HasAnswered, came_with, cut, none, whole}
pub use Rattle.wfc_reply.proofs.CutLemmas.{AnswersOnly, cuts_text, text_of}
pub use Rattle.wfc_reply.proofs.EndLemmas.{ends_answered, ends_by, ends_exhausted, ends_fault, ends_short, ends_with, put_cut, put_exhausted, put_none, put_reply, put_short, put_whole}
pub use Rattle.wfc_reply.proofs.EndingLemmas.{EndsSo, IsEnding, as_asked, as_no, as_spent, front_taken}
pub use Rattle.wfc_reply.proofs.OutcomeLemmas.{chosen_end, ran_by, refuted_status, verdict_outcome}
pub use Rattle.wfc_reply.proofs.TakingLemmas.{first_taken, length-first_rules, length-of_kind, many_taken}
pub use Rattle.wfc_reply.proofs.FirstLemmas.{HasFirst, IsTakenFirst, has_first, kinds_same, plain_kind, taken_first}
pub use Rattle.wfc_reply.proofs.VerdictLemmas.{answer_apart, fault_apart, five_apart, verdict_apart}
pub use Rattle.wfc_reply.proofs.RunTextLemmas.{run_single, run_text}
pub use Rattle.wfc_reply.proofs.ToldRunLemmas.{run_is_proof, run_none, run_spent, store_problem}
pub use Rattle.wfc_reply.proofs.FrontLemmas.{front_text}
