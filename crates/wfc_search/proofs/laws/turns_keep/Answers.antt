use Rattle.wfc_search.proofs.Runs.{between_none, between_next, between_few, work_falls, work_most}
use Rattle.wfc_search.proofs.laws.turns_keep.Goals as goal

pub returns : goal.returns
returns c = record {
  start = between_none;
  next = λ P p rule budget s between t leads. between_next P p rule budget s t between leads;
  few = between_few;
  falls = λ P p rule budget s between t leads. work_falls P p rule budget s t between leads;
  most = work_most;
}
