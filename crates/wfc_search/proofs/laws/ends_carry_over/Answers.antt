use Rattle.wfc_search.proofs.Runs.{from_ended, from_next, from_reached}
use Rattle.wfc_search.proofs.laws.ends_carry_over.Goals as goal

pub returns : goal.returns
returns c = record {
  ended = λ P p rule budget s between u outcome is. from_ended P p rule budget s u outcome between is;
  next = λ P p rule budget s between t leads. from_next P p rule budget s t between leads;
  reached = λ P p rule budget s between t outcome is. from_reached P p rule budget s t outcome between is;
}
