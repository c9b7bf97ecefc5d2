use Rattle.wfc_proof.proofs.WrittenLemmas.{lines_written, lines_cut_off, spans_written, spans_cut_off}
use Rattle.wfc_proof.proofs.text_laws.sinks_take_what_is_told.Goals as goal

pub returns : goal.returns
returns c = record {
  lines = λ started sink lines is. lines_written is.0 started sink is.1 lines is.2 is.3;
  lines_cut_off = λ started sink lines is. lines_cut_off is.0 started sink is.1 lines is.2 is.3;
  spans = λ started sink lines is settled. spans_written is.0 started sink is.1 is.2 lines is.3 settled is.4;
  spans_cut_off = λ started sink lines is. spans_cut_off is.0 started sink is.1 is.2 lines is.3 is.4;
}
