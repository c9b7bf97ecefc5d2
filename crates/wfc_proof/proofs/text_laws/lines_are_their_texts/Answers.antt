use Rattle.wfc_proof.proofs.LineLemmas.{line_of-is, is-line_of, line_2_of-is, is-line_2_of}
use Rattle.wfc_proof.proofs.text_laws.lines_are_their_texts.Goals as goal

pub returns : goal.returns
returns c = record {
  one = λ bytes line. (line_of-is bytes line, λ h. is-line_of bytes line h.0 h.1);
  two = λ bytes line. (line_2_of-is bytes line, λ h. is-line_2_of bytes line h.0 h.1);
}
