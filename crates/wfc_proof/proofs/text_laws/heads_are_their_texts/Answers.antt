use Rattle.wfc_proof.proofs.HeadLemmas.{format_of-is, is-format_of, numbers_of-is, is-numbers_of, shape_of-is, is-shape_of}
use Rattle.wfc_proof.proofs.text_laws.heads_are_their_texts.Goals as goal

pub returns : goal.returns
returns c = record {
  format = λ bytes format. (format_of-is bytes format, is-format_of bytes format);
  numbers = λ bytes numbers. (numbers_of-is bytes numbers, λ h. is-numbers_of bytes numbers h.0 h.1);
  shape = λ bytes shape. (shape_of-is bytes shape, λ h. is-shape_of bytes shape h.0 h.1);
}
