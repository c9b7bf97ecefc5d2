use Rattle.wfc_proof.proofs.Joins.{spans_spelled, spans_apart, spans_as_spans, spans_more}
use Rattle.wfc_proof.proofs.span_laws.joined_lines_spell.Goals as goal

pub returns : goal.returns
returns c = record { spell = spans_spelled; apart = spans_apart; spans = spans_as_spans; more = spans_more }
