use Rattle.std.proofs.Common.{ap, ◌∙◌}
use Rattle.wfc_outside.specs.Sink.{after_bytes}
use Rattle.wfc_proof.specs.Heads.{head_2_text}
use Rattle.wfc_proof.specs.Telling.{new_journal}
use Rattle.wfc_proof.proofs.journals.SpanJournal.begin.Goals as goal

pub returns-in-Ok : goal.returns-in-Ok
returns-in-Ok g c = record {
  begun = c.behind_head.ensures.begun
      ∙ ap (new_journal c.args.sink.ghost_name)
      (c.in-Ok.ensures.put ∙ (λ i. after_bytes (g.S.Sink.seen c.args.sink.now) (head_2_text c.args.shape.now (c.cells.ensures.value i) (c.values.ensures.value i))));
}
