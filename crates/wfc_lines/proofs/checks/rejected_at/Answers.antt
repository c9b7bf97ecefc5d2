use Rattle.std.proofs.Common.{List, ℕ, ◌∙◌, subst}
use Rattle.wfc_outside.specs.Sink.{Puts}
use Rattle.wfc_lines.proofs.CheckTexts.{rejected_parts}
use Rattle.wfc_lines.proofs.checks.rejected_at.Goals as goal

pub returns : goal.returns
returns g c =
    let same = rejected_parts c.as_bytes-row.result.now c.as_bytes-name.result.now c.as_bytes-value.result.now c.as_bytes-file.result.now c.args.name.now c.args.row c.args.value c.args.file.now
    (c.as_bytes-row.ensures.value ∙ c.format.ensures.text) c.as_bytes-name.ensures.value (c.as_bytes-value.ensures.value ∙ c.format-2.ensures.text) c.as_bytes-file.ensures.value in
    record { told = subst (λ (bytes : List ℕ). Puts (g.E.Sink.seen c.args.err.now) (g.E.Sink.seen c.put.new.err) bytes c.put.result) same c.put.ensures.put }
