use Rattle.std.proofs.Common.{append_assoc}
use Rattle.wfc_lines.proofs.checks.named_reject_line.Goals as goal

pub returns : goal.returns
returns g c =
    let put = rw (c.as_bytes-row.ensures.value, c.as_bytes-name.ensures.value, c.as_bytes-file.ensures.value, c.format.ensures.text) at c.put.ensures.put in
    record { told = simp append_assoc put }
