use Rattle.std.proofs.Common.{append_assoc}
use Rattle.wfc_lines.proofs.line.twice_numbered.Goals as goal

pub returns : goal.returns
returns g c =
    let put = rw (c.as_bytes-text.ensures.value, c.as_bytes-between.ensures.value, c.as_bytes-file.ensures.value, c.as_bytes-first.ensures.value, c.as_bytes-second.ensures.value, c.format.ensures.text, c.format-2.ensures.text) at c.put.ensures.put in
    record { told = simp append_assoc put }
