use Rattle.std.proofs.Common.{append_assoc}
use Rattle.wfc_lines.proofs.growing.stuck.Goals as goal

pub returns : goal.returns
returns g c =
    let put = rw (c.as_bytes-column.ensures.value, c.as_bytes-row.ensures.value, c.format.ensures.text, c.format-2.ensures.text) at c.put.ensures.put in
    record { told = simp append_assoc put }
