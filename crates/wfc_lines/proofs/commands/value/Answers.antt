use Rattle.std.proofs.Common.{append_assoc}
use Rattle.wfc_lines.proofs.commands.value.Goals as goal

pub returns : goal.returns
returns g c =
    let put = rw (c.as_bytes-word.ensures.value, c.word.ensures.value) at c.put.ensures.put in
    record { told = simp append_assoc put }
