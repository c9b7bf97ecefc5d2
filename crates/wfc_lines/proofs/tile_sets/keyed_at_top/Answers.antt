use Rattle.std.proofs.Common.{append_assoc}
use Rattle.wfc_lines.proofs.tile_sets.keyed_at_top.Goals as goal

pub returns : goal.returns
returns g c =
    let put = rw (c.as_bytes-text.ensures.value, c.as_bytes-key.ensures.value, c.as_bytes-file.ensures.value) at c.put.ensures.put in
    record { told = simp append_assoc put }
