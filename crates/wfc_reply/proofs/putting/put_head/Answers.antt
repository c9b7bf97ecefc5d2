use Rattle.wfc_reply.proofs.PuttingLemmas.{spanned_format}
use Rattle.wfc_reply.proofs.putting.put_head.Goals as goal

pub returns-in_ok-write_header-clause-bare : goal.returns-in_ok-write_header-clause-bare
returns-in_ok-write_header-clause-bare g c = rw c.if-writing-eq1.true c.in_ok-write_header.ensures.bare

pub returns-in_ok-write_header_2-clause-put : goal.returns-in_ok-write_header_2-clause-put
returns-in_ok-write_header_2-clause-put g c =
    rw (spanned_format c.args.writing.format c.if-writing-eq1.false) (rw (c.cells-cells.ensures.value, c.values-values.ensures.value) at c.in_ok-write_header_2.ensures.put)

pub returns-in_ok-write_header_2-clause-bare : goal.returns-in_ok-write_header_2-clause-bare
returns-in_ok-write_header_2-clause-bare g c = rw (spanned_format c.args.writing.format c.if-writing-eq1.false) c.in_ok-write_header_2.ensures.bare
