use Rattle.std.proofs.Common.{sym}
use Rattle.wfc_ppm.proofs.HeaderLemmas.{gives-spelled, gives-refused}
use Rattle.wfc_ppm.proofs.reading.read.Goals as goal

pub returns-in-Some-clause-ok : goal.returns-in-Some-clause-ok
returns-in-Some-clause-ok c = gives-spelled c.in-Some.form c.args.bytes.now c.read_as.result (λ k. (c.type_inv.bytes k).fits) (sym c.in-Some.ensures.form) c.read_as.ensures.exact

pub returns-in-Some-clause-refused : goal.returns-in-Some-clause-refused
returns-in-Some-clause-refused c = gives-refused c.in-Some.form c.args.bytes.now c.read_as.result (sym c.in-Some.ensures.form) c.read_as.ensures.exact
