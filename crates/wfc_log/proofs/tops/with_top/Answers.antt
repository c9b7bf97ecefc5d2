use Rattle.std.proofs.Common.{arith}
use Rattle.wfc_log.proofs.TopLemmas.{written-before, written-fits, written-here}
use Rattle.wfc_log.proofs.tops.with_top.Goals as goal

pub overflow_add-result : goal.overflow_add-result
overflow_add-result c = omega (arith, written-fits c.args.byte c.args.place c.args.top c.requires.place_in c.requires.few)

pub returns-clause-here : goal.returns-clause-here
returns-clause-here c = written-here c.args.byte c.args.place c.args.top c.requires.place_in c.requires.few

pub returns-clause-before : goal.returns-clause-before
returns-clause-before c = λ k l. written-before c.args.byte c.args.place c.args.top k c.requires.place_in l c.requires.few
