use Rattle.std.proofs.Common.{arith}
use Rattle.wfc_map_commands.proofs.DemoLegalLemmas.{lines_legal, other_lines}
use Rattle.wfc_map_commands.proofs.laws.demonstrations_have_maps.Goals as goal

pub returns-clause-itself : goal.returns-clause-itself
returns-clause-itself c n = lines_legal n 24 48 (omega arith) (omega arith)

pub returns-clause-small : goal.returns-clause-small
returns-clause-small c n legal = omega (arith, legal.sized.same_width)

pub returns-clause-other : goal.returns-clause-other
returns-clause-other c = other_lines 24 48 (omega arith) (omega arith)
