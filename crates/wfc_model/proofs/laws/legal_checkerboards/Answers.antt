use Rattle.std.proofs.Common.{lit<}
use Rattle.wfc_model.proofs.SmallLemmas.{not_learned}
use Rattle.wfc_model.proofs.laws.legal_checkerboards.Goals as goal

pub returns-clause-other : goal.returns-clause-other
returns-clause-other c legal = not_learned (legal.windows 0 (0, 0) (lit< tt))
