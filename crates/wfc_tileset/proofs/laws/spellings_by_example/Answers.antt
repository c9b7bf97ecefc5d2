use Rattle.std.proofs.Common.{get_or, refl, ap, arith}
use Rattle.wfc_tileset.proofs.laws.spellings_by_example.Goals as goal

pub returns-clause-spelled : goal.returns-clause-spelled
returns-clause-spelled c = (omega arith, refl)

pub returns-clause-other : goal.returns-clause-other
returns-clause-other c spells = omega (arith, ap (λ t. get_or t 0 0) spells.1)

pub returns-clause-past : goal.returns-clause-past
returns-clause-past c spells = omega (arith, spells.0)
