use Rattle.std.proofs.Common.{refl}
use Rattle.wfc_reply.proofs.laws.verdicts_are_of_runs.Goals as goal
use Rattle.wfc_search.specs.declared.Outcome.TheVariants.{Map, NoMap, Spent}

pub returns-clause-status : goal.returns-clause-status
returns-clause-status c budget Map = refl
returns-clause-status c budget NoMap = refl
returns-clause-status c budget Spent = refl

pub returns-clause-refuted : goal.returns-clause-refuted
returns-clause-refuted c budget Map = refl
returns-clause-refuted c budget NoMap = refl
returns-clause-refuted c budget Spent = refl
