-- Without the flags of a whole base the parts say the same problem.
use Rattle.std.proofs.Common.{sym, ◌∙◌}
use Rattle.wfc_problem.proofs.Whole.{whole_is}
use Rattle.wfc_problem.proofs.Problem.from_known.Goals as goal

pub from_known_whole-requires : goal.from_known_whole-requires
from_known_whole-requires c = record {
  problem = rw (whole_is c.args.parts c.requires.problem (sym c.is_whole.ensures.value ∙ c.if-is_whole.true)) c.requires.problem;
}

pub returns-then-is_whole : goal.returns-then-is_whole
returns-then-is_whole c = record {
  value = c.from_known_whole.ensures.value ∙ whole_is c.args.parts c.requires.problem (sym c.is_whole.ensures.value ∙ c.if-is_whole.true);
}
