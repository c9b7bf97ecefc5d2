-- What is found is the first fault.
use Rattle.std.proofs.Common.{sym, Some, None}
use Rattle.wfc_problem.proofs.Faults.{symmetry_is}
use Rattle.wfc_problem.proofs.symmetry.check_symmetry.Goals as goal

pub returns-in-None : goal.returns-in-None
returns-in-None c = record { value = sym (symmetry_is c.args.parts.now None c.in-None.ensures.value) }

pub returns-in-Some : goal.returns-in-Some
returns-in-Some c = record { value = sym (symmetry_is c.args.parts.now (Some (c.in-Some.value, c.in-Some.dir)) c.in-Some.ensures.value) }
