use Rattle.std.proofs.Common.{sym, subst}
use Rattle.wfc_problem.specs.Assignment.{IsLegalAssignment}
use Rattle.wfc_runs.specs.Runs.{IsLegalEnd}
use Rattle.wfc_blocks.specs.BlockEnds.{IsBlockPicture, problem_with_pins}
use Rattle.wfc_blocks.proofs.BlockEndLemmas.{each_pattern, picture_fits}
use Rattle.wfc_blocks.proofs.ends.shown_end.Goals as goal

pub picture_of-requires-clause-values : goal.picture_of-requires-clause-values
picture_of-requires-clause-values c =
    let P = problem_with_pins c.args.patterns.now c.requires.legal.0 c.args.block in
    let legal : IsLegalAssignment P c.in-Map.assignment.items = subst (IsLegalEnd P) c.in-Map.is c.requires.legal.1 in
    each_pattern c.args.patterns.now c.args.block c.requires.legal.0 c.deref.result.now c.requires.taught c.requires.room (subst (IsLegalAssignment P) (sym c.deref.ensures.value) legal)

pub returns-in_ok-picture-in-Map-clause-fits : goal.returns-in_ok-picture-in-Map-clause-fits
returns-in_ok-picture-in-Map-clause-fits c =
    subst (IsBlockPicture c.args.block) (sym c.in_ok-picture-in-Map.ensures.exact)
    (picture_fits c.args.patterns.now c.args.block c.deref.result.now c.requires.taught c.requires.room c.requires.small)
