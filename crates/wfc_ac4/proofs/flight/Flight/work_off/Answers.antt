use Rattle.std.proofs.Common.{refl, arith}
use Rattle.wfc_ac4.proofs.Steps.{start_working, get-grown, working-range, all_links_done}
use Rattle.wfc_ac4.proofs.Costs.{cost-next}
use Rattle.wfc_ac4.proofs.flight.Flight.work_off.Goals as goal

pub of-list-requires-clause-value_in : goal.of-list-requires-clause-value_in
of-list-requires-clause-value_in g c = (working-range (start_working _ _ _ _ c.requires.between c.requires.there)).1

pub sides-sides-requires-clause-cell_in : goal.sides-sides-requires-clause-cell_in
sides-sides-requires-clause-cell_in g c = (working-range (start_working _ _ _ _ c.requires.between c.requires.there)).0

pub work_links-requires : goal.work_links-requires
work_links-requires g c = record {
  paired = c.requires.paired;
  sides = c.sides-sides.ensures.some;
  links = c.of-list.ensures.value;
  working = start_working _ _ _ _ c.requires.between c.requires.there;
}

pub returns-clause-between : goal.returns-clause-between
returns-clause-between g c =
    let e = c.work_links.ensures in
    all_links_done _ _ _ _ _ e.working refl (get-grown _ _ e.goes_on.grows c.requires.there)

pub returns-clause-steps : goal.returns-clause-steps
returns-clause-steps g c =
    omega (
      arith,
      c.work_links.ensures.steps,
      cost-next c.args.self.now.board.problem.now c.args.self.now.board.trail.removals c.args.index c.args.removal c.requires.there,
    )
