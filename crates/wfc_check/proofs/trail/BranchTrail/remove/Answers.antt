use Rattle.std.proofs.Common.{arith}
use Rattle.wfc_check.proofs.Kept.{kept_room, kept_removed}
use Rattle.wfc_check.proofs.trail.BranchTrail.remove.Goals as goal

pub push_reserved-requires : goal.push_reserved-requires
push_reserved-requires c =
    let a = c.self.inside in
    let t = rw (← c.self.view_is) at c.requires.stands in
    let few = kept_room a.problem.now a.flags.items a.entries.items _ c.self.invariant c.args.cell c.args.value t in
    omega (arith, few, c.self.ranges)

pub invariant_of-self : goal.invariant_of-self
invariant_of-self c =
    let a = c.self.inside in
    let t = rw (← c.self.view_is) at c.requires.stands in
    rw (c.push_reserved.ensures.items, c.values.ensures.value) (kept_removed a.problem.now a.flags.items a.entries.items _ _ c.self.invariant c.args.cell c.args.value t
    (omega (arith, c.self.invariant.fits, c.push_reserved.ensures.capacity)))
