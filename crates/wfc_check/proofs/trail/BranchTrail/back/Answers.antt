use Rattle.std.proofs.Common.{arith}
use Rattle.wfc_check.proofs.Kept.{back_flag, back_taken, back_awaited, back_stood}
use Rattle.wfc_check.proofs.trail.BranchTrail.back.Goals as goal

pub index_mut-requires : goal.index_mut-requires
index_mut-requires c =
    let a = c.self.inside in
    rw c.values.ensures.value (omega (arith, c.self.ranges, back_flag a.problem.now a.flags.items a.entries.items _ c.in_ok-entry.entry _ c.self.invariant c.in_ok-entry.ensures.items))

pub invariant_of-self-then-not-entry : goal.invariant_of-self-then-not-entry
invariant_of-self-then-not-entry c =
    let a = c.self.inside in
    rw c.values.ensures.value (back_taken a.problem.now a.flags.items a.entries.items _ c.in_ok-entry.entry _ _ c.self.invariant c.in_ok-entry.ensures.items c.if-not-entry.true
    (omega (arith, c.self.invariant.fits, c.in_ok-entry.ensures.capacity)))

pub invariant_of-self-else-not-entry : goal.invariant_of-self-else-not-entry
invariant_of-self-else-not-entry c =
    let a = c.self.inside in
    back_awaited a.problem.now a.flags.items a.entries.items _ c.in_ok-entry.entry _ _ c.self.invariant c.in_ok-entry.ensures.items c.if-not-entry.false
    (omega (arith, c.self.invariant.fits, c.in_ok-entry.ensures.capacity))

pub returns-then-not-entry-clause-stood : goal.returns-then-not-entry-clause-stood
returns-then-not-entry-clause-stood c =
    let a = c.self.inside in
    back_stood a.problem.now a.flags.items a.entries.items _ c.in_ok-entry.entry _ c.self.invariant c.in_ok-entry.ensures.items

pub returns-else-not-entry-clause-stood : goal.returns-else-not-entry-clause-stood
returns-else-not-entry-clause-stood c =
    let a = c.self.inside in
    back_stood a.problem.now a.flags.items a.entries.items _ c.in_ok-entry.entry _ c.self.invariant c.in_ok-entry.ensures.items
