-- There were as many rounds as pairs.
use Rattle.std.proofs.Common.{◌≡◌, ◌≤◌, arith, ap, sym, subst, inl, ◌∙◌, Result, Ok}
use Rattle.wfc_outside.specs.declared.NoMemory.{NoMemory}
use Rattle.wfc_problem.specs.Domains.{Test, base_with, IsGreatest}
use Rattle.wfc_problem.specs.Rounds.{greatest, rounds, depth_of}
use Rattle.wfc_problem.proofs.Rounds.{depth_greatest}
use Rattle.wfc_problem.proofs.plain.greatest_domains.Goals as goal

-- the flags, as the answer of a call that had memory
abbrev ok : Test → Result Test NoMemory
ok D = Ok D

pub returns-clause-exact : goal.returns-clause-exact
unfolding greatest
returns-clause-exact c =
    let as_many : c.loop-done.done ≡ depth_of c.args.problem.now = omega (arith, c.depth-done-end.ensures.value) in
    let told = c.loop-done.invariant.told ∙ ap (rounds c.args.problem.now (base_with c.args.problem.now c.args.literals.now)) as_many in
    inl (ap ok told)

pub returns-clause-greatest : goal.returns-clause-greatest
returns-clause-greatest c =
    let as_many : depth_of c.args.problem.now ≤ c.loop-done.done = omega (arith, c.depth-done-end.ensures.value) in
    let is : Test → Type 0 = λ D. IsGreatest c.args.problem.now c.args.literals.now D in
    subst is (sym c.loop-done.invariant.told) (depth_greatest c.args.problem.now c.depth-done-end.ensures.problem c.args.literals.now c.loop-done.done as_many)
