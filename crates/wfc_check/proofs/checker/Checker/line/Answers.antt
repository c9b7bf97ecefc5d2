use Rattle.std.proofs.Common.{sym, subst, refl}
use Rattle.wfc_problem.specs.Network.{Network}
use Rattle.wfc_proof.specs.Checker.{Point, line_step}
use Rattle.wfc_check.specs.Entries.{TrailView, standing, waits_of}
use Rattle.wfc_check.specs.Checker.{point_at, IsReached}
use Rattle.wfc_check.specs.declared.progress.Progress.{Progress}
use Rattle.wfc_check.proofs.Taken.{reached_few, reached_led, taken_stays, taken_led}
use Rattle.wfc_check.proofs.checker.Checker.line.Goals as goal

pub take_line-requires-clause-few : goal.take_line-requires-clause-few
take_line-requires-clause-few c = λ e.
    let t : TrailView = c.self.inside.trail in
    reached_few t.problem (standing t) (waits_of t) (subst (λ (p : Progress). IsReached t.problem (point_at p t)) e c.self.invariant)

pub invariant_of-self : goal.invariant_of-self
invariant_of-self c =
    let t : TrailView = c.self.inside.trail in
    let stays = taken_stays _ _ t c.take_line.new.trail (point_at c.self.inside.progress t) c.in_err-progress.ensures.taken in
    subst (λ (u : TrailView). IsReached u.problem (point_at c.self.inside.progress u)) (sym stays.0) c.self.invariant

pub invariant_of-self-2 : goal.invariant_of-self-2
invariant_of-self-2 c =
    let t : TrailView = c.self.inside.trail in
    let q = point_at c.self.inside.progress t in
    let led = taken_led (line_step t.problem q c.args.line) c.in_ok-progress.progress t c.take_line.new.trail q c.in_ok-progress.ensures.taken in
    subst (λ (P : Network). IsReached P (point_at c.in_ok-progress.progress c.take_line.new.trail)) (sym led.0)
    (subst (λ (p : Point). IsReached t.problem p) (sym led.1) (reached_led t.problem q c.args.line _ c.self.invariant refl))
