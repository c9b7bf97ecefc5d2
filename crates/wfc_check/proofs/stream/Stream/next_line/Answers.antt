use Rattle.std.proofs.Common.{◌∷◌, [], Ok, ap, subst, ◌∙◌, arith, append-nil}
use Rattle.wfc_check.specs.Stream.{GathersLine, Gave, stream_view}
use Rattle.wfc_check.proofs.StreamLemmas.{gave_line, over_line, plain_after, kept_some}
use Rattle.wfc_check.proofs.stream.Stream.next_line.Goals as goal

pub returns-then-self-eq0-clause-line : goal.returns-then-self-eq0-clause-line
returns-then-self-eq0-clause-line g c =
    let is = c.in_ok-refill.was ∙ ap Ok c.if-not-branch.false in
    let mid = c.refill.new.self in (
      c.read.invariant.line,
      over_line _ _ (stream_view c.args.self.now) (stream_view c.read.self) (stream_view mid) c.read.line.items c.read.invariant.folder c.read.invariant.steps c.read.invariant.keeps
          (c.refill.ensures.steps is) (c.refill.ensures.left is) (kept_some mid.piece.items mid.from mid.to (c.refill.ensures.some is) mid.inside) c.if-self-eq0.true,
    )

pub returns-then-branch-clause-line : goal.returns-then-branch-clause-line
returns-then-branch-clause-line g c =
    let is = c.in_ok-refill.was ∙ ap Ok c.if-not-branch.false in
    let gathers = subst (GathersLine (stream_view c.refill.new.self) (stream_view c.gather.new.self) c.read.line.items c.gather.new.line.items) c.if-branch.true c.in_ok-gather.ensures.gathered in (
      record { plain = plain_after _ _ _ _ _ c.read.invariant.line gathers.0; short = gathers.1 },
      gave_line _ _ (stream_view c.args.self.now) (stream_view c.read.self) (stream_view c.refill.new.self) (stream_view c.gather.new.self) c.read.line.items c.gather.new.line.items (10 ∷ [])
          c.read.invariant.folder c.read.invariant.steps c.read.invariant.keeps (c.refill.ensures.steps is) (c.refill.ensures.left is) gathers.0,
    )

pub returns-then-len-gt-LINE-clause-line : goal.returns-then-len-gt-LINE-clause-line
returns-then-len-gt-LINE-clause-line g c =
    let is = c.in_ok-refill.was ∙ ap Ok c.if-not-branch.false in
    let gathers = subst (GathersLine (stream_view c.refill.new.self) (stream_view c.gather.new.self) c.read.line.items c.gather.new.line.items) c.if-branch.false c.in_ok-gather.ensures.gathered in
    let gave = gave_line _ _ (stream_view c.args.self.now) (stream_view c.read.self) (stream_view c.refill.new.self) (stream_view c.gather.new.self) c.read.line.items c.gather.new.line.items []
    c.read.invariant.folder c.read.invariant.steps c.read.invariant.keeps (c.refill.ensures.steps is) (c.refill.ensures.left is) gathers.0 in (
      record { plain = plain_after _ _ _ _ _ c.read.invariant.line gathers.0; long = omega (arith, gathers.2, c.if-len-gt-LINE.true) },
      subst (Gave _ (stream_view c.args.self.now) (stream_view c.gather.new.self)) (append-nil c.gather.new.line.items) gave,
    )

pub read-preserved : goal.read-preserved
read-preserved g c =
    let is = c.in_ok-refill.was ∙ ap Ok c.if-not-branch.false in
    let gathers = subst (GathersLine (stream_view c.refill.new.self) (stream_view c.gather.new.self) c.read.line.items c.gather.new.line.items) c.if-branch.false c.in_ok-gather.ensures.gathered in
    let gave = subst (Gave _ (stream_view c.args.self.now) (stream_view c.gather.new.self)) (append-nil c.gather.new.line.items)
    (gave_line _ _ (stream_view c.args.self.now) (stream_view c.read.self) (stream_view c.refill.new.self) (stream_view c.gather.new.self) c.read.line.items c.gather.new.line.items []
    c.read.invariant.folder c.read.invariant.steps c.read.invariant.keeps (c.refill.ensures.steps is) (c.refill.ensures.left is) gathers.0) in
    record {
      folder = c.in_ok-refill.ensures.unread ∙ c.read.invariant.folder;
      name = c.gather.ensures.name ∙ c.refill.ensures.name ∙ c.read.invariant.name;
      most = c.gather.ensures.most ∙ c.refill.ensures.most ∙ c.read.invariant.most;
      given = omega (arith, c.gather.ensures.at, c.refill.ensures.given, c.read.invariant.given);
      line = record { plain = plain_after _ _ _ _ _ c.read.invariant.line gathers.0; short = omega (arith, c.if-len-gt-LINE.false) };
      steps = gave.steps;
      keeps = λ keeps _. gave.left keeps;
    }
