use Rattle.std.proofs.Common.{◌≡◌, ◌+◌, ◌*◌, ◌≤◌, length, ap, ◌∙◌, arith}
use Rattle.std.proofs.Math.Nat.{mul-le-mul_right}
use Rattle.wfc_pattern.specs.Tally.{total}
use Rattle.wfc_pattern.proofs.ArisingLemmas.{one_place, row_grows, total-row}
use Rattle.wfc_pattern.proofs.learner.Learner.note_row.Goals as goal

pub note_place-requires : goal.note_place-requires
note_place-requires c =
    let start = c.args.self.now in
    let so_far : total c.loop-x.self.tally ≡ total start.tally + c.loop-x.x * start.symmetry =
    total-row c.args.picture.now start.n start.symmetry c.loop-x.x c.args.y start.tally c.loop-x.self.tally c.loop-x.invariant.noted in
    let room : (c.loop-x.x + 1) * start.symmetry ≤ c.args.columns * start.symmetry = mul-le-mul_right start.symmetry (omega arith) in
    record { fits = omega (arith, room, so_far, c.loop-x.invariant.symmetry) }

pub loop-x-preserved : goal.loop-x-preserved
loop-x-preserved c =
    let start = c.args.self.now in
    record {
      few = omega (arith, c.len.ensures.value);
      n = c.in_ok-note_place.ensures.n ∙ c.loop-x.invariant.n;
      symmetry = c.in_ok-note_place.ensures.symmetry ∙ c.loop-x.invariant.symmetry;
      noted =
          one_place c.args.picture.now start.n start.symmetry c.loop-x.self.n c.loop-x.self.symmetry c.loop-x.x c.args.y start.tally c.loop-x.self.tally c.note_place.new.self.tally c.loop-x.invariant.n c.loop-x.invariant.symmetry
          c.loop-x.invariant.noted c.in_ok-note_place.ensures.noted;
    }

pub returns-then-len-clause-many : goal.returns-then-len-clause-many
returns-then-len-clause-many c =
    let start = c.args.self.now in
    let now = one_place c.args.picture.now start.n start.symmetry c.loop-x.self.n c.loop-x.self.symmetry c.loop-x.x c.args.y start.tally c.loop-x.self.tally c.note_place.new.self.tally c.loop-x.invariant.n c.loop-x.invariant.symmetry
    c.loop-x.invariant.noted c.in_ok-note_place.ensures.noted in
    let grown = row_grows c.args.picture.now start.n start.symmetry c.args.y start.tally (c.loop-x.x + 1) c.args.columns (omega arith) in
    omega (arith, grown, ap length now, c.len.ensures.value)
