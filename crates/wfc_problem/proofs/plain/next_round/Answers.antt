-- Each flag is that of the next place, and the whole table is the round.
use Rattle.std.proofs.Common.{arith}
use Rattle.wfc_problem.proofs.Flags.{flags_are, flags_inside, tells_push}
use Rattle.wfc_problem.specs.Network.{values, has_flag}
use Rattle.wfc_problem.proofs.Rounds.{round_inside}
use Rattle.wfc_problem.proofs.plain.next_round.Goals as goal

pub loop-place-preserved : goal.loop-place-preserved
loop-place-preserved c =
    let is = rw c.values-values.ensures.value at c.stays.ensures.value in
    let long = c.loop-place.next.ok.0 in
    record {
      so_many = omega (arith, c.in_ok-push.ensures.len);
      told = rw c.in_ok-push.ensures.items
          (tells_push _ _ c.loop-place.next.items c.loop-place.place c.stays.result c.values-values.ensures.problem.sized.some_value (omega arith) c.loop-place.invariant.told is);
    }

pub returns-clause-value : goal.returns-clause-value
returns-clause-value c =
    let long = c.loop-place.next.ok.0 in
    flags_are c.args.problem.now _ c.loop-place.next.items (omega arith)
    (round_inside c.args.problem.now (has_flag (values c.args.problem.now) c.args.flags.now) (flags_inside c.args.problem.now c.args.flags.now c.requires.table)) c.loop-place.invariant.told
