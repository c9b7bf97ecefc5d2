use Rattle.std.proofs.Common.{sym}
use Rattle.wfc_tiled.proofs.MaskLemmas.{found, found_by, missed_by}
use Rattle.wfc_tiled.proofs.holes.place_in.Goals as goal

pub returns-then-numbers-own-clause-value : goal.returns-then-numbers-own-clause-value
returns-then-numbers-own-clause-value c =
    sym (found c.args.numbers.now c.args.number c.args.number c.requires.rising c.if-own-numbers.true c.if-numbers-own.true)

pub returns-in-Ok-clause-value : goal.returns-in-Ok-clause-value
returns-in-Ok-clause-value c = found_by c.args.numbers.now c.args.number _ c.requires.rising c.in-Ok.ensures.position

pub returns-in-Err-clause-value : goal.returns-in-Err-clause-value
returns-in-Err-clause-value c = missed_by c.args.numbers.now c.args.number _ c.requires.rising c.in-Err.ensures.position
