use Rattle.std.proofs.Common.{◌≡◌, ◌-◌, ◌+◌, arith, length, take, drop, eqb-true}
use Rattle.std.proofs.lemmas.Grind.{common_steps}
use Rattle.wfc_text.proofs.LineLemmas.{lines_from-at, lines_from-none}
use Rattle.wfc_text.proofs.line.first_line.Goals as goal

pub returns-in-Some-clause-first : goal.returns-in-Some-clause-first
returns-in-Some-clause-first c =
    let found = c.in-Some.ensures in
    let behind : take (length c.args.text.now - (c.in-Some.at + 1)) (drop (c.in-Some.at + 1) c.args.text.now) ≡ drop (c.in-Some.at + 1) c.args.text.now = grind (arith, common_steps) in
    rw (c.without_return.ensures.stripped, behind) (lines_from-at c.args.number c.args.text.now c.in-Some.at found.0.high found.0.before (eqb-true _ 10 found.1))

pub returns-in-None-clause-first : goal.returns-in-None-clause-first
returns-in-None-clause-first c = lines_from-none c.args.number c.args.text.now c.requires.some c.in-None.ensures
