use Rattle.std.proofs.Common.{◌≡◌, ◌<◌, ◌^◌, rules, subst}
use Rattle.wfc_ppm.specs.Ppm.{p6_text, IsPpm}
use Rattle.wfc_ppm.proofs.WritingLemmas.{written-p6, p6-again}
use Rattle.wfc_ppm.proofs.writing.write_p6.Goals as goal

pub returns-clause-spelled : goal.returns-clause-spelled
returns-clause-spelled c =
    let text : c.push_raw.new.text.items ≡ p6_text c.args.ppm.now = search rules in
    let is : IsPpm c.args.ppm.now = subst IsPpm c.ppm.view_is c.ppm.invariant in
    let wide : c.args.ppm.now.width < 2 ^ 64 = search rules in
    let high : c.args.ppm.now.height < 2 ^ 64 = search rules in
    rw text (written-p6 c.args.ppm.now is wide high)

pub returns-clause-again : goal.returns-clause-again
returns-clause-again c =
    p6-again c.push_raw.new.text.items c.args.ppm.now (returns-clause-spelled c)
