use Rattle.std.proofs.Common.{◌≡◌, ◌<◌, ◌^◌, rules, subst}
use Rattle.wfc_ppm.specs.Ppm.{p3_text, IsPpm}
use Rattle.wfc_ppm.proofs.WritingLemmas.{written-p3, p3-again}
use Rattle.wfc_ppm.proofs.writing.write_p3.Goals as goal

pub returns-clause-spelled : goal.returns-clause-spelled
returns-clause-spelled c =
    let text : c.push_plain.new.text.items ≡ p3_text c.args.ppm.now = search rules in
    let is : IsPpm c.args.ppm.now = subst IsPpm c.ppm.view_is c.ppm.invariant in
    let wide : c.args.ppm.now.width < 2 ^ 64 = search rules in
    let high : c.args.ppm.now.height < 2 ^ 64 = search rules in
    rw text (written-p3 c.args.ppm.now is wide high)

pub returns-clause-again : goal.returns-clause-again
returns-clause-again c =
    p3-again c.push_plain.new.text.items c.args.ppm.now (returns-clause-spelled c)
