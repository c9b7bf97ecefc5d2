use Rattle.std.proofs.Common.{◌≡◌, ◌-◌, ◌+◌, ap, ◌∙◌, sym, arith, length, take, drop, eqb-true}
use Rattle.std.proofs.lemmas.Grind.{common_steps}
use Rattle.wfc_proof.specs.Upgrade.{line_at, behind_line}
use Rattle.wfc_proof.proofs.UpgradeLemmas.{line_at-is, line_at-all, behind_line-is, behind_line-all, plain_front, plain_all, cut_at}
use Rattle.wfc_proof.proofs.upgrading.first_line.Goals as goal

pub returns-in-Some : goal.returns-in-Some
returns-in-Some c =
    let found = c.in-Some.ensures in
    let text = c.args.text.now in
    let at = c.in-Some.at in
    let cut = cut_at text at found.0.high (eqb-true _ 10 found.1) in
    let plain = plain_front text at (omega arith) found.0.before in
    let behind : take (length text - (at + 1)) (drop (at + 1) text) ≡ drop (at + 1) text = grind (arith, common_steps) in
    record {
      line = sym (ap line_at cut ∙ line_at-is (take at text) (drop (at + 1) text) plain);
      behind = behind ∙ sym (ap behind_line cut ∙ behind_line-is (take at text) (drop (at + 1) text) plain);
    }

pub returns-in-None : goal.returns-in-None
returns-in-None c =
    let plain = plain_all c.args.text.now c.in-None.ensures in record { line = sym (line_at-all c.args.text.now plain); behind = sym (behind_line-all c.args.text.now plain) }
