use Rattle.std.proofs.Common.{◌≡◌, ◌+◌, ◌-◌, length, take, drop, sym, arith}
use Rattle.std.proofs.lemmas.Grind.{common_steps}
use Rattle.wfc_proof.proofs.WordLemmas.{first_word, only_word}
use Rattle.wfc_proof.proofs.words.first_word.Goals as goal

pub returns-in-Some : goal.returns-in-Some
returns-in-Some c =
    let rest : take (length c.args.line.now - (c.in-Some.end + 1)) (drop (c.in-Some.end + 1) c.args.line.now) ≡ drop (c.in-Some.end + 1) c.args.line.now = grind (arith, common_steps) in
    record { first = rw rest (first_word c.args.line.now c.in-Some.end (sym c.in-Some.ensures.first)) }

pub returns-in-None : goal.returns-in-None
returns-in-None c = record { first = only_word c.args.line.now (sym c.in-None.ensures.first) }
