use Rattle.std.proofs.Common.{◌≡◌, ◌-◌, length, take, drop, arith, sym, ap, ◌∙◌, position}
use Rattle.std.proofs.lemmas.Grind.{common_steps}
use Rattle.wfc_pins.specs.Words.{is_blank}
use Rattle.wfc_pins.proofs.WordLemmas.{word-first, word-last, wordless}
use Rattle.wfc_pins.proofs.words.first_word.Goals as goal

pub returns-in_err-start : goal.returns-in_err-start
returns-in_err-start c = rw c.from_residual.ensures record { first = wordless c.args.line.now (sym c.in_err-start.ensures.first) }

pub returns-in-Some : goal.returns-in-Some
returns-in-Some c =
    let text : take (length c.args.line.now - c.in_ok-start.start) (drop c.in_ok-start.start c.args.line.now) ≡ drop c.in_ok-start.start c.args.line.now = grind (arith, common_steps) in
    let rest : take (length (drop c.in_ok-start.start c.args.line.now) - c.in-Some.end) (drop c.in-Some.end (drop c.in_ok-start.start c.args.line.now)) ≡ drop c.in-Some.end (drop c.in_ok-start.start c.args.line.now) = grind (arith, common_steps) in
    record { first = rw (text, rest) (word-first c.args.line.now c.in_ok-start.start c.in-Some.end (sym c.in_ok-start.ensures.first) (sym (c.in-Some.ensures.first ∙ ap (position is_blank) text))) }

pub returns-in-None : goal.returns-in-None
returns-in-None c =
    let text : take (length c.args.line.now - c.in_ok-start.start) (drop c.in_ok-start.start c.args.line.now) ≡ drop c.in_ok-start.start c.args.line.now = grind (arith, common_steps) in
    record { first = rw text (word-last c.args.line.now c.in_ok-start.start (sym c.in_ok-start.ensures.first) (sym (c.in-None.ensures.first ∙ ap (position is_blank) text))) }
