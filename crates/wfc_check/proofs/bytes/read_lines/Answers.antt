use Rattle.std.proofs.Common.{◌≡◌, ◌+◌, ◌-◌, length, take, drop, ap, Err, sym, ◌∙◌, arith, eqb-true}
use Rattle.std.proofs.lemmas.Grind.{common_steps}
use Rattle.std.proofs.lemmas.Result.{err_from_is_err_and}
use Rattle.wfc_check.specs.declared.fault.CheckFault.{CheckFault}
use Rattle.wfc_check.proofs.BytesLemmas.{ahead_start, ahead_on, ahead_bad, ahead_end, gives_answer}
use Rattle.wfc_check.proofs.PlainLemmas.{cut_at, plain_front, plain_all}
use Rattle.wfc_check.proofs.bytes.read_lines.Goals as goal

pub loop-end-init : goal.loop-end-init
loop-end-init c = ahead_start c.args.problem.now c.args.shape.now c.args.bytes.now c.in_ok-reading.reading c.requires.limit c.in_ok-reading.ensures.ok

pub returns-in_err-line-clause-exact : goal.returns-in_err-line-clause-exact
returns-in_err-line-clause-exact c =
    let found = c.in-Some.ensures in
    let rest = c.loop-end.rest.now in
    let at = c.in-Some.end in
    let bad = ahead_bad c.args.problem.now c.args.shape.now c.args.bytes.now rest (take at rest) (drop (at + 1) rest) c.loop-end.reading _ c.loop-end.invariant
    (cut_at rest at found.0.high (eqb-true _ 10 found.1)) (plain_front rest at (omega arith) found.0.before) c.in_err-line.ensures.led in
    let out = err_from_is_err_and c.from_residual-in_err-line.result c.from_residual-in_err-line.ensures.1 in
    gives_answer _ _ (out.1 ∙ ap (λ (f : CheckFault). Err f) out.2 ∙ sym bad)

pub loop-end-preserved : goal.loop-end-preserved
loop-end-preserved c =
    let found = c.in-Some.ensures in
    let rest = c.loop-end.rest.now in
    let at = c.in-Some.end in
    let behind : take (length rest - (at + 1)) (drop (at + 1) rest) ≡ drop (at + 1) rest = grind (arith, common_steps) in
    rw behind
    (ahead_on c.args.problem.now c.args.shape.now c.args.bytes.now rest (take at rest) (drop (at + 1) rest) c.loop-end.reading c.line.new.self c.loop-end.invariant
    (cut_at rest at found.0.high (eqb-true _ 10 found.1)) (plain_front rest at (omega arith) found.0.before) c.in_ok-line.ensures.led c.in_ok-line.ensures.same c.in_ok-line.ensures.next)

pub returns-clause-exact : goal.returns-clause-exact
returns-clause-exact c =
    gives_answer _ _ (c.end.ensures.exact ∙ sym (ahead_end c.args.problem.now c.args.shape.now c.args.bytes.now c.loop-end.rest.now c.loop-end.reading c.loop-end.invariant (plain_all c.loop-end.rest.now c.in_default.ensures)))
