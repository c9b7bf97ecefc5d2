use Rattle.std.proofs.Common.{◌≡◌, ◌∙◌, true, false, arith, get_or, below_more, ap, sym, not}
use Rattle.std.proofs.lemmas.List.{take_rest}
use Rattle.wfc_text.specs.Number.{is_other}
use Rattle.wfc_ppm.proofs.FieldLemmas.{digits-here, digits-end, value-more}
use Rattle.wfc_ppm.proofs.field.digits.Goals as goal

pub returns-then-not-is_ascii_digit-clause-value : goal.returns-then-not-is_ascii_digit-clause-value
returns-then-not-is_ascii_digit-clause-value c =
    let here : is_other (get_or c.args.text.now c.loop-at.at 0) ≡ true = ap not (sym c.is_ascii_digit.ensures.value ∙ c.if-not-is_ascii_digit.true) in
    (digits-here c.args.text.now c.loop-at.at c.loop-at.n c.loop-at-test.true c.loop-at.invariant.before here c.loop-at.invariant.value).0

pub returns-then-not-is_ascii_digit-clause-rest : goal.returns-then-not-is_ascii_digit-clause-rest
returns-then-not-is_ascii_digit-clause-rest c =
    let here : is_other (get_or c.args.text.now c.loop-at.at 0) ≡ true = ap not (sym c.is_ascii_digit.ensures.value ∙ c.if-not-is_ascii_digit.true) in
    take_rest c.args.text.now c.loop-at.at ∙ (digits-here c.args.text.now c.loop-at.at c.loop-at.n c.loop-at-test.true c.loop-at.invariant.before here c.loop-at.invariant.value).1

pub loop-at-preserved : goal.loop-at-preserved
loop-at-preserved c =
    let here : is_other (get_or c.args.text.now c.loop-at.at 0) ≡ false = ap not (sym c.is_ascii_digit.ensures.value ∙ c.if-not-is_ascii_digit.false) in
    record {
      before = below_more _ _ c.loop-at.invariant.before here;
      value = value-more c.args.text.now c.loop-at.at c.loop-at.n c.with_digit-n.result c.loop-at-test.true c.loop-at.invariant.value c.with_digit-n.ensures.value;
    }

pub returns-clause-value : goal.returns-clause-value
returns-clause-value c = (digits-end c.args.text.now c.loop-at.at c.loop-at.n (omega (arith, c.loop-at.auto.at-end)) c.loop-at-test.false c.loop-at.invariant.before c.loop-at.invariant.value).0

pub returns-clause-rest : goal.returns-clause-rest
returns-clause-rest c = (digits-end c.args.text.now c.loop-at.at c.loop-at.n (omega (arith, c.loop-at.auto.at-end)) c.loop-at-test.false c.loop-at.invariant.before c.loop-at.invariant.value).1
