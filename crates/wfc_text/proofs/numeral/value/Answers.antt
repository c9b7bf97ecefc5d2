use Rattle.std.proofs.Common.{arith, ◌≡◌, ◌^◌, ap, ◌∙◌}
use Rattle.std.proofs.lemmas.List.{take_all}
use Rattle.std.proofs.lemmas.Int.Digits.{digits_value_more}
use Rattle.std.specs.Str.Parse.{digits_value}
use Rattle.wfc_text.proofs.NumberLemmas.{too_much}
use Rattle.wfc_text.proofs.numeral.value.Goals as goal

pub returns-in_err-n : goal.returns-in_err-n
returns-in_err-n c =
    rw c.from_residual.ensures
    record { value = too_much c.args.digits.now c.loop-digit.digit-index c.loop-digit.n (2 ^ 64) c.loop-digit-test.true c.loop-digit.invariant.so_far c.in_err-n.ensures.value }

pub loop-digit-preserved : goal.loop-digit-preserved
loop-digit-preserved c =
    record {
      so_far = omega (arith, digits_value_more 10 c.args.digits.now c.loop-digit.digit-index c.loop-digit-test.true, c.in_ok-n.ensures.value.1, c.loop-digit.invariant.so_far);
      fits = omega (arith, c.in_ok-n.ensures.value.0, c.in_ok-n.ensures.value.1);
    }

pub returns : goal.returns
returns c =
    let all : c.loop-digit.n ≡ digits_value 10 c.args.digits.now = c.loop-digit.invariant.so_far ∙ ap (digits_value 10) (take_all _ _ c.loop-digit-test.false) in
    record { value = (omega (arith, c.loop-digit.invariant.fits, all), all) }
