use Rattle.std.proofs.Common.{sym, ap, ◌∙◌, arith}
use Rattle.std.specs.Result.{result_ok}
use Rattle.wfc_proof.proofs.WordLemmas.{zero_first-none, decimal_within-read}
use Rattle.wfc_proof.proofs.words.decimal_within.Goals as goal

pub returns-then-has_zero_first : goal.returns-then-has_zero_first
returns-then-has_zero_first c =
    record { exact = sym (zero_first-none c.args.most c.args.word.now (omega (arith, c.ranges.most.fits)) (sym c.has_zero_first.ensures.value ∙ c.if-has_zero_first.true)) }

pub returns : goal.returns
returns c =
    let read = decimal_within-read c.args.most c.args.word.now (omega (arith, c.ranges.most.fits)) (sym c.has_zero_first.ensures.value ∙ c.if-has_zero_first.false) in
    record { exact = c.ok.ensures.value ∙ ap result_ok c.number.ensures.exact ∙ sym read }
