use Rattle.std.proofs.lemmas.List.{take_rest}
use Rattle.std.proofs.lemmas.Result.{err_from_is_err_and}
use Rattle.std.proofs.Common.{Some, None}
use Rattle.wfc_ppm.proofs.HeaderLemmas.{header-by, header-is}
use Rattle.wfc_ppm.proofs.reading.read_header.Goals as goal

pub returns-in_err-check_end-clause-fault : goal.returns-in_err-check_end-clause-fault
returns-in_err-check_end-clause-fault c =
    let p = err_from_is_err_and c.from_residual-in_err-check_end.result c.from_residual-in_err-check_end.ensures.1 in
    rw (p.1, p.2)
    (header-by c.args.form c.args.total c.args.bytes.now _ c.in_ok-width.text.now c.in_ok-height.text.now c.in_ok-maxval.rest.now (Some c.in_err-check_end.field-0.0)
    record { first = take_rest c.args.bytes.now 2; second = c.in_ok-width.ensures.rest; third = c.in_ok-height.ensures.rest; fourth = c.in_ok-maxval.ensures.rest }
    c.in_ok-width.ensures.right c.in_ok-height.ensures.right c.in_ok-maxval.ensures.right c.in_err-check_end.ensures.fault)

pub returns-clause-right : goal.returns-clause-right
returns-clause-right c =
    header-by c.args.form c.args.total c.args.bytes.now _ c.in_ok-width.text.now c.in_ok-height.text.now c.in_ok-maxval.rest.now None
    record { first = take_rest c.args.bytes.now 2; second = c.in_ok-width.ensures.rest; third = c.in_ok-height.ensures.rest; fourth = c.in_ok-maxval.ensures.rest }
    c.in_ok-width.ensures.right c.in_ok-height.ensures.right c.in_ok-maxval.ensures.right c.in_ok-check_end.ensures.right

pub returns-clause-header : goal.returns-clause-header
returns-clause-header c =
    header-is c.args.bytes.now _ c.in_ok-width.text.now c.in_ok-height.text.now c.in_ok-maxval.rest.now c.in_ok-width.width c.in_ok-height.height c.in_ok-maxval.maxval
    record { first = take_rest c.args.bytes.now 2; second = c.in_ok-width.ensures.rest; third = c.in_ok-height.ensures.rest; fourth = c.in_ok-maxval.ensures.rest }
    c.in_ok-width.ensures.value c.in_ok-height.ensures.value c.in_ok-maxval.ensures.value
