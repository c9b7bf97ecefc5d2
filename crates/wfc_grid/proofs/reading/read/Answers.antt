use Rattle.std.proofs.Common.{◌<◌, sym, ap, ◌∙◌, arith, ◌≡◌, length, inl, inr, Err, ◌*◌, ◌/◌, ◌≤◌}
use Rattle.std.proofs.lemmas.Result.{err_from_is_err_and}
use Rattle.wfc_text.specs.Line.{lines_of}
use Rattle.wfc_grid.specs.Fault.{grid_bytes, width_of}
use Rattle.wfc_grid.specs.declared.reading.GridFault.TheVariants.{Empty, TooLarge}
use Rattle.wfc_grid.proofs.GridLemmas.{fault_read, grid_read, empty_fault, line_fault_first, large_fault, made_grid, refused}
use Rattle.wfc_grid.proofs.reading.read.Goals as goal

pub returns-then-width-eq0-clause-refused : goal.returns-then-width-eq0-clause-refused
returns-then-width-eq0-clause-refused c =
    λ _. refused c.args.bytes.now Empty (empty_fault (lines_of c.args.bytes.now) (sym c.first_width-width.ensures.width ∙ c.if-width-eq0.true))

pub returns-then-width-eq0-clause-exact : goal.returns-then-width-eq0-clause-exact
returns-then-width-eq0-clause-exact c =
    inl (fault_read c.args.bytes.now Empty (empty_fault (lines_of c.args.bytes.now) (sym c.first_width-width.ensures.width ∙ c.if-width-eq0.true)))

pub returns-in_err-pixels-clause-exact : goal.returns-in_err-pixels-clause-exact
returns-in_err-pixels-clause-exact c =
    let p = err_from_is_err_and c.from_residual.result c.from_residual.ensures.1 in
    let wide : 0 < width_of (lines_of c.args.bytes.now) = omega (arith, c.first_width-width.ensures.width, c.if-width-eq0.false) in
    rw (p.1, p.2) (elim c.in_err-pixels.ensures.fault [
      | inl first ↦ inl (fault_read c.args.bytes.now c.in_err-pixels.field-0.0 (line_fault_first (lines_of c.args.bytes.now) c.in_err-pixels.field-0.0 wide (rw c.first_width-width.ensures.width at first)))
      | inr short ↦ inr (ap Err short)
    ])

pub returns-in_err-pixels-clause-refused : goal.returns-in_err-pixels-clause-refused
returns-in_err-pixels-clause-refused c =
    let p = err_from_is_err_and c.from_residual.result c.from_residual.ensures.1 in
    let wide : 0 < width_of (lines_of c.args.bytes.now) = omega (arith, c.first_width-width.ensures.width, c.if-width-eq0.false) in
    rw (p.1, p.2) (λ other. elim c.in_err-pixels.ensures.fault [
      | inl first ↦ refused c.args.bytes.now c.in_err-pixels.field-0.0 (line_fault_first (lines_of c.args.bytes.now) c.in_err-pixels.field-0.0 wide (rw c.first_width-width.ensures.width at first))
      | inr short ↦ absurd (other short)
    ])

pub returns-then-len-gt-MAX_GRID_BYTES-clause-refused : goal.returns-then-len-gt-MAX_GRID_BYTES-clause-refused
returns-then-len-gt-MAX_GRID_BYTES-clause-refused c =
    let wide : 0 < width_of (lines_of c.args.bytes.now) = omega (arith, c.first_width-width.ensures.width, c.if-width-eq0.false) in
    let many : 1048576 < length (grid_bytes (lines_of c.args.bytes.now)) = omega (arith, ap length c.in_ok-pixels.ensures.pixels) in
    λ _. refused c.args.bytes.now TooLarge (large_fault (lines_of c.args.bytes.now) wide (rw c.first_width-width.ensures.width at c.in_ok-pixels.ensures.right) many)

pub returns-then-len-gt-MAX_GRID_BYTES-clause-exact : goal.returns-then-len-gt-MAX_GRID_BYTES-clause-exact
returns-then-len-gt-MAX_GRID_BYTES-clause-exact c =
    let wide : 0 < width_of (lines_of c.args.bytes.now) = omega (arith, c.first_width-width.ensures.width, c.if-width-eq0.false) in
    let many : 1048576 < length (grid_bytes (lines_of c.args.bytes.now)) = omega (arith, ap length c.in_ok-pixels.ensures.pixels) in
    inl (fault_read c.args.bytes.now TooLarge (large_fault (lines_of c.args.bytes.now) wide (rw c.first_width-width.ensures.width at c.in_ok-pixels.ensures.right) many))

pub invariant_of-result : goal.invariant_of-result
invariant_of-result c =
    let many : c.len-2.result ≡ length c.in_ok-pixels.pixels.items = omega arith in
    let made = made_grid c.args.bytes.now c.first_width-width.result c.in_ok-pixels.pixels.items (omega (arith, c.if-width-eq0.false)) c.first_width-width.ensures.width c.in_ok-pixels.ensures.right c.in_ok-pixels.ensures.pixels in
    rw many made.grid

pub returns-clause-ok : goal.returns-clause-ok
returns-clause-ok c =
    let many : c.len-2.result ≡ length c.in_ok-pixels.pixels.items = omega arith in
    rw many (made_grid c.args.bytes.now c.first_width-width.result c.in_ok-pixels.pixels.items (omega (arith, c.if-width-eq0.false)) c.first_width-width.ensures.width c.in_ok-pixels.ensures.right c.in_ok-pixels.ensures.pixels)

pub returns-clause-exact : goal.returns-clause-exact
returns-clause-exact c =
    let many : c.len-2.result ≡ length c.in_ok-pixels.pixels.items = omega arith in
    let made = made_grid c.args.bytes.now c.first_width-width.result c.in_ok-pixels.pixels.items (omega (arith, c.if-width-eq0.false)) c.first_width-width.ensures.width c.in_ok-pixels.ensures.right c.in_ok-pixels.ensures.pixels in
    let small : c.first_width-width.result * (length c.in_ok-pixels.pixels.items / c.first_width-width.result) ≤ 1048576 = omega (arith, made.grid.filled.as_many) in
    rw many (inl (sym (grid_read c.args.bytes.now _ made small)))
