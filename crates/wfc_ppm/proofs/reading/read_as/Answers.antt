use Rattle.wfc_ppm.specs.View.{head_view}
use Rattle.wfc_ppm.proofs.HeaderLemmas.{made-picture}
use Rattle.wfc_ppm.proofs.reading.read_as.Goals as goal

pub invariant_of-result : goal.invariant_of-result
invariant_of-result c =
    made-picture c.args.form c.args.bytes.now (head_view c.in_ok-header.header) c.in_ok-pixels.pixels.items (λ k. (c.type_inv.bytes k).fits) c.requires.form
    c.in_ok-header.ensures.header c.in_ok-header.ensures.right c.in_ok-check_maxval.ensures.right c.in_ok-check_size.ensures.right c.in_ok-pixels.ensures.right c.in_ok-pixels.ensures.pixels
