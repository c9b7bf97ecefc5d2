use Rattle.std.proofs.Common.{ap, arith, ◌++◌, ◌∙◌}
use Rattle.wfc_proof.proofs.TellingLemmas.{header_bare}
use Rattle.wfc_proof.proofs.heads.write_header.Goals as goal
use Rattle.wfc_proof.specs.Heads.{numbers_text, with_line_end}

pub returns-clause-bare : goal.returns-clause-bare
returns-clause-bare g c =
    let text = c.as_slice.ensures.bytes ∙ c.gather_numbers.ensures.gathered ∙ ap (λ t. t ++ with_line_end (numbers_text c.args.cells c.args.values)) c.gather_format.ensures.gathered in
    header_bare (g.S.Sink.seen c.args.sink.now) (g.S.Sink.seen c.write_all.new.sink) c.as_slice.result.now c.args.cells c.args.values c.write_all.result (omega (arith, c.ranges.cells.fits)) (omega (arith, c.ranges.values.fits)) text c.write_all.ensures.put
