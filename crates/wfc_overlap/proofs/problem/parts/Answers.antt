use Rattle.std.proofs.Common.{refl}
use Rattle.wfc_overlap.specs.Layout.{output_of}
use Rattle.wfc_overlap.proofs.PartLemmas.{parts_are}
use Rattle.wfc_overlap.proofs.problem.parts.Goals as goal

pub returns : goal.returns
returns c = record {
  value = parts_are c.args.patterns.now (output_of c.args.layout) c.args.base.items c.args.layout.n _ c.requires.n c.cells.ensures.value refl
      c.in_ok-neighbours.ensures.value c.in_ok-weights.ensures.value c.requires.supports refl;
}
