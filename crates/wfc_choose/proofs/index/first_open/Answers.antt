use Rattle.std.proofs.Common.{length, sym, ◌∙◌, arith}
use Rattle.std.proofs.lemmas.Bool.{eqb-true}
use Rattle.wfc_choose.proofs.IndexLemmas.{first_picked, first_none, empty_none}
use Rattle.wfc_choose.proofs.index.first_open.Goals as goal

pub returns-then-sizes-cell-lt2 : goal.returns-then-sizes-cell-lt2
returns-then-sizes-cell-lt2 c = record {
  exact = sym (first_none c.args.sizes.now c.first_below-cell.result c.first_below-cell.ensures.first (λ k. (c.type_inv.sizes k).fits) (omega arith));
}

pub returns : goal.returns
returns c = record { exact = sym (first_picked c.args.sizes.now c.first_below-cell.result c.first_below-cell.ensures.first (omega arith)) }

pub returns-then-is_empty : goal.returns-then-is_empty
returns-then-is_empty c = record {
  exact = sym (empty_none c.args.sizes.now c.args.blocks.now c.args.areas.now c.args.regions.now c.requires.index
      (eqb-true (length c.args.regions.now) 0 (sym c.is_empty.ensures ∙ c.if-is_empty.true)));
}
