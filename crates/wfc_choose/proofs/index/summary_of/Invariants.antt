use Rattle.std.proofs.Common.{◌≡◌, vec_len}
use Rattle.wfc_choose.proofs.IndexLemmas.{AreLeast}
use Rattle.wfc_choose.proofs.index.summary_of.Given as goal

-- the blocks so far are summed up
abbrev pub invariant-loop-block : goal.invariant-loop-block
invariant-loop-block l = record {
  long : vec_len l.above ≡ l.block;
  least : AreLeast l.below l.above.items;
}
