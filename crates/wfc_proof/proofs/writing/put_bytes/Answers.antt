use Rattle.std.proofs.Common.{arith}
use Rattle.std.proofs.lemmas.Grind.{common_steps}
use Rattle.std.proofs.lemmas.List.{take_rest}
use Rattle.wfc_outside.proofs.SinkLemmas.{after_next_bytes}
use Rattle.wfc_proof.proofs.writing.put_bytes.Goals as goal

pub loop-done-preserved : goal.loop-done-preserved
loop-done-preserved g c = record {
  inside = grind (arith, common_steps, c.in_ok-done.ensures.within);
  taken = after_next_bytes _ _ _ _ _ _ c.loop-done.invariant.taken (simp take_rest at c.in_ok-done.ensures.ok);
}
