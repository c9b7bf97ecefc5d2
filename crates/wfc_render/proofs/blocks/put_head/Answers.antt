use Rattle.std.proofs.Common.{◌∷◌, [], ◌++◌, codes, decimal}
use Rattle.std.proofs.lemmas.Result.{err_from_is_err_and}
use Rattle.wfc_render.proofs.GatheringLemmas.{fault_first, fault_then, gathers_on}
use Rattle.wfc_render.proofs.blocks.put_head.Goals as goal

pub returns-in_err-put : goal.returns-in_err-put
returns-in_err-put g c =
    let p = err_from_is_err_and c.from_residual.result c.from_residual.ensures.1 in
    record { gathered = rw p.1 (fault_first _ _ c.args.piece.now (codes "step ") (decimal c.args.step ++ 10 ∷ []) c.in_err-put.ensures.gathered) }

pub returns-in_err-put_number : goal.returns-in_err-put_number
returns-in_err-put_number g c =
    let p = err_from_is_err_and c.from_residual-in_err-put_number.result c.from_residual-in_err-put_number.ensures.1 in
    record { gathered = rw p.1 (fault_then _ _ _ c.args.piece.now c.put.new.piece (codes "step ") (decimal c.args.step ++ 10 ∷ []) c.in_ok-put.ensures.gathered (fault_first _ _ c.put.new.piece (decimal c.args.step) (10 ∷ []) c.in_err-put_number.ensures.gathered)) }

pub returns : goal.returns
returns g c = record {
  gathered = gathers_on _ _ _ c.args.piece.now c.put.new.piece c.put-2.new.piece (codes "step ") (decimal c.args.step ++ 10 ∷ []) c.put-2.result c.in_ok-put.ensures.gathered
      (gathers_on _ _ _ c.put.new.piece c.put_number.new.piece c.put-2.new.piece (decimal c.args.step) (10 ∷ []) c.put-2.result c.in_ok-put_number.ensures.gathered c.put-2.ensures.gathered);
}
