use Rattle.std.proofs.Common.{ℕ, List, filter, [], ◌∷◌, ◌++◌, decimal}
use Rattle.std.proofs.lemmas.Result.{err_from_is_err_and}
use Rattle.std.specs.List.{range_with_len}
use Rattle.wfc_log.specs.Domains.{has}
use Rattle.wfc_render.specs.Numbers.{blank_numbers}
use Rattle.wfc_render.proofs.GatheringLemmas.{fault_first, fault_then, gathers_on}
use Rattle.wfc_render.proofs.blocks.put_cell.Goals as goal

pub returns-in_err-put_number : goal.returns-in_err-put_number
returns-in_err-put_number g c =
    let p = err_from_is_err_and c.from_residual.result c.from_residual.ensures.1 in
    let values : List ℕ = blank_numbers (filter (has c.args.domains.now c.args.cell) (range_with_len 0 c.args.values)) in
    record { gathered = rw p.1 (fault_first _ _ c.args.piece.now (decimal c.args.cell) (58 ∷ (values ++ 10 ∷ [])) c.in_err-put_number.ensures.gathered) }

pub returns-in_err-put : goal.returns-in_err-put
returns-in_err-put g c =
    let p = err_from_is_err_and c.from_residual-in_err-put.result c.from_residual-in_err-put.ensures.1 in
    let values : List ℕ = blank_numbers (filter (has c.args.domains.now c.args.cell) (range_with_len 0 c.args.values)) in
    record {
      gathered = rw p.1 (fault_then _ _ _ c.args.piece.now c.put_number.new.piece (decimal c.args.cell) (58 ∷ (values ++ 10 ∷ [])) c.in_ok-put_number.ensures.gathered
          (fault_first _ _ c.put_number.new.piece (58 ∷ []) (values ++ 10 ∷ []) c.in_err-put.ensures.gathered));
    }

pub returns-in_err-put_values : goal.returns-in_err-put_values
returns-in_err-put_values g c =
    let p = err_from_is_err_and c.from_residual-in_err-put_values.result c.from_residual-in_err-put_values.ensures.1 in
    let values : List ℕ = blank_numbers (filter (has c.args.domains.now c.args.cell) (range_with_len 0 c.args.values)) in
    record {
      gathered = rw p.1 (fault_then _ _ _ c.args.piece.now c.put_number.new.piece (decimal c.args.cell) (58 ∷ (values ++ 10 ∷ [])) c.in_ok-put_number.ensures.gathered
          (fault_then _ _ _ c.put_number.new.piece c.put.new.piece (58 ∷ []) (values ++ 10 ∷ []) c.in_ok-put.ensures.gathered
          (fault_first _ _ c.put.new.piece values (10 ∷ []) c.in_err-put_values.ensures.gathered)));
    }

pub returns : goal.returns
returns g c =
    let values : List ℕ = blank_numbers (filter (has c.args.domains.now c.args.cell) (range_with_len 0 c.args.values)) in
    record {
      gathered = gathers_on _ _ _ c.args.piece.now c.put_number.new.piece c.put-2.new.piece (decimal c.args.cell) (58 ∷ (values ++ 10 ∷ [])) c.put-2.result c.in_ok-put_number.ensures.gathered
          (gathers_on _ _ _ c.put_number.new.piece c.put.new.piece c.put-2.new.piece (58 ∷ []) (values ++ 10 ∷ []) c.put-2.result c.in_ok-put.ensures.gathered
          (gathers_on _ _ _ c.put.new.piece c.put_values.new.piece c.put-2.new.piece values (10 ∷ []) c.put-2.result c.in_ok-put_values.ensures.gathered c.put-2.ensures.gathered));
    }
