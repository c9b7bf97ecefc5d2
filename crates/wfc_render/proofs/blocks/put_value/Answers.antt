use Rattle.std.proofs.Common.{◌≡◌, true, sym, [], ◌∷◌, decimal}
use Rattle.std.proofs.lemmas.Result.{err_from_is_err_and}
use Rattle.wfc_log.specs.Domains.{has}
use Rattle.wfc_render.proofs.GatheringLemmas.{fault_first, fault_as, gathers_on, gathers_as}
use Rattle.wfc_render.proofs.RangeLemmas.{blank_numbers-one}
use Rattle.wfc_render.proofs.blocks.put_value.Goals as goal

pub returns-in_err-put : goal.returns-in_err-put
returns-in_err-put g c =
    let p = err_from_is_err_and c.from_residual.result c.from_residual.ensures.1 in
    let stands : has c.args.domains.now c.args.cell c.args.value ≡ true = sym c.if-not-has.ensures.value in
    let text = blank_numbers-one (has c.args.domains.now c.args.cell) c.args.value stands in
    record { gathered = rw p.1 (fault_as _ _ c.args.piece.now _ _ text (fault_first _ _ c.args.piece.now (32 ∷ []) (decimal c.args.value) c.in_err-put.ensures.gathered)) }

pub returns : goal.returns
returns g c =
    let stands : has c.args.domains.now c.args.cell c.args.value ≡ true = sym c.if-not-has.ensures.value in
    let text = blank_numbers-one (has c.args.domains.now c.args.cell) c.args.value stands in
    record {
      gathered = gathers_as _ _ c.args.piece.now _ _ c.put_number.new.piece c.put_number.result text
          (gathers_on _ _ _ c.args.piece.now c.put.new.piece c.put_number.new.piece (32 ∷ []) (decimal c.args.value) c.put_number.result c.in_ok-put.ensures.gathered (rw c.from.ensures at c.put_number.ensures.gathered));
    }
