use Rattle.std.proofs.Common.{ℕ, List, codes}
use Rattle.std.proofs.lemmas.Result.{err_from_is_err_and}
use Rattle.std.specs.Option.{option_copied}
use Rattle.wfc_render.specs.Block.{shown_text, test_of}
use Rattle.wfc_render.specs.Numbers.{head_line}
use Rattle.wfc_render.proofs.GatheringLemmas.{fault_first, fault_then, fault_of_text, passes_on, puts_left}
use Rattle.wfc_render.proofs.blocks.write_block.Goals as goal

pub returns-in_err-put_head : goal.returns-in_err-put_head
returns-in_err-put_head g c =
    let p = err_from_is_err_and c.from_residual.result c.from_residual.ensures.1 in
    let shown : List ℕ = shown_text (test_of (option_copied c.args.shown)) c.args.values c.args.cells in
    record { put = rw p.1 (fault_of_text _ _ c.new-piece.result _ c.new-piece.ensures.none (fault_first _ _ c.new-piece.result (head_line (codes "step") c.args.step) shown c.in_err-put_head.ensures.gathered)) }

pub returns-in_err-put_shown : goal.returns-in_err-put_shown
returns-in_err-put_shown g c =
    let p = err_from_is_err_and c.from_residual-in_err-put_shown.result c.from_residual-in_err-put_shown.ensures.1 in
    let shown : List ℕ = shown_text (test_of (option_copied c.args.shown)) c.args.values c.args.cells in
    record { put = rw p.1 (fault_of_text _ _ c.new-piece.result _ c.new-piece.ensures.none (fault_then _ _ _ c.new-piece.result c.put_head.new.piece (head_line (codes "step") c.args.step) shown c.in_ok-put_head.ensures.gathered c.in_err-put_shown.ensures.gathered)) }

pub returns : goal.returns
returns g c =
    let shown : List ℕ = shown_text (test_of (option_copied c.args.shown)) c.args.values c.args.cells in
    record {
      put = puts_left _ _ _ c.new-piece.result _ c.put_shown.new.piece c.flush.result c.new-piece.ensures.none
          (passes_on _ _ _ c.new-piece.result c.put_head.new.piece c.put_shown.new.piece (head_line (codes "step") c.args.step) shown c.in_ok-put_head.ensures.gathered c.in_ok-put_shown.ensures.gathered)
          c.flush.ensures.put;
    }
