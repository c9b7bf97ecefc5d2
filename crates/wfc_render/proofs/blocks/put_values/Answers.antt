use Rattle.std.proofs.Common.{◌≡◌, ℕ, List, filter, sym, ap, ◌∙◌, [], ◌∷◌, arith}
use Rattle.std.proofs.lemmas.Result.{err_from_is_err_and}
use Rattle.std.specs.List.{flat_map, range_with_len}
use Rattle.wfc_log.specs.Domains.{has}
use Rattle.wfc_render.specs.Numbers.{blank_numbers}
use Rattle.wfc_render.proofs.GatheringLemmas.{fault_next, fault_as, passes_next, passes_as}
use Rattle.wfc_render.proofs.RangeLemmas.{blank_numbers-each}
use Rattle.wfc_render.proofs.blocks.put_values.Goals as goal

pub returns-in_err-put_value : goal.returns-in_err-put_value
returns-in_err-put_value g c =
    let p = err_from_is_err_and c.from_residual.result c.from_residual.ensures.1 in
    let each = blank_numbers-each (has c.args.domains.now c.args.cell) (range_with_len 0 c.args.values) in
    record {
      gathered = rw p.1 (fault_as _ _ c.args.piece.now _ _ (sym each)
          (fault_next (λ v. blank_numbers (filter (has c.args.domains.now c.args.cell) (v ∷ []))) c.loop-value.value c.args.values _ _ _ c.args.piece.now c.loop-value.piece c.loop-value-test.true c.loop-value.invariant c.in_err-put_value.ensures.gathered));
    }

pub loop-value-preserved : goal.loop-value-preserved
loop-value-preserved g c =
    passes_next (λ v. blank_numbers (filter (has c.args.domains.now c.args.cell) (v ∷ []))) c.loop-value.value _ _ _ c.args.piece.now c.loop-value.piece c.put_value.new.piece c.loop-value.invariant c.in_ok-put_value.ensures.gathered

pub returns : goal.returns
returns g c =
    let f : ℕ → List ℕ = λ v. blank_numbers (filter (has c.args.domains.now c.args.cell) (v ∷ [])) in
    let all : c.args.values ≡ c.loop-value.value = omega arith in
    let text = sym (blank_numbers-each (has c.args.domains.now c.args.cell) (range_with_len 0 c.args.values)) ∙ ap (λ n. flat_map f (range_with_len 0 n)) all in
    record { gathered = passes_as _ _ c.args.piece.now _ _ c.loop-value.piece text c.loop-value.invariant }
