use Rattle.std.proofs.Common.{◌≡◌, ◌++◌, [], ◌∷◌, map, sym, ap, ◌∙◌, append_assoc, zero-add}
use Rattle.std.specs.List.{range_with_len}
use Rattle.std.proofs.lemmas.List.{map-append}
use Rattle.std.proofs.lemmas.List.FromFn.{map-range_with_len_more}
use Rattle.wfc_tiled.specs.Tiles.{fitting_variants}
use Rattle.wfc_tiled.proofs.supports.push_lists.Goals as goal

pub loop-dir-preserved : goal.loop-dir-preserved
loop-dir-preserved c =
    let set = c.args.tiles.now in
    let v = c.args.v in
    let d = c.loop-dir.dir in
    let list : c.in_ok-from_slice.field-0.items ≡ fitting_variants set v d = c.in_ok-from_slice.ensures.items ∙ c.as_slice.ensures.value ∙ c.in_ok-list.ensures.value in
    ap (map (λ list. list.items)) c.in_ok-push.ensures.items
    ∙ map-append (λ list. list.items) c.loop-dir.lists.items (c.in_ok-from_slice.field-0 ∷ [])
    ∙ ap (λ t. t ++ c.in_ok-from_slice.field-0.items ∷ []) c.loop-dir.invariant
    ∙ ap (λ l. (map (λ list. list.items) c.args.lists.now.items ++ map (fitting_variants set v) (range_with_len 0 d)) ++ l ∷ []) list
    ∙ append_assoc (map (λ list. list.items) c.args.lists.now.items) (map (fitting_variants set v) (range_with_len 0 d)) (fitting_variants set v d ∷ [])
    ∙ ap (λ t. map (λ list. list.items) c.args.lists.now.items ++ t) (sym (map-range_with_len_more (fitting_variants set v) 0 d d (zero-add d)))
