use Rattle.std.proofs.Common.{◌≡◌, ◌<◌, ◌++◌, [], ◌∷◌, length, map, sym, subst, ap, ◌∙◌, arith, append_assoc, zero-add}
use Rattle.std.specs.List.{range_with_len}
use Rattle.std.proofs.lemmas.List.{get_or_default, map-append}
use Rattle.std.proofs.lemmas.List.FromFn.{map-range_with_len_more}
use Rattle.std.proofs.lemmas.Option.{get_or_from_slice_get}
use Rattle.wfc_model.specs.Direction.{opposite}
use Rattle.wfc_pattern.specs.Patterns.{window_at}
use Rattle.wfc_overlap.specs.Sample.{agreeing_patterns}
use Rattle.wfc_overlap.specs.Sides.{IsGrouped, members, shared_part}
use Rattle.wfc_overlap.proofs.SideLemmas.{members_agree}
use Rattle.wfc_overlap.proofs.supports.push_lists.Goals as goal

pub loop-dir-preserved : goal.loop-dir-preserved
loop-dir-preserved c =
    let P = c.args.patterns.now in
    let p = c.args.p in
    let d = c.loop-dir.dir in
    let w = c.window.result.now in
    let r = c.index-groups-dir.result in
    let dir : d < 4 = c.loop-dir-test.true in
    let inside : d < length c.args.groups.now = omega (arith, c.requires.grouped.four, dir) in
    let window_is : window_at P p ≡ w = get_or_from_slice_get P.windows p w [] c.window.ensures.value in
    let grouped : IsGrouped P (opposite d) r = subst (IsGrouped P (opposite d)) (sym (c.index-groups-dir.is ∙ get_or_default c.args.groups.now d r [] inside)) (c.requires.grouped.each d dir) in
    let shared : c.in_ok-shared.shared.items ≡ shared_part P.n (window_at P p) d =
    c.in_ok-shared.ensures.value ∙ ap (λ n. shared_part n w d) c.n.ensures.value ∙ ap (λ v. shared_part P.n v d) (sym window_is) in
    let list : c.in_ok-from_slice.field-0.items ≡ agreeing_patterns P p d =
    c.in_ok-from_slice.ensures.items ∙ c.get-agreeing.ensures.value ∙ ap (members r) (c.deref.ensures.value ∙ shared) ∙ members_agree P r p d dir grouped in
    ap (map (λ list. list.items)) c.in_ok-push.ensures.items
    ∙ map-append (λ list. list.items) c.loop-dir.lists.items (c.in_ok-from_slice.field-0 ∷ [])
    ∙ ap (λ t. t ++ c.in_ok-from_slice.field-0.items ∷ []) c.loop-dir.invariant
    ∙ ap (λ l. (map (λ list. list.items) c.args.lists.now.items ++ map (agreeing_patterns P p) (range_with_len 0 d)) ++ l ∷ []) list
    ∙ append_assoc (map (λ list. list.items) c.args.lists.now.items) (map (agreeing_patterns P p) (range_with_len 0 d)) (agreeing_patterns P p d ∷ [])
    ∙ ap (λ t. map (λ list. list.items) c.args.lists.now.items ++ t) (sym (map-range_with_len_more (agreeing_patterns P p) 0 d d (zero-add d)))
