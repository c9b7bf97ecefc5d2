use Rattle.std.proofs.Common.{◌≡◌, ◌++◌, [], ◌∷◌, List, ℕ, filter, sym, ap, ◌∙◌}
use Rattle.std.specs.Prelude.{nat_eq, if◌then◌else◌}
use Rattle.std.specs.Cmp.Lexicographic.{pointwise}
use Rattle.std.specs.List.{range_with_len}
use Rattle.std.proofs.lemmas.Option.{get_or_from_slice_get}
use Rattle.wfc_pattern.specs.Patterns.{PatternsView, window_at}
use Rattle.wfc_overlap.specs.Sides.{shared_part}
use Rattle.wfc_lists.proofs.Growing.{kept_more}
use Rattle.wfc_overlap.proofs.groups.group.Goals as goal

-- the patterns before q that share the key
abbrev filtered : PatternsView → ℕ → List ℕ → ℕ → List ℕ
filtered P d key q = filter (λ q. pointwise nat_eq key (shared_part P.n (window_at P q) d)) (range_with_len 0 q)

pub loop-q-preserved : goal.loop-q-preserved
loop-q-preserved c = λ key.
    let P = c.args.patterns.now in
    let q = c.loop-q.q in
    let w = c.window.result.now in
    let window_is : window_at P q ≡ w = get_or_from_slice_get P.windows q w [] c.window.ensures.value in
    let key_is : c.in_ok-key.key.items ≡ shared_part P.n (window_at P q) c.args.dir =
    c.in_ok-key.ensures.value ∙ ap (λ n. shared_part n w c.args.dir) c.n.ensures.value ∙ ap (λ v. shared_part P.n v c.args.dir) (sym window_is) in
    c.in_ok-add.ensures.added key
    ∙ ap (λ ms. ms ++ (if pointwise nat_eq key c.in_ok-key.key.items then q ∷ [] else [])) (c.loop-q.invariant key)
    ∙ ap (λ k. filtered P c.args.dir key q ++ (if pointwise nat_eq key k then q ∷ [] else [])) key_is
    ∙ sym (kept_more (λ q. pointwise nat_eq key (shared_part P.n (window_at P q) c.args.dir)) q)
