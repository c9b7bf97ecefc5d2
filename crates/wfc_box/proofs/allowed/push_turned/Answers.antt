use Rattle.std.proofs.Common.{ℕ, ◌<◌, ◌++◌, [], ◌∷◌, List, map, sym, ap, ◌∙◌, append_assoc, zero-add, subst}
use Rattle.std.specs.List.{range_with_len}
use Rattle.std.proofs.lemmas.List.Elements.{All-push}
use Rattle.std.proofs.lemmas.List.FromFn.{map-range_with_len_more}
use Rattle.wfc_tileset.specs.Tiles.{variant_total}
use Rattle.wfc_box.specs.StackTable.{AreVariantPairs}
use Rattle.wfc_box.specs.Stacks.{turned_stack}
use Rattle.wfc_box.proofs.allowed.push_turned.Goals as goal

pub loop-k-preserved : goal.loop-k-preserved
loop-k-preserved c =
    let f : ℕ → ℕ × ℕ = turned_stack c.args.tiles.now.tiles c.args.stack in
    let n = variant_total c.args.tiles.now.tiles in
    let k = c.loop-k.k in
    let front = c.args.pairs.now.items in
    record {
      so_far =
          c.in_ok-push.ensures.items
          ∙ ap (λ (t : List (ℕ × ℕ)). t ++ c.turned_pair.result ∷ []) c.loop-k.invariant.so_far
          ∙ ap (λ (p : ℕ × ℕ). (front ++ map f (range_with_len 0 k)) ++ p ∷ []) c.turned_pair.ensures.value
          ∙ append_assoc front (map f (range_with_len 0 k)) (f k ∷ [])
          ∙ ap (λ (t : List (ℕ × ℕ)). front ++ t) (sym (map-range_with_len_more f 0 k k (zero-add k)));
      within = subst (AreVariantPairs n) (sym c.in_ok-push.ensures.items)
          (All-push (λ (p : ℕ × ℕ). (p.0 < n) × (p.1 < n)) _ _ c.loop-k.invariant.within (c.turned_pair.ensures.lower_in, c.turned_pair.ensures.upper_in));
    }
