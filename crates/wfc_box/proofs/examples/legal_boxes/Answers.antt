use Rattle.std.proofs.Common.{◌≡◌, ℕ, zero, suc, ◌+◌, ◌<◌, false, [], ◌∷◌, get_or, lit<, refl, sym, subst, arith, inl, inr}
use Rattle.std.proofs.lemmas.Bool.{false≢true}
use Rattle.wfc_model.specs.Raster.{Raster, number_at}
use Rattle.wfc_model.proofs.CallerLemmas.{IsSized-raster_of}
use Rattle.wfc_tileset.specs.Samples.{straight_lines}
use Rattle.wfc_tiled.specs.Mask.{plain_mask}
use Rattle.wfc_tiled.specs.Maps.{IsLegalTileMap, IsNext}
use Rattle.wfc_box.specs.Boxes.{IsHeldIn, LayerPin, number_in_box}
use Rattle.wfc_box.specs.Small.{kept_in, single}
use Rattle.wfc_box.specs.Stacks.{IsStacked}
use Rattle.wfc_tiled.proofs.CallerLemmas.{plain_there}
use Rattle.wfc_box.proofs.StackLemmas.{stacked_passes}
use Rattle.wfc_box.proofs.examples.legal_boxes.Goals as goal

-- the variant of a layer of one place
at : (v x y : ℕ) → x < 1 → y < 1 → number_at (single v) x y ≡ v
at v zero zero column row = refl
at v zero (suc y) column row = absurd (omega arith)
at v (suc x) y column row = absurd (omega arith)

-- nothing is next on a side of one place that doesn't wrap
no_next : (x u : ℕ) → IsNext 1 false x u → ⊥
no_next x u next = elim next.1 [ inl e ↦ absurd (omega (arith, next.0, e)) | inr last ↦ false≢true last.0 ]

-- a layer of one place is a legal map
layer_legal : (v : ℕ) → v < 2 → IsLegalTileMap straight_lines (plain_mask 1 1) false [] (single v)
layer_legal v inside = record {
  sized = IsSized-raster_of 1 1 (v ∷ []) (record { some_column = lit< tt; some_row = lit< tt; as_many = refl });
  filled = λ x y column row p. subst (λ k. k < 2) (sym (at v x y column row)) inside;
  holes = λ x y column row none. absurd (none (plain_there 1 1 x y column row));
  across = λ x y u column row next here there. absurd (no_next x u next);
  down = λ x y u column row next here there. absurd (no_next y u next);
  held = λ k d none. absurd (omega arith);
}

layers_legal : (k : ℕ) (d : Raster) → k < 2 → IsLegalTileMap straight_lines (plain_mask 1 1) false [] (get_or (single 0 ∷ single 1 ∷ []) k d)
layers_legal zero d within = layer_legal 0 (lit< tt)
layers_legal (suc zero) d within = layer_legal 1 (lit< tt)
layers_legal (suc (suc k)) d within = absurd (omega arith)

upon : (x y z : ℕ) → x < 1 → y < 1 → z + 1 < 2 → IsStacked ((0, 1) ∷ []) (number_in_box (single 0 ∷ single 1 ∷ []) x y z) (number_in_box (single 0 ∷ single 1 ∷ []) x y (z + 1))
upon zero zero zero column row layer = (0, lit< tt, refl)
upon zero zero (suc z) column row layer = absurd (omega arith)
upon zero (suc y) z column row layer = absurd (omega arith)
upon (suc x) y z column row layer = absurd (omega arith)

held : (k : ℕ) (d : LayerPin) → k < 1 → IsHeldIn (single 0 ∷ single 1 ∷ []) (get_or (kept_in 0 0 1 1 ∷ []) k d)
held zero d within = record { layer_in = lit< tt; held = record { column_in = lit< tt; row_in = lit< tt; number = refl } }
held (suc k) d within = absurd (omega arith)

pub returns : goal.returns
returns c = record {
  upright = record { deep = refl; layers = layers_legal; upon = upon; held = held };
  exchanged = λ legal. false≢true (stacked_passes ((0, 1) ∷ []) 1 0 (legal.upon 0 0 0 (lit< tt) (lit< tt) (lit< tt)));
  shallow = λ legal. let deep : 1 ≡ 2 = legal.deep in absurd (omega (arith, deep));
  other_layer = λ legal. let first : 0 ≡ 1 = (legal.held 0 (kept_in 0 0 0 1) (lit< tt)).held.number in absurd (omega (arith, first));
}
