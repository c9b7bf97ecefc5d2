-- Sizes of domains, as values go one after another.
use Rattle.std.proofs.Common.{◌≡◌, inl, inr, ℕ, ◌-◌, ◌<◌, List, [], ◌∷◌, length, get_or, refl, sym, ◌∙◌, ap, arith}
use Rattle.std.specs.Prelude.{IsTrue, slice_index}
use Rattle.std.proofs.lemmas.Bool.{cases_eq}
use Rattle.std.proofs.lemmas.List.{ext_get_or, get_or-set_same, get_or-set_other, length-set}
use Rattle.std.proofs.lemmas.List.FromFn.{get_or-map-range_with_len, length-map-range_with_len}
use Rattle.wfc_problem.specs.Network.{Network, values}
use Rattle.wfc_problem.specs.Domains.{Test}
use Rattle.wfc_problem.specs.Sizes.{size_at, sizes_of}
use Rattle.wfc_log.specs.declared.Removal.{Removal}
use Rattle.wfc_log.specs.Domains.{less}
use Rattle.wfc_log.specs.Log.{cells_of, fewer_at, sizes_after}
use Rattle.wfc_domains.specs.Removals.{without}
use Rattle.wfc_domains.specs.Board.{AreStood}
use Rattle.wfc_domains.proofs.Removals.{less-within, size-less, size-other}

-- the sizes of domains without a value that stood
fewer-sizes : (P : Network) (D : Test) (c v : ℕ) → c < P.cells → v < values P → IsTrue (D c v) → fewer_at (sizes_of P D) c ≡ sizes_of P (less D c v)
fewer-sizes P D c v hc hv t =
    let s = sizes_of P D in
    let long : length s ≡ P.cells = length-map-range_with_len (size_at P D) 0 P.cells in
    let set_long = length-set s c (slice_index s c - 1) in
    ext_get_or 0 (fewer_at s c) (sizes_of P (less D c v)) (set_long ∙ long ∙ sym (length-map-range_with_len (size_at P (less D c v)) 0 P.cells)) (λ k l.
    let hk : k < P.cells = omega (arith, l, set_long, long) in
    let new : get_or (sizes_of P (less D c v)) k 0 ≡ size_at P (less D c v) k = get_or-map-range_with_len (size_at P (less D c v)) 0 P.cells k k 0 hk (omega arith) in
    let old : get_or s k 0 ≡ size_at P D k = get_or-map-range_with_len (size_at P D) 0 P.cells k k 0 hk (omega arith) in
    elim (cases_eq k c) [
      | inl e ↦
          let here : get_or (fewer_at s c) k 0 ≡ slice_index s c - 1 = ap (λ i. get_or (fewer_at s c) i 0) e ∙ get_or-set_same s c _ 0 (omega (arith, hc, long)) in
          let was : slice_index s c ≡ size_at P D c = get_or-map-range_with_len (size_at P D) 0 P.cells c c 0 hc (omega arith) in
          let now = ap (size_at P (less D c v)) e in
          omega (arith, here, was, now, new, size-less P D c v hv t)
      | inr ne ↦ get_or-set_other s c k _ 0 ne ∙ old ∙ sym (size-other P D c v k ne) ∙ sym new
    ])

-- the sizes of what removals leave
pub stood-sizes : (P : Network) (D : Test) (rs : List Removal) → ((c v : ℕ) → IsTrue (D c v) → (c < P.cells) × (v < values P)) → AreStood D rs
    → sizes_after (sizes_of P D) (cells_of rs) ≡ sizes_of P (without D rs)
stood-sizes P D [] inside s = refl
stood-sizes P D (r ∷ rs) inside s =
    let range = inside r.cell r.value s.0 in
    ap (λ t. sizes_after t (cells_of rs)) (fewer-sizes P D r.cell r.value range.0 range.1 s.0)
    ∙ stood-sizes P (less D r.cell r.value) rs (λ c v t. inside c v (less-within D r.cell r.value c v t)) s.1
