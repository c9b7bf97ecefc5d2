use Rattle.std.proofs.Common.{◌≡◌, length, map, refl, sym, ◌∙◌, arith}
use Rattle.std.specs.Prelude.{slice_index}
use Rattle.std.specs.List.{range_with_len}
use Rattle.std.proofs.lemmas.List.{ext_get_or}
use Rattle.std.proofs.lemmas.List.FromFn.{get_or-map-range_with_len, length-map-range_with_len}
use Rattle.wfc_log.specs.Domains.{Flags, size_of}
use Rattle.wfc_log.proofs.Rows.{size-is}
use Rattle.wfc_log.proofs.domains.Domains.sizes.Goals as goal

pub returns : goal.returns
returns c =
    let a = c.self.inside in
    let n = length a.sizes.items in
    let D : Flags = record { cells = n; values = a.values; flags = a.flags } in
    let listed : a.sizes.items ≡ map (size_of D) (range_with_len 0 n) =
    ext_get_or 0 a.sizes.items (map (size_of D) (range_with_len 0 n)) (sym (length-map-range_with_len (size_of D) 0 n)) (λ k l.
    size-is a.values a.flags a.sizes.items k (slice_index a.sizes.items k) c.self.invariant l refl
    ∙ sym (get_or-map-range_with_len (size_of D) 0 n k k 0 l (omega arith))) in
    rw (← c.self.view_is) (record { value = c.deref.ensures.value ∙ listed })
