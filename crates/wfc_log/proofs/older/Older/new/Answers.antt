use Rattle.std.proofs.Common.{◌≡◌, ℕ, ◌*◌, ◌+◌, ◌∙◌, length, map, ltb, ap, arith, inl, inr}
use Rattle.std.specs.Prelude.{slice_index}
use Rattle.std.proofs.lemmas.Bool.{cases_Bool, cond-true, cond-false, ltb-false}
use Rattle.std.specs.List.{range_with_len}
use Rattle.std.proofs.lemmas.List.FromFn.{length-map-range_with_len}
use Rattle.wfc_problem.specs.Network.{in_base, values}
use Rattle.wfc_problem.specs.Sizes.{size_at, sizes_of}
use Rattle.wfc_log.specs.Domains.{size_of}
use Rattle.wfc_log.specs.Numbered.{limit_of, removal_count, placed_removals, first_sizes, short_limit, wide_limit}
use Rattle.wfc_log.proofs.NumberedLemmas.{number-limit}
use Rattle.wfc_log.proofs.OlderLemmas.{base-few}
use Rattle.wfc_log.proofs.older.Older.new.Goals as goal

pub invariant_of-result : goal.invariant_of-result
invariant_of-result c =
    let P = c.args.problem.now in
    let p = c.cells-cells.ensures.problem in
    let t = p.sized in
    let n = c.cells-cells.result in
    let v = c.values-values.result in
    let d = c.dirs-dirs.result in
    let sizes = c.in_ok-from_slice.field-0 in
    let is : sizes.items ≡ sizes_of P (in_base P) = c.in_ok-from_slice.ensures.items ∙ c.sizes.ensures.value ∙ ap (λ D. map (size_of D) (range_with_len 0 D.cells)) c.requires.base in
    let long : length sizes.items ≡ P.cells = ap length is ∙ length-map-range_with_len (size_at P (in_base P)) 0 P.cells in
    let count : removal_count (length sizes.items) v d ≡ P.cells * values P * (P.dirs + 1) = λ i. long i * c.values-values.ensures.value i * (c.dirs-dirs.ensures.value i + 1) in
    let few = number-limit (P.cells * values P) P.dirs t.few_pairs t.four_or_six in
    let places = c.from.result * c.from-2.result * (c.from-3.result + 1) in
    let counted : places ≡ P.cells * values P * (P.dirs + 1) = λ i. (c.from.ensures ∙ c.cells-cells.ensures.value) i * (c.from-2.ensures ∙ c.values-values.ensures.value) i * ((c.from-3.ensures ∙ c.dirs-dirs.ensures.value) i + 1) in
    let made = c.in_ok-new.ensures.ok in
    let none = ap (λ z. z.numbers) made in
    let limit : c.in_ok-new.field-0.limit ≡ limit_of (ltb short_limit places) = ap (λ z. z.limit) made in
    let first = ap (first_sizes v d sizes.items) none in
    record {
      some_value = omega (arith, c.values-values.ensures.value, t.some_value);
      few_places = omega (arith, count, few);
      places_in = elim (cases_Bool (ltb short_limit places)) [
        | inl wide ↦ omega (arith, limit, cond-true {A = ℕ} (ltb short_limit places) wide_limit short_limit wide, count, few)
        | inr narrow ↦ omega (arith, limit, cond-false {A = ℕ} (ltb short_limit places) wide_limit short_limit narrow, ltb-false _ _ narrow, count, counted)
      ];
      numbers_in = λ k e l. absurd (omega (arith, l, ap length none));
      few_values = λ k. omega (arith, ap (λ s. slice_index s k) (first ∙ is), base-few P p k);
    }

pub returns : goal.returns
returns c =
    let P = c.args.problem.now in
    let p = c.cells-cells.ensures.problem in
    let v = c.values-values.result in
    let d = c.dirs-dirs.result in
    let sizes = c.in_ok-from_slice.field-0 in
    let is : sizes.items ≡ sizes_of P (in_base P) = c.in_ok-from_slice.ensures.items ∙ c.sizes.ensures.value ∙ ap (λ D. map (size_of D) (range_with_len 0 D.cells)) c.requires.base in
    let long : length sizes.items ≡ P.cells = ap length is ∙ length-map-range_with_len (size_at P (in_base P)) 0 P.cells in
    let made = c.in_ok-new.ensures.ok in
    let none = ap (λ z. z.numbers) made in
    let first = ap (first_sizes v d sizes.items) none ∙ is in
    record {
      ok = λ i. record {
        room = ap (λ z. z.room) made i;
        extent = record { cells = long i; values = c.values-values.ensures.value i; dirs = c.dirs-dirs.ensures.value i; sizes = first i };
        removals = (ap (placed_removals v d (first_sizes v d sizes.items c.in_ok-new.field-0.numbers)) none) i;
      };
    }
