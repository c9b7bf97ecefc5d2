use Rattle.std.proofs.Common.{◌≡◌, ◌+◌, ◌*◌, ℕ, map, sym, ◌∙◌, ap, arith}
use Rattle.std.specs.Prelude.{min}
use Rattle.std.specs.List.{range_with_len}
use Rattle.std.proofs.Math.Nat.{min-le_right}
use Rattle.wfc_log.specs.Domains.{has}
use Rattle.wfc_problem.specs.Network.{Network}
use Rattle.wfc_problem.specs.Sizes.{size_at}
use Rattle.wfc_problem.proofs.CallerLemmas.{few_values}
use Rattle.wfc_search.specs.Volume.{product}
use Rattle.wfc_search.proofs.Capped.{sizes_product_more, cut_product, small_product, size_is}
use Rattle.wfc_search.proofs.volumes.volume.Goals as goal

pub overflow_mul-product : goal.overflow_mul-product
overflow_mul-product c =
    let P : Network = c.args.problem.now in
    let few = min-le_right (product (map (size_at P (has c.args.domains.now)) (range_with_len 0 c.loop-cell.cell))) (c.from-limit.result + 1) in
    let small = small_product c.loop-cell.product c.from.result (omega (arith, few, c.loop-cell.invariant.product, c.loop-cell.invariant.limit))
    (omega (arith, c.size.ensures.few, c.from.ensures, c.requires.fits.same_values, few_values P c.cells-cell-end.ensures.problem)) in
    omega (arith, small)

pub loop-cell-preserved : goal.loop-cell-preserved
loop-cell-preserved c =
    let P : Network = c.args.problem.now in
    let f : ℕ → ℕ = size_at P (has c.args.domains.now) in
    let n : ℕ = c.loop-cell.cell in
    let so_far : ℕ = product (map f (range_with_len 0 n)) in
    let size : c.from.result ≡ f n = c.from.ensures ∙ c.size.ensures.value ∙ size_is P c.args.domains.now n c.requires.fits in
    record {
      limit = c.loop-cell.invariant.limit;
      product = c.min-product.ensures
          ∙ ap (λ (p : ℕ). min (p * c.from.result) (c.from-limit.result + 1)) c.loop-cell.invariant.product
          ∙ ap (λ (x : ℕ). min (min so_far (c.from-limit.result + 1) * x) (c.from-limit.result + 1)) size
          ∙ cut_product so_far (f n) (c.from-limit.result + 1)
          ∙ ap (λ (p : ℕ). min p (c.from-limit.result + 1)) (sym (sizes_product_more f n));
    }
