use Rattle.std.proofs.Common.{◌*◌, ◌<◌, length, replicate, sym, ap, ◌∙◌, arith}
use Rattle.std.proofs.lemmas.Bool.{true≢false}
use Rattle.std.proofs.lemmas.List.{length-replicate}
use Rattle.wfc_problem.specs.Network.{values, supports_of}
use Rattle.wfc_domains.specs.Forms.{in_form}
use Rattle.wfc_domains.proofs.Problems.{supports-short, some_places}
use Rattle.wfc_domains.proofs.FormLemmas.{IsSplitUp, even_places, zeros_form, few_form}
use Rattle.wfc_domains.proofs.counters.Counters.new.Goals.{then-is_paired, else-is_paired}
use Rattle.wfc_domains.proofs.counters.Counters.new.Goals as goal

pub returns-clause-ok : goal.returns-clause-ok
returns-clause-ok c =
    let P = c.args.problem.now in
    let p = c.cells-cells.ensures.problem in
    let hc = c.cells-cells.ensures.value in
    let hv = c.values-values.ensures.value in
    let hd = c.dirs-dirs.ensures.value in
    let n = (c.cells-cells.result * c.values-values.result) * c.dirs-dirs.result in
    let b = c.are_paired-is_paired.result in
    let paired = c.if-is_paired.paired in
    let split : IsSplitUp b paired n = record {
      all = λ t. elim c.if-is_paired.branch [
        | then-is_paired w ↦ (w.paired-is, even_places c.cells-cells.result c.values-values.result c.dirs-dirs.result (c.are_paired-is_paired.ensures.even t))
        | else-is_paired w ↦ absurd (true≢false (sym t ∙ w.if-is_paired.false))
      ];
      none = λ f. elim c.if-is_paired.branch [ then-is_paired w ↦ absurd (true≢false (sym w.if-is_paired.true ∙ f)) | else-is_paired w ↦ w.paired-is ];
    } in
    let ps = c.in_ok-zeros.field-0 in
    let s = c.in_ok-zeros-2.field-0 in
    let zeros = zeros_form b ps s paired n split c.in_ok-zeros.ensures.ok c.in_ok-zeros-2.ensures.zeros in
    let all = ap (λ x. (x * c.values-values.result) * c.dirs-dirs.result) hc ∙ ap (λ x. (P.cells * x) * c.dirs-dirs.result) hv ∙ ap (λ x. (P.cells * values P) * x) hd in
    let counts = zeros ∙ ap (λ k. replicate k 0) all in
    λ i. record { cells = hc i; values = hv i; dirs = hd i; limit = (in_form b ps s).limit; counts = counts i }

pub returns-clause-fits : goal.returns-clause-fits
returns-clause-fits c =
    let P = c.args.problem.now in
    let p = c.cells-cells.ensures.problem in
    let hc = c.cells-cells.ensures.value in
    let hv = c.values-values.ensures.value in
    let hd = c.dirs-dirs.ensures.value in
    let n = (c.cells-cells.result * c.values-values.result) * c.dirs-dirs.result in
    let b = c.are_paired-is_paired.result in
    let paired = c.if-is_paired.paired in
    let split : IsSplitUp b paired n = record {
      all = λ t. elim c.if-is_paired.branch [
        | then-is_paired w ↦ (w.paired-is, even_places c.cells-cells.result c.values-values.result c.dirs-dirs.result (c.are_paired-is_paired.ensures.even t))
        | else-is_paired w ↦ absurd (true≢false (sym t ∙ w.if-is_paired.false))
      ];
      none = λ f. elim c.if-is_paired.branch [ then-is_paired w ↦ absurd (true≢false (sym w.if-is_paired.true ∙ f)) | else-is_paired w ↦ w.paired-is ];
    } in
    let ps = c.in_ok-zeros.field-0 in
    let s = c.in_ok-zeros-2.field-0 in
    let zeros = zeros_form b ps s paired n split c.in_ok-zeros.ensures.ok c.in_ok-zeros-2.ensures.zeros in
    let all = ap (λ x. (x * c.values-values.result) * c.dirs-dirs.result) hc ∙ ap (λ x. (P.cells * x) * c.dirs-dirs.result) hv ∙ ap (λ x. (P.cells * values P) * x) hd in
    let some : 0 < n = omega (arith, all, some_places P p) in
    record {
      same_cells = hc;
      same_values = hv;
      same_dirs = hd;
      whole = ap length zeros ∙ length-replicate n 0 ∙ all;
      few = λ v d. few_form b ps s paired n c.longest_list-longest.result c.large_places.result (length (supports_of P v d)) split c.are_paired-is_paired.ensures.few some
          c.in_ok-zeros-2.ensures.narrow c.in_ok-zeros-2.ensures.wide c.large_places.ensures.both c.large_places.ensures.few (c.longest_list-longest.ensures.longest v d) (supports-short P p v d);
    }
