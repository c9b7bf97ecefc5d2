-- A hop leads to the neighbour in its direction.
use Rattle.std.proofs.Common.{◌≡◌, ℕ, ◌<◌, List, length, map, Some, arith, subst, sym, ◌∙◌, inl, inr}
use Rattle.std.specs.Prelude.{slice_index}
use Rattle.std.proofs.lemmas.Bool.{cases_eq}
use Rattle.wfc_problem.specs.Network.{Network, neighbour, entry_cell, beside, supports_of, IsProblem}
use Rattle.wfc_problem.specs.Domains.{support_count}
use Rattle.wfc_problem.specs.Hops.{hop_cell}
use Rattle.wfc_problem.proofs.CallerLemmas.{hops_length, hop_names}
use Rattle.wfc_log.specs.Domains.{has}
use Rattle.wfc_domains.proofs.Problems.{in_cells}
use Rattle.wfc_domains.proofs.Loading.{full-support}
use Rattle.wfc_domains.proofs.beside.is_surrounded.Goals as goal

-- the cell of a hop is the neighbour
leads : (P : Network) → IsProblem P → (c d n : ℕ) (hops : List ℕ) → c < P.cells → map (hop_cell c) hops ≡ map entry_cell (beside P c) → d < length hops → hop_cell c (slice_index hops d) ≡ Some n
    → neighbour P c d ≡ Some n
leads P p c d n hops hc e l is = hop_names P p c d hops hc (omega (arith, l, hops_length P p c hops hc e)) e ∙ is

pub size-requires : goal.size-requires
size-requires c = record {
  cell_in =
      let P = c.args.problem.now in
      let p = c.hops-hop-items.ensures.problem in
      let there = in_cells P p c.args.cell c.loop-hop.hop-index c.in-Some.next
      (leads P p c.args.cell c.loop-hop.hop-index c.in-Some.next c.hops-hop-items.result.now c.requires.cell_in c.hops-hop-items.ensures.value c.loop-hop-test.true (sym c.hop_cell.ensures.value ∙ c.in-Some.is)) in
      omega (arith, there, c.requires.domains.same_cells);
}

pub loop-hop-preserved : goal.loop-hop-preserved
loop-hop-preserved c = λ v d l. elim (cases_eq d c.loop-hop.hop-index) [
  | inl same ↦
      let P = c.args.problem.now in
      let p = c.hops-hop-items.ensures.problem in
      let cell = c.args.cell in
      let at = c.loop-hop.hop-index in
      let hops = c.hops-hop-items.result.now in
      let inside : at < P.dirs = omega (arith, c.loop-hop-test.true, hops_length P p cell hops c.requires.cell_in c.hops-hop-items.ensures.value) in
      subst (λ k. support_count P (has c.args.domains.now) cell v k ≡ length (supports_of P v k)) (sym same)
      (full-support P p c.args.domains.now cell v at c.in-Some.next inside
      (leads P p cell at c.in-Some.next hops c.requires.cell_in c.hops-hop-items.ensures.value c.loop-hop-test.true (sym c.hop_cell.ensures.value ∙ c.in-Some.is))
      (sym c.size.ensures.value ∙ c.if-size-values.false ∙ c.from-values.ensures ∙ c.values.ensures.value ∙ sym c.requires.domains.same_values) c.requires.domains.same_values)
  | inr ne ↦ c.loop-hop.invariant v d (omega arith)
]
