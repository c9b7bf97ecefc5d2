-- The hops of either form say the table.
use Rattle.std.proofs.Common.{◌≡◌, ℕ, List, [], ◌++◌, ◌*◌, ◌≤◌, ◌∙◌, ap, arith, length, take, drop, subst, All}
use Rattle.std.proofs.Math.Seq.{take-append_seam}
use Rattle.wfc_problem.specs.declared.TheConstants.{MAX_PAIRS}
use Rattle.wfc_problem.specs.HopsMade.{IsEntry, AreKinds, AreTurned}
use Rattle.wfc_problem.proofs.HopLemmas.{own_rows, kind_rows, SaysTable}
use Rattle.wfc_problem.proofs.hops.Hops.of.Goals as goal

-- the kinds that were found in the table
by_kinds : (table seen : List ℕ) (dirs cells : ℕ) (kinds rows : List ℕ) → seen ≡ table → length table ≡ cells * dirs → cells ≤ MAX_PAIRS → All IsEntry table → AreKinds dirs seen cells kinds rows
    → SaysTable table cells dirs kinds rows
by_kinds table seen dirs cells kinds rows is e few all k = kind_rows table dirs cells kinds rows e few all (subst (λ xs. AreKinds dirs xs cells kinds rows) is k)

-- what the vector has once its table is turned
turned_in : (old seen new : List ℕ) (len dirs cells : ℕ) → len ≡ length old → seen ≡ old → AreTurned seen new dirs cells → take len (new ++ drop (length new) old) ≡ new
turned_in old seen new len dirs cells l e t =
    ap (λ m. take m (new ++ drop (length new) old)) (let same : len ≡ length new = omega (arith, l, t.long, ap length e) in same)
    ∙ take-append_seam new (drop (length new) old)

-- or the rows of the cells
by_cells : (old seen new none : List ℕ) (len dirs cells : ℕ) → len ≡ length old → seen ≡ old → AreTurned seen new dirs cells
    → none ≡ [] → length old ≡ cells * dirs → cells ≤ MAX_PAIRS → All IsEntry old → SaysTable old cells dirs none (take len (new ++ drop (length new) old))
by_cells old seen new none len dirs cells l e t is table few all =
    rw (turned_in old seen new len dirs cells l e t, is) (own_rows old new dirs cells (subst (λ xs. AreTurned xs new dirs cells) e t) table few all)

pub with-requires : goal.with-requires
with-requires c = record {
  hops = (by_kinds _ _ _ _ _ _ c.deref.ensures.value c.requires.table c.requires.few_cells c.requires.entries c.in-Some.ensures.kinds).hops;
}

pub with-requires-in-None : goal.with-requires-in-None
with-requires-in-None c = record {
  hops = (by_cells _ _ _ _ _ _ _ c.args.table.ok.0 c.deref_mut.ensures.value c.turn.ensures.turned c.new.ensures.items c.requires.table c.requires.few_cells c.requires.entries).hops;
}

pub returns-in-Some-clause-entries : goal.returns-in-Some-clause-entries
returns-in-Some-clause-entries c =
    c.with.ensures.entries
    ∙ (by_kinds _ _ _ _ _ _ c.deref.ensures.value c.requires.table c.requires.few_cells c.requires.entries c.in-Some.ensures.kinds).entries

pub returns-in-None-clause-entries : goal.returns-in-None-clause-entries
returns-in-None-clause-entries c =
    c.with-in-None.ensures.entries
    ∙ (by_cells _ _ _ _ _ _ _ c.args.table.ok.0 c.deref_mut.ensures.value c.turn.ensures.turned c.new.ensures.items c.requires.table c.requires.few_cells c.requires.entries).entries
