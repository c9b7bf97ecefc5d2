use Rattle.std.proofs.Common.{◌≡◌, ℕ, ◌+◌, ◌<◌, true, false, sym, ◌∙◌, arith}
use Rattle.std.proofs.lemmas.Bool.{false≢true, not-true, not-false}
use Rattle.wfc_model.specs.Image.{cell_at}
use Rattle.wfc_pattern.proofs.OverlapLemmas.{is_same_row, row_same, same_row}
use Rattle.wfc_pattern.proofs.overlap.overlaps.Goals as goal
use borrow.Author.Count.{below_more}

pub returns-then-ne : goal.returns-then-ne
returns-then-ne c =
    let j = c.loop-row.row in
    let other : is_same_row c.args.n c.args.columns c.args.rows j c.args.p.now c.args.q.now ≡ false = not-true _ (sym c.if-ne.ensures) in
    record {
      exact = (
        λ e. absurd (false≢true e),
        λ overlap. absurd (false≢true (sym other ∙ same_row c.args.n c.args.columns c.args.rows j c.args.p.now c.args.q.now c.requires.p c.requires.q c.requires.columns (omega arith) overlap)),
      );
    }

pub loop-row-preserved : goal.loop-row-preserved
loop-row-preserved c =
    let n = c.args.n in
    let same : is_same_row n c.args.columns c.args.rows c.loop-row.row c.args.p.now c.args.q.now ≡ true = not-false _ (sym c.if-ne.ensures) in
    below_more (λ j. (i : ℕ) → i + c.args.columns < n → cell_at n c.args.p.now (i + c.args.columns) (j + c.args.rows) ≡ cell_at n c.args.q.now i j) c.loop-row.row c.loop-row.invariant
    (row_same n c.args.columns c.args.rows c.loop-row.row c.args.p.now c.args.q.now same)
