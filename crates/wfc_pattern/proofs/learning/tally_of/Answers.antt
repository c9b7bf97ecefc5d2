use Rattle.std.proofs.Common.{◌≡◌, ◌+◌, ◌*◌, ◌<◌, ◌≤◌, [], length, fold, refl, ap, ◌∙◌, subst, arith}
use Rattle.std.specs.Bool.{OnTrue, OnFalse}
use Rattle.std.specs.List.{flat_map, range_with_len}
use Rattle.std.proofs.Math.Nat.{mul-le-mul_right}
use Rattle.wfc_model.specs.Raster.{height_of}
use Rattle.wfc_model.specs.Window.{starts}
use Rattle.wfc_model.specs.Learned.{arising}
use Rattle.wfc_pattern.specs.declared.TheConstants.{MAX_PATTERNS}
use Rattle.wfc_pattern.specs.Arising.{images_in_row}
use Rattle.wfc_pattern.specs.Tally.{recount, total}
use Rattle.wfc_pattern.proofs.ArisingLemmas.{one_row, rows_grow, total-rows}
use Rattle.wfc_pattern.proofs.LearningLemmas.{tally_is, starts_within, most_arising, length-tallied}
use Rattle.wfc_pattern.proofs.learning.tally_of.Goals as goal

pub note_row-requires : goal.note_row-requires
note_row-requires c =
    let sample = c.args.picture.now in
    let s = c.args.symmetry in
    let columns = c.starts-columns.result in
    let rows = c.starts-y-end.result in
    let so_far : total c.loop-y.learner.tally ≡ c.loop-y.y * (columns * s) = total-rows sample c.args.n s columns c.loop-y.y c.loop-y.learner.tally c.loop-y.invariant.noted in
    let narrow : columns ≤ sample.width = omega (arith, starts_within c.width.result c.args.n c.args.wrap c.requires.some_side, c.starts-columns.ensures.value, c.width.ensures.value) in
    let low : rows ≤ height_of sample = omega (arith, starts_within c.height.result c.args.n c.args.wrap c.requires.some_side, c.starts-y-end.ensures.value, c.height.ensures.value) in
    let most : rows * (columns * s) ≤ 8388608 = most_arising columns rows sample.width (height_of sample) s narrow low c.requires.eight_images c.requires.limit in
    let room : (c.loop-y.y + 1) * (columns * s) ≤ rows * (columns * s) = mul-le-mul_right (columns * s) (omega arith) in
    let row : columns * c.loop-y.learner.symmetry ≡ columns * s = ap (λ k. columns * k) c.loop-y.invariant.symmetry in
    record { fits = omega (arith, so_far, most, room, row); few = c.loop-y.invariant.few }

pub loop-y-preserved : goal.loop-y-preserved
loop-y-preserved c =
    let sample = c.args.picture.now in
    let columns = c.starts-columns.result in
    let learner = c.loop-y.learner in
    let step : c.note_row.new.self.tally ≡ fold recount learner.tally (images_in_row sample learner.n learner.symmetry columns c.loop-y.y) =
    subst (λ b. OnTrue b (c.note_row.new.self.tally ≡ fold recount learner.tally (images_in_row sample learner.n learner.symmetry columns c.loop-y.y))) c.if-not-branch.false c.in_ok-note_row.ensures.noted in
    record {
      n = c.in_ok-note_row.ensures.n ∙ c.loop-y.invariant.n;
      symmetry = c.in_ok-note_row.ensures.symmetry ∙ c.loop-y.invariant.symmetry;
      few = subst (λ b. OnTrue b (length c.note_row.new.self.tally ≤ MAX_PATTERNS)) c.if-not-branch.false c.in_ok-note_row.ensures.few;
      noted =
          one_row sample c.args.n c.args.symmetry learner.n learner.symmetry columns c.loop-y.y [] learner.tally c.note_row.new.self.tally c.loop-y.invariant.n c.loop-y.invariant.symmetry c.loop-y.invariant.noted step;
    }

pub returns-then-not-branch-clause-many : goal.returns-then-not-branch-clause-many
returns-then-not-branch-clause-many c =
    let sample = c.args.picture.now in
    let n = c.args.n in
    let s = c.args.symmetry in
    let columns = c.starts-columns.result in
    let rows = c.starts-y-end.result in
    let learner = c.loop-y.learner in
    let now = fold recount learner.tally (images_in_row sample learner.n learner.symmetry columns c.loop-y.y) in
    let many : MAX_PATTERNS < length now = subst (λ b. OnFalse b (MAX_PATTERNS < length now)) c.if-not-branch.true c.in_ok-note_row.ensures.many in
    let so_far = one_row sample n s learner.n learner.symmetry columns c.loop-y.y [] learner.tally now c.loop-y.invariant.n c.loop-y.invariant.symmetry c.loop-y.invariant.noted refl in
    let grown = rows_grow sample n s columns (c.loop-y.y + 1) rows (omega arith) in
    let wide : columns ≡ starts sample.width n c.args.wrap = c.starts-columns.ensures.value ∙ ap (λ side. starts side n c.args.wrap) c.width.ensures.value in
    let high : rows ≡ starts (height_of sample) n c.args.wrap = c.starts-y-end.ensures.value ∙ ap (λ side. starts side n c.args.wrap) c.height.ensures.value in
    let all = tally_is sample n s c.args.wrap columns rows rows (fold recount [] (flat_map (images_in_row sample n s columns) (range_with_len 0 rows))) wide high refl refl in
    omega (arith, many, ap length so_far, grown, ap length all, length-tallied (arising sample n s c.args.wrap))

pub returns-clause-tallied : goal.returns-clause-tallied
returns-clause-tallied c =
    let sample = c.args.picture.now in
    let wide : c.starts-columns.result ≡ starts sample.width c.args.n c.args.wrap = c.starts-columns.ensures.value ∙ ap (λ side. starts side c.args.n c.args.wrap) c.width.ensures.value in
    let high : c.starts-y-end.result ≡ starts (height_of sample) c.args.n c.args.wrap = c.starts-y-end.ensures.value ∙ ap (λ side. starts side c.args.n c.args.wrap) c.height.ensures.value in
    let last : c.loop-y.y ≡ c.starts-y-end.result = omega arith in
    c.into_tally.ensures.value ∙ tally_is sample c.args.n c.args.symmetry c.args.wrap c.starts-columns.result c.starts-y-end.result c.loop-y.y c.loop-y.learner.tally wide high last c.loop-y.invariant.noted
