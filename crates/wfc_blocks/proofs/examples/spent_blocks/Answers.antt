use Rattle.std.proofs.Common.{Bool, Option, Some, ap, arith, false, lit<, refl, subst, suc, sym, true, zero, ◌≡◌}
use Rattle.std.proofs.lemmas.Bool.{false≢true}
use Rattle.std.specs.Prelude.{Contains}
use Rattle.rand_core.specs.Pcg32Seed.{pcg32_seed}
use Rattle.rand_core.specs.Steps.{stream_of, u32_at, word_bytes}
use Rattle.rand_core.specs.Stream.{next_u64}
use Rattle.wfc_choose.specs.Draw.{drawn_value}
use Rattle.wfc_choose.specs.Pick.{picked_cell}
use Rattle.wfc_problem.specs.Rounds.{greatest}
use Rattle.wfc_runs.specs.Words.{words_of_seed}
use Rattle.wfc_search.specs.Run.{State, turn_of, end_within, end_from}
use Rattle.wfc_search.specs.declared.Outcome.{Outcome}
use Rattle.wfc_search.specs.declared.Outcome.TheVariants as outcome
use Rattle.wfc_blocks.specs.Blocks.{Area, area_with, block_at, blocks_of}
use Rattle.wfc_blocks.specs.Canvas.{Canvas, empty_canvas}
use Rattle.wfc_blocks.specs.Growth.{Growth, HasBlockOutcome, IsSetBefore, full, spent, stopped}
use Rattle.wfc_blocks.specs.Small.{board_set, one_board_terms}
use Rattle.wfc_blocks.specs.declared.block.Block.{Block}
use Rattle.wfc_blocks.proofs.examples.spent_blocks.Goals as goal

pub returns-clause-spent : goal.returns-clause-spent
unfolding greatest picked_cell drawn_value next_u64 turn_of end_within end_from words_of_seed stream_of u32_at word_bytes pcg32_seed
returns-clause-spent c = (block_at 2 (area_with 3 3 3) 0, empty_canvas, (0, lit< tt, refl), refl, (_, refl))

-- whether a run is spent
abbrev is_spent_end : Option (Outcome × State) → Bool
is_spent_end (Some (outcome.Spent, s)) = true
is_spent_end _ = false

-- what is set where growth is full
abbrev canvas_in : Growth → Canvas
canvas_in (full canvas) = canvas
canvas_in (stopped block canvas) = empty_canvas
canvas_in spent = empty_canvas

-- the two blocks
abbrev two_blocks : Area
two_blocks = area_with 3 2 2

-- where a block is set to a canvas, whose block isn't spent, no other canvas makes it so
other_canvas : (known block : Block) (set canvas : Canvas) → known ≡ block → set ≡ canvas → (HasBlockOutcome one_board_terms set known outcome.Spent → ⊥) → HasBlockOutcome one_board_terms canvas block outcome.Spent → ⊥
other_canvas known block set canvas same alike none ends =
    none (subst (λ c. HasBlockOutcome one_board_terms c known outcome.Spent) (sym alike) (subst (λ b. HasBlockOutcome one_board_terms canvas b outcome.Spent) (sym same) ends))

-- the first block is filled
first_filled : HasBlockOutcome one_board_terms empty_canvas (block_at 2 two_blocks 0) outcome.Spent → ⊥
unfolding greatest picked_cell drawn_value next_u64 turn_of end_within end_from
first_filled ends = false≢true (ap is_spent_end ends.1)

-- and the second stuck
second_stuck : HasBlockOutcome one_board_terms board_set (block_at 2 two_blocks 1) outcome.Spent → ⊥
unfolding greatest picked_cell drawn_value next_u64 turn_of end_within end_from
second_stuck ends = false≢true (ap is_spent_end ends.1)

-- what is set before each of them
first_set_before : (canvas : Canvas) → IsSetBefore two_blocks one_board_terms (block_at 2 two_blocks 0) canvas → empty_canvas ≡ canvas
first_set_before canvas is = ap canvas_in is

second_set_before : (canvas : Canvas) → IsSetBefore two_blocks one_board_terms (block_at 2 two_blocks 1) canvas → board_set ≡ canvas
unfolding greatest picked_cell drawn_value next_u64 turn_of end_within end_from
second_set_before canvas is = ap canvas_in is

none_spent : (block : Block) (canvas : Canvas) → Contains (blocks_of 2 two_blocks) block → IsSetBefore two_blocks one_board_terms block canvas → HasBlockOutcome one_board_terms canvas block outcome.Spent → ⊥
none_spent block canvas (zero, inside, same) before ends =
    other_canvas (block_at 2 two_blocks 0) block empty_canvas canvas same (first_set_before canvas (subst (λ b. IsSetBefore two_blocks one_board_terms b canvas) (sym same) before)) first_filled ends
none_spent block canvas (suc zero, inside, same) before ends =
    other_canvas (block_at 2 two_blocks 1) block board_set canvas same (second_set_before canvas (subst (λ b. IsSetBefore two_blocks one_board_terms b canvas) (sym same) before)) second_stuck ends
none_spent block canvas (suc (suc k), inside, same) before ends = absurd (omega (arith, inside))

pub returns-clause-stuck : goal.returns-clause-stuck
returns-clause-stuck c (block, canvas, among, before, ends) = none_spent block canvas among before ends
