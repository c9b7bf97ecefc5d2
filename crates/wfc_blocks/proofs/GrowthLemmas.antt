-- What growth leaves: each block that it came past is set to a legal picture, and a block at which it stops
-- has none.
use Rattle.std.proofs.Common.{◌≡◌, ℕ, suc, Bool, true, false, Option, None, Some, List, [], ◌∷◌, refl, sym, subst, ap, take, arith, ◌∙◌}
use Rattle.std.specs.Prelude.{Contains}
use Rattle.std.proofs.lemmas.Bool.{false≢true}
use Rattle.std.proofs.lemmas.Option.{none-some}
use Rattle.std.specs.List.{AllByRecursion}
use Rattle.wfc_model.specs.Legal.{Rules, IsLegalPicture}
use Rattle.wfc_model.specs.Raster.{Raster}
use Rattle.wfc_pattern.specs.Patterns.{IsPatterns}
use Rattle.wfc_problem.specs.Network.{Network, IsProblem}
use Rattle.wfc_overlap.specs.Sample.{output_with}
use Rattle.wfc_overlap.specs.Bridge.{IsRoom, IsTaughtBy, numbers_of_windows}
use Rattle.wfc_overlap.proofs.CallerLemmas.{sample_problem, there, back}
use Rattle.rand_core.specs.Stream.{Stream}
use Rattle.wfc_choose.specs.Pick.{Rule}
use Rattle.wfc_runs.specs.Words.{words_of_seed}
use Rattle.wfc_search.specs.Run.{State, outcome_of, start, last_of}
use Rattle.wfc_search.specs.declared.Outcome.{Outcome}
use Rattle.wfc_search.specs.declared.Outcome.TheVariants as outcome
use Rattle.wfc_search.proofs.CallerLemmas.{between_start, from_computed, from_exists, outcome_map, outcome_none}
use Rattle.wfc_blocks.specs.Blocks.{output_of_block}
use Rattle.wfc_blocks.specs.Canvas.{Canvas, empty_canvas, with_block, pins_of_block}
use Rattle.wfc_blocks.specs.Growth.{Terms, Growth, full, stopped, spent, problem_of_block, block_end, seed_of_block, picture_of_block, after_end, growth_over}
use Rattle.wfc_blocks.specs.declared.block.Block.{Block}
use Rattle.wfc_blocks.proofs.CanvasLemmas.{Extends, IsDone, done_more, done_now, with_extends, pins_in_block}

-- ---- how growth ends

-- what is set at a full end
abbrev canvas_of : Growth → Canvas
canvas_of (full canvas) = canvas
canvas_of (stopped block canvas) = canvas
canvas_of spent = empty_canvas

-- whether it's full
abbrev is_full : Growth → Bool
is_full (full canvas) = true
is_full (stopped block canvas) = false
is_full spent = false

-- the block at which it stopped, if it did
abbrev stopped_at : Growth → Option Block
stopped_at (full canvas) = None
stopped_at (stopped block canvas) = Some block
stopped_at spent = None

-- and else another
abbrev block_or : Block → Growth → Block
block_or other (full canvas) = other
block_or other (stopped block canvas) = block
block_or other spent = other

-- whether it's spent
abbrev is_spent : Growth → Bool
is_spent (full canvas) = false
is_spent (stopped block canvas) = false
is_spent spent = true

module _ (terms : Terms) (taught : IsPatterns terms.patterns) where
  -- a block has room for a window and few enough pairs
  abbrev pub HasRoom : Block → Type 0
  HasRoom block = IsRoom terms.patterns (output_of_block block)

  -- ---- a block at which growth stopped

  -- the block is one of these, those before it set this, its run has no map, and it has room
  pub record IsStopped (blocks : List Block) (canvas : Canvas) (block : Block) (last : Canvas) : Type 0 where
    pub among : Contains blocks block
    pub before : growth_over terms (take among.0 blocks) canvas ≡ full last
    pub room : HasRoom block
    pub state : State
    pub ends : block_end terms last block ≡ Some (outcome.NoMap, state)

  -- growth goes on past a block whose run ends in a map
  go_past : (first : Block) (blocks : List Block) (canvas last : Canvas) (s : State) → block_end terms canvas first ≡ Some (outcome.Map, s) → growth_over terms blocks (with_block canvas first (picture_of_block terms canvas first s)) ≡ full last
      → growth_over terms (first ∷ blocks) canvas ≡ full last
  go_past first blocks canvas last s ends on = ap (λ o. after_end terms canvas first o (λ next. growth_over terms blocks next)) ends ∙ on

  stop_block : (first : Block) (blocks : List Block) → HasRoom first → ((canvas last : Canvas) (block : Block) → growth_over terms blocks canvas ≡ stopped block last → IsStopped blocks canvas block last)
      → (canvas last : Canvas) (block : Block) (o : Option (Outcome × State)) → block_end terms canvas first ≡ o → after_end terms canvas first o (λ next. growth_over terms blocks next) ≡ stopped block last → IsStopped (first ∷ blocks) canvas block last
  stop_block first blocks room on canvas last block None ends is = absurd (none-some block (ap stopped_at is))
  stop_block first blocks room on canvas last block (Some (outcome.Spent, s)) ends is = absurd (none-some block (ap stopped_at is))
  stop_block first blocks room on canvas last block (Some (outcome.Map, s)) ends is =
      let at = on (with_block canvas first (picture_of_block terms canvas first s)) last block is in
      record {
        among = (suc at.among.0, omega (arith, at.among.1), at.among.2);
        before = go_past first (take at.among.0 blocks) canvas last s ends at.before;
        room = at.room;
        state = at.state;
        ends = at.ends;
      }
  stop_block first blocks room on canvas last block (Some (outcome.NoMap, s)) ends is =
      let same : first ≡ block = ap (λ g. block_or first g) is in
      let set : canvas ≡ last = ap canvas_of is in
      record {
        among = (0, omega arith, same);
        before = ap full set;
        room = subst HasRoom same room;
        state = s;
        ends = (λ i. block_end terms (sym set i) (sym same i)) ∙ ends;
      }

  pub grown_stop : (blocks : List Block) → AllByRecursion HasRoom blocks → (canvas last : Canvas) (block : Block) → growth_over terms blocks canvas ≡ stopped block last → IsStopped blocks canvas block last
  grown_stop [] room canvas last block is = absurd (none-some block (ap stopped_at is))
  grown_stop (first ∷ blocks) room canvas last block is = stop_block first blocks room.0 (grown_stop blocks room.1) canvas last block (block_end terms canvas first) refl is

  -- ---- a block at which the budget was spent

  -- the block is one of these, those before it set this, and there its run was spent
  pub record IsSpentAt (blocks : List Block) (canvas : Canvas) : Type 0 where
    pub block : Block
    pub last : Canvas
    pub state : State
    pub among : Contains blocks block
    pub before : growth_over terms (take among.0 blocks) canvas ≡ full last
    pub ends : block_end terms last block ≡ Some (outcome.Spent, state)

  -- a run has an end
  pub some_end : (P : Network) → IsProblem P → (rule : Rule) (budget : ℕ) (words : Stream) → outcome_of P rule budget words ≡ None → ⊥
  some_end P p rule budget words is =
      let r = from_exists P p rule budget (start words) (between_start P budget words) in
      none-some (r.outcome, last_of (start words) r.later) (sym is ∙ from_computed P p rule budget (start words) r.later r.outcome (between_start P budget words) r.run)

  spend_block : (first : Block) (blocks : List Block) → HasRoom first → ((canvas : Canvas) → growth_over terms blocks canvas ≡ spent → IsSpentAt blocks canvas)
      → (canvas : Canvas) (o : Option (Outcome × State)) → block_end terms canvas first ≡ o → after_end terms canvas first o (λ next. growth_over terms blocks next) ≡ spent → IsSpentAt (first ∷ blocks) canvas
  spend_block first blocks room on canvas None ends is =
      absurd (some_end (problem_of_block terms canvas first) (sample_problem terms.patterns (output_of_block first) (pins_of_block terms.pins canvas first) taught room) terms.rule terms.budget (words_of_seed (seed_of_block terms.seed first)) ends)
  spend_block first blocks room on canvas (Some (outcome.NoMap, s)) ends is = absurd (false≢true (ap is_spent is))
  spend_block first blocks room on canvas (Some (outcome.Spent, s)) ends is =
      record { block = first; last = canvas; state = s; among = (0, omega arith, refl); before = refl; ends = ends }
  spend_block first blocks room on canvas (Some (outcome.Map, s)) ends is =
      let at = on (with_block canvas first (picture_of_block terms canvas first s)) is in
      record {
        block = at.block;
        last = at.last;
        state = at.state;
        among = (suc at.among.0, omega (arith, at.among.1), at.among.2);
        before = go_past first (take at.among.0 blocks) canvas at.last s ends at.before;
        ends = at.ends;
      }

  pub grown_spent : (blocks : List Block) → AllByRecursion HasRoom blocks → (canvas : Canvas) → growth_over terms blocks canvas ≡ spent → IsSpentAt blocks canvas
  grown_spent [] room canvas is = absurd (false≢true (ap is_spent is))
  grown_spent (first ∷ blocks) room canvas is = spend_block first blocks room.0 (grown_spent blocks room.1) canvas (block_end terms canvas first) refl is

  -- ---- a block that is filled

  module _ (sample : Raster) (rules : Rules) (by : (width height : ℕ) → IsTaughtBy sample rules terms.patterns (output_with width height false)) where
    -- the picture of a block whose run ends in a map is legal with the block's pins
    pub map_legal : (canvas : Canvas) (block : Block) (s : State) → HasRoom block → block_end terms canvas block ≡ Some (outcome.Map, s) → IsLegalPicture sample rules (pins_of_block terms.pins canvas block) block.width block.height (picture_of_block terms canvas block s)
    map_legal canvas block s room ends =
        let pins = pins_of_block terms.pins canvas block in
        let P = problem_of_block terms canvas block in
        back sample rules terms.patterns (output_of_block block) pins _ taught room (by block.width block.height) (pins_in_block terms.pins canvas block)
        (outcome_map P (sample_problem terms.patterns (output_of_block block) pins taught room) terms.rule terms.budget (words_of_seed (seed_of_block terms.seed block)) s ends).1

    -- what growth over blocks keeps and sets
    abbrev pub IsGrownTo : List Block → Canvas → Canvas → Type 0
    IsGrownTo blocks canvas last = Extends canvas last × AllByRecursion (IsDone sample rules terms.pins last) blocks

    past_block : (block : Block) (blocks : List Block) → HasRoom block → ((canvas last : Canvas) → growth_over terms blocks canvas ≡ full last → IsGrownTo blocks canvas last)
        → (canvas last : Canvas) (o : Option (Outcome × State)) → block_end terms canvas block ≡ o → after_end terms canvas block o (λ next. growth_over terms blocks next) ≡ full last → IsGrownTo (block ∷ blocks) canvas last
    past_block block blocks room on canvas last None ends is = absurd (false≢true (ap is_full is))
    past_block block blocks room on canvas last (Some (outcome.NoMap, s)) ends is = absurd (false≢true (ap is_full is))
    past_block block blocks room on canvas last (Some (outcome.Spent, s)) ends is = absurd (false≢true (ap is_full is))
    past_block block blocks room on canvas last (Some (outcome.Map, s)) ends is =
        let m = picture_of_block terms canvas block s in
        let legal = map_legal canvas block s room ends in
        let next = with_block canvas block m in
        let later = on next last is in (
          λ x y number set. later.0 x y number (with_extends m terms.pins canvas block legal.held x y number set),
          (done_more sample rules terms.pins next last block (done_now sample rules terms.pins canvas block m legal) later.0, later.1),
        )

    pub grown_to : (blocks : List Block) → AllByRecursion HasRoom blocks → (canvas last : Canvas) → growth_over terms blocks canvas ≡ full last → IsGrownTo blocks canvas last
    grown_to [] room canvas last is = (λ x y number set. ap (λ (c : Canvas). c x y) (sym (ap canvas_of is)) ∙ set, tt)
    grown_to (block ∷ blocks) room canvas last is = past_block block blocks room.0 (grown_to blocks room.1) canvas last (block_end terms canvas block) refl is

    -- its pins admit no map of it
    pub stop_none : (block : Block) (last : Canvas) (s : State) → HasRoom block → block_end terms last block ≡ Some (outcome.NoMap, s) → (m : Raster) → IsLegalPicture sample rules (pins_of_block terms.pins last block) block.width block.height m → ⊥
    stop_none block last s room ends m legal =
        let pins = pins_of_block terms.pins last block in
        let P = problem_of_block terms last block in
        outcome_none P (sample_problem terms.patterns (output_of_block block) pins taught room) terms.rule terms.budget (words_of_seed (seed_of_block terms.seed block)) s ends
        (numbers_of_windows terms.patterns (output_of_block block) m)
        (there sample rules terms.patterns (output_of_block block) pins m taught (by block.width block.height) legal)
