-- What filling a block does to growth.
use Rattle.std.proofs.Common.{◌≡◌, ℕ, suc, ◌+◌, ◌-◌, ◌<◌, ◌≤◌, List, [], ◌∷◌, ◌++◌, Option, map, ap, sym, subst, refl, ◌∙◌, arith}
use Rattle.std.specs.List.{range_with_len}
use Rattle.std.proofs.lemmas.List.Elements.{All-from_recursion, recursion_from_All}
use Rattle.wfc_choose.specs.Pick.{Rule}
use Rattle.wfc_lists.proofs.Lists.{each_front, each_back}
use Rattle.wfc_model.specs.Legal.{Pin}
use Rattle.wfc_pattern.specs.Patterns.{PatternsView}
use Rattle.wfc_overlap.specs.Bridge.{IsRoom, picture_of}
use Rattle.wfc_runs.specs.Alike.{HaveRule, PicksAs}
use Rattle.wfc_runs.specs.Words.{words_of_seed}
use Rattle.wfc_runs.proofs.CallerLemmas.{runs_alike}
use Rattle.wfc_search.specs.Run.{State}
use Rattle.wfc_search.specs.declared.Outcome.{Outcome}
use Rattle.wfc_search.specs.declared.Outcome.TheVariants as outcome
use Rattle.wfc_blocks.specs.BlockEnds.{IsBlockEnd}
use Rattle.wfc_blocks.specs.Blocks.{Area, block_at, block_count, output_of_block}
use Rattle.wfc_blocks.specs.Canvas.{Canvas, pins_of_block, with_block}
use Rattle.wfc_blocks.specs.CanvasView.{LiesWithin}
use Rattle.wfc_blocks.specs.Growth.{Growth, Terms, IsGrowable, full, spent, stopped, after_end, growth_over, problem_of_block, seed_of_block}
use Rattle.wfc_blocks.specs.Grown.{terms_with}
use Rattle.wfc_blocks.specs.Steps.{IsBlockStep, IsSetBy, canvas_after}
use Rattle.wfc_blocks.specs.declared.block.Block.{Block}
use Rattle.wfc_blocks.specs.declared.ends.BlockEnd.{BlockEnd}
use Rattle.wfc_blocks.specs.declared.ends.BlockEnd.TheVariants.{Map, NoMap, Spent}
use Rattle.wfc_blocks.proofs.WholeLemmas.{block_room}

-- the end of a block with its pins and its seed, and what it sets, are a step
pub is_block_step : (terms : Terms) (canvas more : Canvas) (block : Block) (pins : List Pin) (seed : ℕ) (made : BlockEnd) (result : Outcome) → pins ≡ pins_of_block terms.pins canvas block → seed ≡ seed_of_block terms.seed block
    → IsBlockEnd terms.patterns pins block terms.rule terms.budget seed made → IsSetBy canvas block made result more → IsBlockStep terms canvas block result more
is_block_step terms canvas more block pins seed made result pins_are seed_is run set =
    by made result
    (subst (λ seed. IsBlockEnd terms.patterns (pins_of_block terms.pins canvas block) block terms.rule terms.budget seed made) seed_is
    (subst (λ pins. IsBlockEnd terms.patterns pins block terms.rule terms.budget seed made) pins_are run)) set
  where
    by : (made : BlockEnd) (result : Outcome) → IsBlockEnd terms.patterns (pins_of_block terms.pins canvas block) block terms.rule terms.budget (seed_of_block terms.seed block) made
        → IsSetBy canvas block made result more → IsBlockStep terms canvas block result more
    by (Map m) outcome.Map run set = record { state = run.1.0; ends = run.1.1; set = set ∙ ap (with_block canvas block) (run.2 ∙ ap (picture_of terms.patterns (output_of_block block)) run.1.2) }
    by NoMap outcome.NoMap run set = record { state = run.0; ends = run.1; set = set }
    by Spent outcome.Spent run set = record { state = run.0; ends = run.1; set = set }
    by (Map m) outcome.NoMap run set = absurd set
    by (Map m) outcome.Spent run set = absurd set
    by NoMap outcome.Map run set = absurd set
    by NoMap outcome.Spent run set = absurd set
    by Spent outcome.Map run set = absurd set
    by Spent outcome.NoMap run set = absurd set

-- growth over the blocks from a number on, so many of them
abbrev pub growth_from : Terms → ℕ → Area → ℕ → ℕ → Canvas → Growth
growth_from terms n area k many canvas = growth_over terms (map (λ k. block_at n area k) (range_with_len k many)) canvas

-- it goes on behind a block with a map
pub goes_on : (terms : Terms) (n : ℕ) (area : Area) (k many : ℕ) (canvas more : Canvas) → IsBlockStep terms canvas (block_at n area k) outcome.Map more → growth_from terms n area k (suc many) canvas ≡ growth_from terms n area (k + 1) many more
goes_on terms n area k many canvas more step =
    ap (λ (o : Option (Outcome × State)). after_end terms canvas (block_at n area k) o (λ next. growth_from terms n area (k + 1) many next)) step.ends
    ∙ ap (λ (canvas : Canvas). growth_from terms n area (k + 1) many canvas) (sym step.set)

-- and stops at one without, or at one whose budget was spent
pub stops_at : (terms : Terms) (n : ℕ) (area : Area) (k many : ℕ) (canvas more : Canvas) → IsBlockStep terms canvas (block_at n area k) outcome.NoMap more → growth_from terms n area k (suc many) canvas ≡ stopped (block_at n area k) more
stops_at terms n area k many canvas more step =
    ap (λ (o : Option (Outcome × State)). after_end terms canvas (block_at n area k) o (λ next. growth_from terms n area (k + 1) many next)) step.ends
    ∙ ap (stopped (block_at n area k)) (sym step.set)

pub spends_at : (terms : Terms) (n : ℕ) (area : Area) (k many : ℕ) (canvas more : Canvas) → IsBlockStep terms canvas (block_at n area k) outcome.Spent more → growth_from terms n area k (suc many) canvas ≡ spent
spends_at terms n area k many canvas more step =
    ap (λ (o : Option (Outcome × State)). after_end terms canvas (block_at n area k) o (λ next. growth_from terms n area (k + 1) many next)) step.ends

-- what is left falls by one
pub one_less : (many k : ℕ) → k < many → many - k ≡ suc (many - (k + 1))
one_less many k inside = omega arith

-- a block of a side by another name has room
pub room_of : (patterns : PatternsView) (area : Area) (n k : ℕ) → n ≡ patterns.n → IsGrowable patterns area → k < block_count n area → IsRoom patterns (output_of_block (block_at n area k))
room_of patterns area n k same growable inside =
    subst (λ n. k < block_count n area → IsRoom patterns (output_of_block (block_at n area k))) (sym same) (block_room patterns area growable k) inside

-- all rules but the last, and that, pick as the rule as which all pick
pub split_all : (rule r : Rule) (xs ys : List Rule) → xs ≡ ys ++ r ∷ [] → HaveRule xs rule → HaveRule ys rule × PicksAs r rule
split_all rule r xs ys is all =
    let each = recursion_from_All (λ (other : Rule). PicksAs other rule) (ys ++ r ∷ []) (subst (λ (rules : List Rule). HaveRule rules rule) is all) in (
      All-from_recursion (λ (other : Rule). PicksAs other rule) ys (each_front (λ (other : Rule). PicksAs other rule) ys (r ∷ []) each),
      (each_back (λ (other : Rule). PicksAs other rule) ys (r ∷ []) each).0,
    )

-- what is set after a run doesn't depend on its rule
same_after : (patterns : PatternsView) (budget seed : ℕ) (marks : List Pin) (r rule : Rule) (canvas : Canvas) (block : Block) (o : Outcome) (s : State)
    → canvas_after (terms_with patterns r budget seed marks) canvas block o s ≡ canvas_after (terms_with patterns rule budget seed marks) canvas block o s
same_after patterns budget seed marks r rule canvas block outcome.Map s = refl
same_after patterns budget seed marks r rule canvas block outcome.NoMap s = refl
same_after patterns budget seed marks r rule canvas block outcome.Spent s = refl

-- so a step by a rule is one by each that picks as it
alike_step : (patterns : PatternsView) (budget seed : ℕ) (marks : List Pin) (r rule : Rule) (canvas more : Canvas) (block : Block) (o : Outcome) → PicksAs r rule
    → IsBlockStep (terms_with patterns r budget seed marks) canvas block o more → IsBlockStep (terms_with patterns rule budget seed marks) canvas block o more
alike_step patterns budget seed marks r rule canvas more block o picks step = record {
  state = step.state;
  ends = sym (runs_alike r rule picks (problem_of_block (terms_with patterns rule budget seed marks) canvas block) budget (words_of_seed (seed_of_block seed block))) ∙ step.ends;
  set = step.set ∙ same_after patterns budget seed marks r rule canvas block o step.state;
}

-- a step by other names for its rule, its block and its outcome
pub step_at : (patterns : PatternsView) (budget seed : ℕ) (marks : List Pin) (r rule : Rule) (block other : Block) (canvas more : Canvas) (o result : Outcome) → PicksAs r rule → block ≡ other → o ≡ result
    → IsBlockStep (terms_with patterns r budget seed marks) canvas block o more → IsBlockStep (terms_with patterns rule budget seed marks) canvas other result more
step_at patterns budget seed marks r rule block other canvas more o result picks block_is result_is step =
    subst (λ (x : Outcome). IsBlockStep (terms_with patterns rule budget seed marks) canvas other x more) result_is
    (subst (λ (b : Block). IsBlockStep (terms_with patterns rule budget seed marks) canvas b o more) block_is
    (alike_step patterns budget seed marks r rule canvas more block o picks step))

-- growth from a number on is that of the blocks behind it, or ends there
pub on_map : (terms : Terms) (n : ℕ) (area : Area) (end k : ℕ) (canvas more : Canvas) (whole : Growth) → k < end → IsBlockStep terms canvas (block_at n area k) outcome.Map more → growth_from terms n area k (end - k) canvas ≡ whole → growth_from terms n area (k + 1) (end - (k + 1)) more ≡ whole
on_map terms n area end k canvas more whole inside step so_far =
    sym (goes_on terms n area k (end - (k + 1)) canvas more step) ∙ sym (ap (λ many. growth_from terms n area k many canvas) (one_less end k inside)) ∙ so_far

pub on_none : (terms : Terms) (n : ℕ) (area : Area) (end k : ℕ) (canvas more : Canvas) (whole : Growth) → k < end → IsBlockStep terms canvas (block_at n area k) outcome.NoMap more → growth_from terms n area k (end - k) canvas ≡ whole → whole ≡ stopped (block_at n area k) more
on_none terms n area end k canvas more whole inside step so_far =
    sym so_far ∙ ap (λ many. growth_from terms n area k many canvas) (one_less end k inside) ∙ stops_at terms n area k (end - (k + 1)) canvas more step

pub on_spent : (terms : Terms) (n : ℕ) (area : Area) (end k : ℕ) (canvas more : Canvas) (whole : Growth) → k < end → IsBlockStep terms canvas (block_at n area k) outcome.Spent more → growth_from terms n area k (end - k) canvas ≡ whole → whole ≡ spent
on_spent terms n area end k canvas more whole inside step so_far =
    sym so_far ∙ ap (λ many. growth_from terms n area k many canvas) (one_less end k inside) ∙ spends_at terms n area k (end - (k + 1)) canvas more step

pub on_end : (terms : Terms) (n : ℕ) (area : Area) (end k : ℕ) (canvas : Canvas) (whole : Growth) → end ≤ k → growth_from terms n area k (end - k) canvas ≡ whole → whole ≡ full canvas
on_end terms n area end k canvas whole past so_far =
    let none : end - k ≡ 0 = omega arith in
    sym so_far ∙ ap (λ many. growth_from terms n area k many canvas) none

-- a block of an area that a canvas is as large as lies in it
pub lies_by : (width height w h : ℕ) (block other : Block) → width ≡ w → height ≡ h → block ≡ other → LiesWithin w h other → LiesWithin width height block
lies_by width height w h block other wide high is lies =
    subst (λ b. LiesWithin width height b) (sym is) (record { across = omega (arith, lies.across, wide); down = omega (arith, lies.down, high) })
