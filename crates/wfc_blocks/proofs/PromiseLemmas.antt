-- The answer of growth in the words of maps.
use Rattle.std.proofs.Common.{◌≡◌, ℕ, ◌≤◌, Bool, true, false, ◌||◌, nat_lt, List, length, Result, Ok, Err, ap, sym, ◌∙◌, subst, refl, arith, if◌then◌else◌}
use Rattle.std.proofs.Common.{inl, inr}
use Rattle.std.proofs.lemmas.Bool.{ltb-false}
use Rattle.wfc_choose.specs.Pick.{Rule}
use Rattle.wfc_model.specs.Legal.{Pin, Rules, IsLegalPicture}
use Rattle.wfc_model.specs.Raster.{Raster}
use Rattle.wfc_outside.specs.Gives.{Gives, result_map}
use Rattle.wfc_pattern.specs.Patterns.{PatternsView, IsPatterns}
use Rattle.wfc_picture.specs.declared.symbol.Symbol.{Symbol}
use Rattle.wfc_pins.specs.PinView.{PinView}
use Rattle.wfc_pins.specs.declared.fault.BuildFault.{BuildFault}
use Rattle.wfc_problem.specs.declared.TheConstants.{MAX_PAIRS}
use Rattle.wfc_overlap.specs.Bridge.{IsTaughtBy, window_pair_count}
use Rattle.wfc_overlap.specs.Built.{picture_pins, texts_of}
use Rattle.wfc_overlap.proofs.CallerLemmas.{pins_inside}
use Rattle.wfc_blocks.specs.Blocks.{Area, block_at, block_count, output_of_block, whole_of}
use Rattle.wfc_blocks.specs.Canvas.{canvas_picture, pins_of_block}
use Rattle.wfc_blocks.specs.Grown.{growable_of, grown_of, or_grow_fault, shown_growth, terms_with}
use Rattle.wfc_blocks.specs.Growth.{Growth, IsGrowable, full, growth_of, spent, stopped}
use Rattle.wfc_blocks.specs.Promises.{ShowsLegalMap, ShowsStuckBlock}
use Rattle.wfc_blocks.specs.declared.TheConstants.{MAX_BLOCKS}
use Rattle.wfc_blocks.specs.declared.block.Block.{Block}
use Rattle.wfc_blocks.specs.declared.grown.Grown.{Grown}
use Rattle.wfc_blocks.specs.declared.grown.GrowFault.TheVariants as fault
use Rattle.wfc_blocks.proofs.MeantLemmas.{lines_meant}
use Rattle.wfc_blocks.proofs.SmallLemmas.{stopped_small}
use Rattle.wfc_blocks.proofs.WholeLemmas.{growth_legal, growth_none, growth_stopped}

-- ---- what an answer without a fault was made of

-- the pins that the lines mean, and growth by them over an area that can be grown
pub record IsGrownBy (patterns : PatternsView) (palette : List Symbol) (area : Area) (lines : List PinView) (rule : Rule) (budget seed : ℕ) (made : Grown) : Type 0 where
  pub pins : List Pin
  pub meant : picture_pins (texts_of palette) area.width area.height lines ≡ Ok pins
  pub growable : IsGrowable patterns area
  pub few : block_count patterns.n area ≤ MAX_BLOCKS
  pub is : shown_growth (texts_of palette) lines area (growth_of area (terms_with patterns rule budget seed pins)) ≡ made

pub grown_by : (patterns : PatternsView) (palette : List Symbol) (area : Area) (lines : List PinView) (rule : Rule) (budget seed : ℕ) (made : Grown) → patterns.n ≤ area.side → grown_of patterns palette area lines rule budget seed ≡ Ok made → IsGrownBy patterns palette area lines rule budget seed made
grown_by patterns palette area lines rule budget seed made long is =
    by (nat_lt area.width patterns.n) (nat_lt area.height patterns.n) (nat_lt MAX_BLOCKS (block_count patterns.n area)) (nat_lt MAX_PAIRS (window_pair_count patterns (output_of_block (block_at patterns.n area 0)))) (picture_pins (texts_of palette) area.width area.height lines) refl refl refl refl refl is
  where
    by : (narrow low many large : Bool) (meant : Result (List Pin) BuildFault) → nat_lt area.width patterns.n ≡ narrow → nat_lt area.height patterns.n ≡ low → nat_lt MAX_BLOCKS (block_count patterns.n area) ≡ many → nat_lt MAX_PAIRS (window_pair_count patterns (output_of_block (block_at patterns.n area 0))) ≡ large → picture_pins (texts_of palette) area.width area.height lines ≡ meant
        → (if narrow || low then Err fault.SizeBelowN else (if many then Err (fault.TooManyBlocks (block_count patterns.n area)) else (if large then Err (fault.TooLarge (window_pair_count patterns (output_of_block (block_at patterns.n area 0)))) else result_map (λ pins. shown_growth (texts_of palette) lines area (growth_of area (terms_with patterns rule budget seed pins))) (or_grow_fault meant)))) ≡ Ok made
        → IsGrownBy patterns palette area lines rule budget seed made
    by false false false false (Ok pins) wide high few small meant is = record {
      pins = pins;
      meant = meant;
      growable = record { wide = ltb-false area.width patterns.n wide; high = ltb-false area.height patterns.n high; long = long; few_pairs = ltb-false MAX_PAIRS (window_pair_count patterns (output_of_block (block_at patterns.n area 0))) small };
      few = ltb-false MAX_BLOCKS (block_count patterns.n area) few;
      is = cc (is);
    }
    by false false false false (Err why) wide high few small meant is = absurd (cc (is))
    by false false false true meant wide high few small means is = absurd (cc (is))
    by false false true large meant wide high few small means is = absurd (cc (is))
    by false true many large meant wide high few small means is = absurd (cc (is))
    by true low many large meant wide high few small means is = absurd (cc (is))

-- ---- refusals and growth

-- what is grown, or why nothing is, goes by the refusals alone
pub grown_split : (patterns : PatternsView) (palette : List Symbol) (area : Area) (lines : List PinView) (rule : Rule) (budget seed : ℕ)
    → grown_of patterns palette area lines rule budget seed ≡ result_map (λ pins. shown_growth (texts_of palette) lines area (growth_of area (terms_with patterns rule budget seed pins))) (growable_of patterns palette area lines)
grown_split patterns palette area lines rule budget seed =
    by (nat_lt area.width patterns.n || nat_lt area.height patterns.n) (nat_lt MAX_BLOCKS (block_count patterns.n area)) (nat_lt MAX_PAIRS (window_pair_count patterns (output_of_block (block_at patterns.n area 0))))
  where
    by : (small many large : Bool) → (if small then Err fault.SizeBelowN else (if many then Err (fault.TooManyBlocks (block_count patterns.n area)) else (if large then Err (fault.TooLarge (window_pair_count patterns (output_of_block (block_at patterns.n area 0)))) else result_map (λ pins. shown_growth (texts_of palette) lines area (growth_of area (terms_with patterns rule budget seed pins))) (or_grow_fault (picture_pins (texts_of palette) area.width area.height lines)))))
        ≡ result_map (λ pins. shown_growth (texts_of palette) lines area (growth_of area (terms_with patterns rule budget seed pins)))
        (if small then Err fault.SizeBelowN else (if many then Err (fault.TooManyBlocks (block_count patterns.n area)) else (if large then Err (fault.TooLarge (window_pair_count patterns (output_of_block (block_at patterns.n area 0)))) else or_grow_fault (picture_pins (texts_of palette) area.width area.height lines))))
    by true many large = refl
    by false true large = refl
    by false false true = refl
    by false false false = refl

-- ---- the promises

-- patterns are taught for any sides that don't wrap
taught_part : (sample : Raster) (rules : Rules) (patterns : PatternsView) (area : Area) (block : Block) → IsTaughtBy sample rules patterns (output_of_block block) → IsTaughtBy sample rules patterns (whole_of area)
taught_part sample rules patterns area block by = record { same_side = by.same_side; same_wrap = by.same_wrap; windows = by.windows }

pub growth_promises : (patterns : PatternsView) (palette : List Symbol) (area : Area) (lines : List PinView) (rule : Rule) (budget seed : ℕ) (made : Grown) → IsPatterns patterns → IsGrownBy patterns palette area lines rule budget seed made → ShowsLegalMap patterns palette area lines made × ShowsStuckBlock patterns palette area made
growth_promises patterns palette area lines rule budget seed made taught by =
    subst (λ (made : Grown). ShowsLegalMap patterns palette area lines made × ShowsStuckBlock patterns palette area made) by.is
    (shows (growth_of area (terms_with patterns rule budget seed by.pins)) refl)
  where
    shows : (growth : Growth) → growth_of area (terms_with patterns rule budget seed by.pins) ≡ growth → ShowsLegalMap patterns palette area lines (shown_growth (texts_of palette) lines area growth) × ShowsStuckBlock patterns palette area (shown_growth (texts_of palette) lines area growth)
    shows spent is = (tt, tt)
    shows (full canvas) is = (
      λ sample rules pins learned means.
          let same : by.pins ≡ pins = cc (by.meant, means) in
          subst (λ pins. IsLegalPicture sample rules pins area.width area.height (canvas_picture area canvas)) same
          (growth_legal area (terms_with patterns rule budget seed by.pins) taught by.growable sample rules learned canvas (pins_inside (texts_of palette) area.width area.height lines by.pins by.meant) is),
      tt,
    )
    shows (stopped block canvas) is = (
      tt,
      record {
        among = (growth_stopped area (terms_with patterns rule budget seed by.pins) taught by.growable block canvas is).among;
        pins = pins_of_block by.pins canvas block;
        meant = λ named. lines_meant palette area.width area.height lines by.pins canvas block named.shown named.apart (stopped_small (length palette) (terms_with patterns rule budget seed by.pins) named.some_symbol named.below area block canvas is) by.meant;
        none = λ sample rules m learned legal. growth_none area (terms_with patterns rule budget seed by.pins) taught by.growable sample rules (taught_part sample rules patterns area block learned) block canvas m is legal;
      },
    )

-- so of what is answered, if memory was enough
answers_promises : (patterns : PatternsView) (palette : List Symbol) (area : Area) (lines : List PinView) (rule : Rule) (budget seed : ℕ) (pins : List Pin) (made : Grown) → IsPatterns patterns → picture_pins (texts_of palette) area.width area.height lines ≡ Ok pins
    → IsGrowable patterns area → block_count patterns.n area ≤ MAX_BLOCKS → made ≡ shown_growth (texts_of palette) lines area (growth_of area (terms_with patterns rule budget seed pins)) → ShowsLegalMap patterns palette area lines made × ShowsStuckBlock patterns palette area made
answers_promises patterns palette area lines rule budget seed pins made taught meant growable few is =
    growth_promises patterns palette area lines rule budget seed made taught (record { pins = pins; meant = meant; growable = growable; few = few; is = sym is })

-- the pins that were found are those that the lines mean
found_meant : {X : Type 0} (view : X → List Pin) (read : Result (List Pin) BuildFault) (x : X) → Gives fault.NoMemory view (Ok x) (or_grow_fault read) → read ≡ Ok (view x)
found_meant view (Ok others) x (inl is) = cc (is)
found_meant view (Ok others) x (inr none) = absurd (cc (none))
found_meant view (Err why) x (inl is) = absurd (cc (is))
found_meant view (Err why) x (inr none) = absurd (cc (none))

-- so of what the code answers, which has its area and its pins by other names
pub grown_promises : {X : Type 0} (view : X → List Pin) (patterns : PatternsView) (palette : List Symbol) (area whole : Area) (lines : List PinView) (rule : Rule) (budget seed n : ℕ) (found : X) (marks : List Pin) (made : Grown) → IsPatterns patterns → area ≡ whole → n ≡ patterns.n → marks ≡ view found
    → Gives fault.NoMemory view (Ok found) (or_grow_fault (picture_pins (texts_of palette) whole.width whole.height lines)) → IsGrowable patterns area → block_count n area ≤ MAX_BLOCKS
    → made ≡ shown_growth (texts_of palette) lines area (growth_of area (terms_with patterns rule budget seed marks)) → ShowsLegalMap patterns palette whole lines made × ShowsStuckBlock patterns palette whole made
grown_promises view patterns palette area whole lines rule budget seed n found marks made taught same side marked exact growable few is =
    let counts : block_count n area ≡ block_count patterns.n whole = λ i. block_count (side i) (same i) in
    answers_promises patterns palette whole lines rule budget seed (view found) made taught (found_meant view (picture_pins (texts_of palette) whole.width whole.height lines) found exact)
    (subst (IsGrowable patterns) same growable) (omega (arith, few, counts))
    (is ∙ (λ i. shown_growth (texts_of palette) lines (same i) (growth_of (same i) (terms_with patterns rule budget seed (marked i)))))

-- what the code tests says that an area can be grown
pub growable_from : (patterns : PatternsView) (area : Area) (block : Block) (n product : ℕ) → n ≡ patterns.n → n ≤ area.width → n ≤ area.height → n ≤ area.side → block ≡ block_at n area 0 → product ≡ window_pair_count patterns (output_of_block block) → product ≤ MAX_PAIRS → IsGrowable patterns area
growable_from patterns area block n product side wide high long first many few =
    let is : block ≡ block_at patterns.n area 0 = first ∙ ap (λ n. block_at n area 0) side in
    let same : window_pair_count patterns (output_of_block block) ≡ window_pair_count patterns (output_of_block (block_at patterns.n area 0)) = ap (λ (b : Block). window_pair_count patterns (output_of_block b)) is in
    record { wide = omega (arith, side, wide); high = omega (arith, side, high); long = omega (arith, side, long); few_pairs = omega (arith, few, many, same) }
