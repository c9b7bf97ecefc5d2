-- What a demonstration runs on: nothing of it is refused.
use Rattle.std.proofs.Common.{Err, List, Ok, Result, [], add-one, ap, arith, drop, false, inl, inr, length, map, nat_eq, nat_lt, refl, subst, sym, take, zero-add, ℕ, ◌%◌, ◌*◌, ◌++◌, ◌+◌, ◌/◌, ◌<◌, ◌||◌, ◌∙◌, ◌∷◌, ◌≡◌, ◌≤◌}
use Rattle.std.proofs.lemmas.Bool.Decides.{nat_tests}
use Rattle.std.proofs.lemmas.List.{length-map, length-take, map-append}
use Rattle.std.proofs.lemmas.List.FromFn.{length-map-range_with_len}
use Rattle.std.proofs.lemmas.Nat.{div-mul-add, mul-le}
use Rattle.std.specs.Cmp.Lexicographic.{pointwise}
use Rattle.std.specs.List.{position_or_len, range_with_len}
use Rattle.wfc_lists.proofs.Ranges.{range_more}
use Rattle.wfc_lists.proofs.WithoutRepeats.{length-without_repeats}
use Rattle.wfc_map_commands.specs.Demonstration.{demo_output, demo_patterns, demo_picture, demo_problem, demo_side, demo_symbol, demo_symbols}
use Rattle.wfc_model.proofs.CallerLemmas.{IsSized-raster_of, length-places}
use Rattle.wfc_model.specs.Learned.{arising, learned}
use Rattle.wfc_model.specs.Raster.{IsFilled, Raster, height_of, raster_of}
use Rattle.wfc_model.specs.Window.{places, starts}
use Rattle.wfc_overlap.specs.Bridge.{window_pair_count}
use Rattle.wfc_overlap.specs.Built.{picture_problem}
use Rattle.wfc_overlap.specs.Sample.{Output, output_with, problem_of_sample}
use Rattle.wfc_pattern.proofs.CallerLemmas.{few_enough, taught_are_patterns}
use Rattle.wfc_pattern.proofs.LearningLemmas.{length-arising}
use Rattle.wfc_pattern.specs.Learning.{is_below_n, learned_patterns, patterns_of}
use Rattle.wfc_pattern.specs.Patterns.{IsPatterns, PatternsView}
use Rattle.wfc_picture.proofs.PaletteLemmas.{indexed-made, none_past}
use Rattle.wfc_picture.specs.Palette.{picture_and_palette, palette_numbers, palette_of}
use Rattle.wfc_picture.specs.Symbol.{same_symbol}
use Rattle.wfc_picture.specs.declared.palette.PaletteFault.{PaletteFault}
use Rattle.wfc_picture.specs.declared.palette.TheConstants.{MAX_COLOURS}
use Rattle.wfc_picture.specs.declared.symbol.Symbol.{Symbol}
use Rattle.wfc_plan.proofs.CallerLemmas.{IsStepEnd}
use Rattle.wfc_plan.specs.Plan.{or_refuse}
use Rattle.wfc_plan.specs.declared.fault.Refusal.{Refusal}
use Rattle.wfc_plan.specs.declared.fault.Refusal.TheVariants.{Build, Colours, Learn, NoMemory}

-- so few symbols make a picture and a palette
few_symbols : (symbols : List Symbol) (width : ℕ) → length symbols ≤ MAX_COLOURS → picture_and_palette symbols width ≡ Ok (raster_of width (length symbols / width) (palette_numbers symbols), palette_of symbols)
few_symbols symbols width few =
    let up_to : (j : ℕ) → j ≤ length symbols → length (palette_of (take j symbols)) ≤ MAX_COLOURS
    = λ j _. omega (arith, length-without_repeats same_symbol (take j symbols), length-take j symbols) in
    sym (indexed-made symbols width (raster_of width (length symbols / width) (palette_numbers symbols)) (palette_of symbols) (none_past symbols (length symbols) (omega arith) up_to) refl refl)

-- the square of a demonstration has as many pixels as its sides say
pub length-demo_symbols : (n side : ℕ) → length (demo_symbols n side) ≡ side * side
length-demo_symbols n side = length-map-range_with_len (λ k. demo_symbol n (k % side) (k / side)) 0 (side * side)

-- its picture and its palette
pub demo_indexed : (n side : ℕ) → 0 < side → side ≤ 24 → picture_and_palette (demo_symbols n side) side ≡ Ok (demo_picture n side, palette_of (demo_symbols n side))
demo_indexed n side some small =
    let many : side * side ≤ 24 * 24 = mul-le side side 24 24 small small in
    let few : length (demo_symbols n side) ≤ MAX_COLOURS = omega (arith, length-demo_symbols n side, many) in
    let high : length (demo_symbols n side) / side ≡ side = ap (λ m. m / side) (length-demo_symbols n side) ∙ square_side side some in
    few_symbols (demo_symbols n side) side few
    ∙ ap (λ h. let made : Result (Raster × List Symbol) PaletteFault = Ok (raster_of side h (palette_numbers (demo_symbols n side)), palette_of (demo_symbols n side)) in made) high
  where
    square_side : (side : ℕ) → 0 < side → side * side / side ≡ side
    square_side side some = let zero_more : side * side + 0 ≡ side * side = omega arith in ap (λ m. m / side) (sym zero_more) ∙ div-mul-add side side 0 some

-- its sides
pub demo_wide : (n side : ℕ) → (demo_picture n side).width ≡ side
demo_wide n side = refl

pub demo_high : (n side : ℕ) → height_of (demo_picture n side) ≡ side
demo_high n side = length-map-range_with_len (λ y. take side (drop (y * side) (palette_numbers (demo_symbols n side)))) 0 side

-- so many windows are learned from it at most
pub demo_few : (n side : ℕ) → 3 ≤ side → side ≤ 24 → length (learned (demo_picture n side) 3 1 false) ≤ 484
demo_few n side some small =
    let arising_few : starts side 3 false * (starts side 3 false * 1) ≤ 22 * (22 * 1)
    = mul-le (starts side 3 false) (starts side 3 false * 1) 22 (22 * 1) (omega arith) (omega arith) in
    let many : length (arising (demo_picture n side) 3 1 false) ≡ starts (height_of (demo_picture n side)) 3 false * (starts side 3 false * 1) = length-arising (demo_picture n side) 3 1 false in
    let square : length (arising (demo_picture n side) 3 1 false) ≡ starts side 3 false * (starts side 3 false * 1) = many ∙ ap (λ h. starts h 3 false * (starts side 3 false * 1)) (demo_high n side) in
    omega (arith, square, arising_few, length-without_repeats (pointwise nat_eq) (arising (demo_picture n side) 3 1 false))

-- its patterns
pub demo_learned : (n side : ℕ) → 3 ≤ side → side ≤ 24 → patterns_of (demo_picture n side) 3 1 false ≡ Ok (learned_patterns (demo_picture n side) 3 1 false)
demo_learned n side some small =
    let wide : nat_lt side 3 ≡ false = grind (arith, nat_tests) in
    let high : nat_lt (height_of (demo_picture n side)) 3 ≡ false = ap (λ h. nat_lt h 3) (demo_high n side) ∙ wide in
    let room : is_below_n (demo_picture n side) 3 false ≡ false = ap (λ b. b || nat_lt (height_of (demo_picture n side)) 3) wide ∙ high in
    sym (few_enough (demo_picture n side) 3 1 false room (omega (arith, demo_few n side some small)))

-- its problem
pub demo_built : (patterns : PatternsView) (palette : List Symbol) → patterns.n ≡ 3 → length patterns.windows ≤ 484
    → picture_problem patterns palette (output_with demo_output demo_output false) [] ≡ Ok (problem_of_sample patterns (output_with demo_output demo_output false) [])
demo_built patterns palette side few =
    let output : Output = output_with demo_output demo_output false in
    let as_wide : nat_lt demo_output patterns.n ≡ false = ap (nat_lt demo_output) side in
    let all : length (places demo_output demo_output patterns.n false) ≡ 46 * 46 = length-places demo_output demo_output patterns.n false ∙ ap (λ n. starts demo_output n false * starts demo_output n false) side in
    let pairs_few : window_pair_count patterns output ≤ 2116 * 484 = subst (λ m. m * length patterns.windows ≤ 2116 * 484) (sym all) (mul-le 2116 (length patterns.windows) 2116 484 (omega arith) few) in
    let not_over : nat_lt 8388608 (window_pair_count patterns output) ≡ false = grind (arith, nat_tests, pairs_few) in
    rw (as_wide, not_over) refl

-- one pixel more
pub symbols_more : (n side k : ℕ) (before after : List Symbol) (symbol : Symbol) → before ≡ map (λ k. demo_symbol n (k % side) (k / side)) (range_with_len 0 k) → after ≡ before ++ symbol ∷ []
    → symbol ≡ demo_symbol n (k % side) (k / side) → after ≡ map (λ k. demo_symbol n (k % side) (k / side)) (range_with_len 0 (k + 1))
symbols_more n side k before after symbol so_far pushed is =
    let f : ℕ → Symbol = λ k. demo_symbol n (k % side) (k / side) in
    pushed ∙ ap (λ xs. xs ++ symbol ∷ []) so_far ∙ ap (λ x. map f (range_with_len 0 k) ++ x ∷ []) is
    ∙ sym (ap (map f) (ap (range_with_len 0) (add-one k) ∙ range_more 0 k) ∙ map-append f (range_with_len 0 k) ((0 + k) ∷ []) ∙ ap (λ j. map f (range_with_len 0 k) ++ f j ∷ []) (zero-add k))

-- a step that is wanted to come to something comes to that, or memory ran out
pub given : {T : Type 0} (wanted : Result T Refusal) (value result : T) → wanted ≡ Ok value → IsStepEnd wanted (Ok result) → result ≡ value
given wanted value result is (inl gives) = cc
given wanted value result is (inr short) = absurd (cc (short))

pub short_of_memory : {T : Type 0} (wanted : Result T Refusal) (value : T) (refusal : Refusal) → wanted ≡ Ok value → IsStepEnd wanted (Err refusal) → refusal ≡ NoMemory
short_of_memory wanted value refusal is (inl gives) = absurd (cc)
short_of_memory wanted value refusal is (inr short) = cc (short)

-- the steps of a demonstration, each with what it is wanted to come to
pub demo_coloured : (n : ℕ) (symbols : List Symbol) → symbols ≡ demo_symbols n demo_side → or_refuse Colours (picture_and_palette symbols demo_side) ≡ Ok (demo_picture n demo_side, palette_of (demo_symbols n demo_side))
demo_coloured n symbols is = ap (λ symbols. or_refuse Colours (picture_and_palette symbols demo_side)) is ∙ ap (or_refuse Colours) (demo_indexed n demo_side (omega arith) (omega arith))

pub demo_taught : (n : ℕ) (picture : Raster) → picture ≡ demo_picture n demo_side → or_refuse Learn (patterns_of picture 3 1 false) ≡ Ok (demo_patterns n)
unfolding demo_patterns
demo_taught n picture is = ap (λ picture. or_refuse Learn (patterns_of picture 3 1 false)) is ∙ ap (or_refuse Learn) (demo_learned n demo_side (omega arith) (omega arith))

pub demo_posed : (n : ℕ) (patterns : PatternsView) (palette : List Symbol) → patterns ≡ demo_patterns n
    → or_refuse Build (picture_problem patterns palette (output_with demo_output demo_output false) []) ≡ Ok (demo_problem n)
unfolding demo_patterns demo_problem
demo_posed n patterns palette is =
    ap (λ patterns. or_refuse Build (picture_problem patterns palette (output_with demo_output demo_output false) [])) is
    ∙ ap (or_refuse Build) (demo_built (learned_patterns (demo_picture n demo_side) 3 1 false) palette refl (demo_few n demo_side (omega arith) (omega arith)))

length-numbered : (symbols : List Symbol) → length (palette_numbers symbols) ≡ length symbols
length-numbered symbols = length-map symbols (λ symbol. position_or_len (same_symbol symbol) (palette_of symbols))

-- what a demonstration runs on are patterns and their problem
pub demo_are_patterns : (n : ℕ) → IsPatterns (demo_patterns n)
unfolding demo_patterns
demo_are_patterns n =
    let filled : IsFilled demo_side demo_side (palette_numbers (demo_symbols n demo_side)) = record { some_column = omega arith; some_row = omega arith; as_many = length-numbered (demo_symbols n demo_side) ∙ length-demo_symbols n demo_side } in
    taught_are_patterns (demo_picture n demo_side) 3 1 false (learned_patterns (demo_picture n demo_side) 3 1 false) (IsSized-raster_of demo_side demo_side (palette_numbers (demo_symbols n demo_side)) filled).raster
    (omega arith) (omega arith) (omega arith) (omega arith) (subst (λ h. demo_side * h ≤ 1048576) (sym (demo_high n demo_side)) (omega arith)) (demo_learned n demo_side (omega arith) (omega arith))

pub demo_problem_is : (n : ℕ) → demo_problem n ≡ problem_of_sample (demo_patterns n) (output_with demo_output demo_output false) []
unfolding demo_problem
demo_problem_is n = refl
