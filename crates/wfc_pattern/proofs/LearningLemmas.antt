-- What is learned, once every image of every window is noted.
use Rattle.std.proofs.Common.{◌≡◌, ℕ, ◌+◌, ◌*◌, ◌%◌, ◌<◌, ◌≤◌, Bool, true, false, not, ◌&&◌, ◌||◌, cond, ltb, List, [], ◌∷◌, length, map, fold, sum, All, refl, sym, subst, ap, ◌∙◌, arith, ◌⊎◌, inl, inr, if◌then◌else◌, zero-add, Result, Ok, Err, nat_eq, get_or}
use Rattle.std.specs.List.{flat_map, range_with_len}
use Rattle.std.proofs.lemmas.Bool.{or_left, or_right, lt-ltb, le-ltb, cases_lt, false≢true}
use Rattle.std.proofs.lemmas.Nat.{mul-le}
use Rattle.std.proofs.lemmas.List.{length-map}
use Rattle.std.proofs.lemmas.List.Elements.{All-nil, All-cons, All-weaker, All-map}
use Rattle.std.proofs.lemmas.Map.Made.{AllPairs-from_IsDistinct}
use Rattle.wfc_lists.proofs.WithoutRepeats.{All-without_repeats, length-without_repeats, some_unrepeated, IsDistinct-without_repeats}
use Rattle.wfc_model.proofs.ImageLemmas.{length-image}
use Rattle.std.proofs.lemmas.List.Sums.{sum_by-cons, count_by-le-length}
use Rattle.std.specs.Cmp.Lexicographic.{pointwise}
use Rattle.wfc_lists.specs.WithoutRepeats.{without_repeats}
use Rattle.wfc_model.specs.Raster.{Raster, IsRaster, height_of, number_at}
use Rattle.wfc_model.specs.Window.{starts, window}
use Rattle.wfc_model.specs.Learned.{arising, learned, weight_of}
use Rattle.wfc_model.proofs.SquareLemmas.{length-square}
use Rattle.wfc_model.proofs.LearnedLemmas.{All-arising, same_window-Decides}
use Rattle.wfc_pattern.specs.Arising.{images_in_row}
use Rattle.wfc_pattern.specs.Learning.{is_below_n, learned_patterns, patterns_of}
use Rattle.wfc_pattern.specs.Patterns.{PatternsView, IsPatterns, AreDifferent}
use Rattle.wfc_pattern.specs.declared.TheConstants.{MAX_PATTERNS}
use Rattle.wfc_pattern.specs.declared.learning.LearnFault.{LearnFault}
use Rattle.wfc_pattern.specs.declared.learning.LearnFault.TheVariants.{SampleBelowN, TooManyPatterns}
use Rattle.wfc_pattern.specs.Tally.{recount, window_counts, total, windows_of, weights_of, patterns_from}
use Rattle.wfc_pattern.proofs.ArisingLemmas.{all_rows, length-rows}
use Rattle.wfc_pattern.proofs.TallyLemmas.{tallied-fold, total-fold, whole}

-- what is tallied are the windows and their numbers of times
pub windows_of-tallied : (ws : List (List ℕ)) → windows_of (window_counts ws) ≡ without_repeats (pointwise nat_eq) ws
windows_of-tallied ws = both (weight_of ws) (without_repeats (pointwise nat_eq) ws)
  where
    both : (c : List ℕ → ℕ) (ks : List (List ℕ)) → windows_of (map (λ (w : List ℕ). (w, c w)) ks) ≡ ks
    both c [] = refl
    both c (k ∷ ks) = ap (λ vs. k ∷ vs) (both c ks)

pub weights_of-tallied : (ws : List (List ℕ)) → weights_of (window_counts ws) ≡ map (weight_of ws) (without_repeats (pointwise nat_eq) ws)
weights_of-tallied ws = both (weight_of ws) (without_repeats (pointwise nat_eq) ws)
  where
    both : (c : List ℕ → ℕ) (ks : List (List ℕ)) → weights_of (map (λ (w : List ℕ). (w, c w)) ks) ≡ map c ks
    both c [] = refl
    both c (k ∷ ks) = ap (λ ns. c k ∷ ns) (both c ks)

-- all rows of all places are all places
pub tally_is : (sample : Raster) (n s : ℕ) (wrap : Bool) (columns rows y : ℕ) (es : List (List ℕ × ℕ)) → columns ≡ starts sample.width n wrap → rows ≡ starts (height_of sample) n wrap → y ≡ rows
    → es ≡ fold recount [] (flat_map (images_in_row sample n s columns) (range_with_len 0 y)) → es ≡ window_counts (arising sample n s wrap)
tally_is sample n s wrap columns rows y es wide high last so_far =
    so_far
    ∙ ap (λ k. fold recount [] (flat_map (images_in_row sample n s columns) (range_with_len 0 k))) (last ∙ high)
    ∙ ap (λ k. fold recount [] (flat_map (images_in_row sample n s k) (range_with_len 0 (starts (height_of sample) n wrap)))) wide
    ∙ ap (fold recount []) (all_rows sample n s (starts sample.width n wrap) (starts (height_of sample) n wrap))
    ∙ tallied-fold [] (arising sample n s wrap)

pub length-arising : (sample : Raster) (n s : ℕ) (wrap : Bool) → length (arising sample n s wrap) ≡ starts (height_of sample) n wrap * (starts sample.width n wrap * s)
length-arising sample n s wrap =
    ap length (sym (all_rows sample n s (starts sample.width n wrap) (starts (height_of sample) n wrap))) ∙ length-rows sample n s (starts sample.width n wrap) (starts (height_of sample) n wrap)

-- a sample that isn't below n has a place for a window
pub fits : (sample : Raster) (n : ℕ) (wrap : Bool) → is_below_n sample n wrap ≡ false → wrap ≡ false → (n ≤ sample.width) × (n ≤ height_of sample)
fits sample n wrap within flat = (columns (cases_lt sample.width n), rows (cases_lt (height_of sample) n))
  where
    no : is_below_n sample n wrap ≡ true → ⊥
    no below = false≢true (sym within ∙ below)

    is_below : (ltb sample.width n || ltb (height_of sample) n) ≡ true → is_below_n sample n wrap ≡ true
    is_below one = ap (λ b. not b && (ltb sample.width n || ltb (height_of sample) n)) flat ∙ one

    columns : (sample.width < n) ⊎ (n ≤ sample.width) → n ≤ sample.width
    columns (inl short) = absurd (no (is_below (or_left (ltb sample.width n) (ltb (height_of sample) n) (lt-ltb sample.width n short))))
    columns (inr long) = long

    rows : (height_of sample < n) ⊎ (n ≤ height_of sample) → n ≤ height_of sample
    rows (inl short) = absurd (no (is_below (or_right (ltb sample.width n) (ltb (height_of sample) n) (lt-ltb (height_of sample) n short))))
    rows (inr long) = long

pub starts_within : (side n : ℕ) (wrap : Bool) → 0 < n → starts side n wrap ≤ side
starts_within side n true some = omega arith
starts_within side n false some = omega arith

pub starts_some : (side n : ℕ) (wrap : Bool) → 0 < side → (wrap ≡ false → n ≤ side) → 0 < starts side n wrap
starts_some side n true some within = some
starts_some side n false some within = let fit = within refl in omega arith

-- so many images at most
pub most_arising : (columns rows w h s : ℕ) → columns ≤ w → rows ≤ h → s ≤ 8 → w * h ≤ 1048576 → rows * (columns * s) ≤ 8388608
most_arising columns rows w h s narrow low eight pixels =
    let row : columns * s ≤ w * 8 = mul-le columns s w 8 narrow eight in
    let all : rows * (columns * s) ≤ h * (w * 8) = mul-le rows (columns * s) h (w * 8) low row in
    omega (arith, all)

pub some_arising : (columns rows s : ℕ) → 0 < columns → 0 < rows → 0 < s → 0 < rows * (columns * s)
some_arising columns rows s wide high some =
    let row : 1 * 1 ≤ columns * s = mul-le 1 1 columns s (omega arith) (omega arith) in
    let all : 1 * 1 ≤ rows * (columns * s) = mul-le 1 1 rows (columns * s) (omega arith) (omega arith) in
    omega (arith, all)

-- a window of a list stands in it once at least
there_once : (ws : List (List ℕ)) → All (λ w. 0 < weight_of ws w) ws
there_once [] = All-nil (λ w. 0 < weight_of [] w)
there_once (w ∷ ws) =
    All-cons (λ v. 0 < weight_of (w ∷ ws) v) w ws
    (first w ws (ap (λ (b : Bool). let n : ℕ = cond b 1 0 in n) (whole w)))
    (All-weaker (λ v. 0 < weight_of ws v) (λ v. 0 < weight_of (w ∷ ws) v) (λ v some. omega (arith, some, sum_by-cons (λ u. cond (pointwise nat_eq v u) 1 0) w ws)) ws (there_once ws))
  where
    first : (w : List ℕ) (ws : List (List ℕ)) → (let n : ℕ = cond (pointwise nat_eq w w) 1 0 in n) ≡ 1 → 0 < weight_of (w ∷ ws) w
    first w ws one = omega (arith, one, sum_by-cons (λ u. cond (pointwise nat_eq w u) 1 0) w ws)

-- each image that arises has n by n numbers
squares_arising : (sample : Raster) (n s : ℕ) (wrap : Bool) → All (λ w. length w ≡ n * n) (arising sample n s wrap)
squares_arising sample n s wrap =
    All-arising (λ w. length w ≡ n * n) sample n s wrap
    (λ x y k _ _ _. length-image n (window sample x y n) k (length-square n (λ i j. number_at sample ((x + i) % sample.width) ((y + j) % height_of sample))))

-- no two learned windows are one
pub learned_are_different : (sample : Raster) (n s : ℕ) (wrap : Bool) → AreDifferent (learned sample n s wrap)
learned_are_different sample n s wrap = AllPairs-from_IsDistinct same_window-Decides (learned sample n s wrap) (IsDistinct-without_repeats (pointwise nat_eq) (arising sample n s wrap))

-- as many are tallied as are learned, and they are few enough to be counted in 32 bits
pub length-tallied : (ws : List (List ℕ)) → length (window_counts ws) ≡ length (without_repeats (pointwise nat_eq) ws)
length-tallied ws = length-map (without_repeats (pointwise nat_eq) ws) (λ w. (w, weight_of ws w))

pub most_learned : (sample : Raster) (n s : ℕ) (wrap : Bool) → 0 < n → s ≤ 8 → sample.width * height_of sample ≤ 1048576 → length (learned sample n s wrap) ≤ 8388608
most_learned sample n s wrap some_side eight pixels =
    let ws = arising sample n s wrap in
    let most = most_arising (starts sample.width n wrap) (starts (height_of sample) n wrap) sample.width (height_of sample) s (starts_within sample.width n wrap some_side) (starts_within (height_of sample) n wrap some_side) eight pixels in
    omega (arith, length-arising sample n s wrap, length-without_repeats (pointwise nat_eq) ws, most)

-- what is tallied, as patterns
pub patterns_from-tallied : (n : ℕ) (ws : List (List ℕ)) → patterns_from n (window_counts ws) ≡ record { n = n; windows = without_repeats (pointwise nat_eq) ws; weights = map (weight_of ws) (without_repeats (pointwise nat_eq) ws) }
patterns_from-tallied n ws =
    ap (λ vs. record { n = n; windows = vs; weights = weights_of (window_counts ws) }) (windows_of-tallied ws)
    ∙ ap (λ ns. record { n = n; windows = without_repeats (pointwise nat_eq) ws; weights = ns }) (weights_of-tallied ws)

-- what is learned of a sample with room for a window are patterns, where they are few enough
pub learned_are_patterns : (sample : Raster) (n s : ℕ) (wrap : Bool) → IsRaster sample → 0 < n → n ≤ 6 → 0 < s → s ≤ 8 → sample.width * height_of sample ≤ 1048576 → is_below_n sample n wrap ≡ false
    → length (learned sample n s wrap) ≤ MAX_PATTERNS → IsPatterns (learned_patterns sample n s wrap)
learned_are_patterns sample n s wrap raster some_side small_side some eight pixels within few_enough =
    let ws = arising sample n s wrap in
    let columns = starts sample.width n wrap in
    let rows = starts (height_of sample) n wrap in
    let many : length ws ≡ rows * (columns * s) = length-arising sample n s wrap in
    let most : rows * (columns * s) ≤ 8388608 = most_arising columns rows sample.width (height_of sample) s (starts_within sample.width n wrap some_side) (starts_within (height_of sample) n wrap some_side) eight pixels in
    let one : 0 < rows * (columns * s) =
    some_arising columns rows s (starts_some sample.width n wrap raster.some_column (λ flat. (fits sample n wrap within flat).0)) (starts_some (height_of sample) n wrap raster.some_row (λ flat. (fits sample n wrap within flat).1)) some in
    let most_weight : (w : List ℕ) → weight_of ws w ≤ length ws = λ w. count_by-le-length (pointwise nat_eq w) ws in
    record {
      some_side = some_side;
      small_side = small_side;
      some_window = some_unrepeated (pointwise nat_eq) ws (omega arith);
      few = few_enough;
      squares = All-without_repeats (pointwise nat_eq) (λ w. length w ≡ n * n) ws (squares_arising sample n s wrap);
      different = learned_are_different sample n s wrap;
      weighed = length-map (without_repeats (pointwise nat_eq) ws) (weight_of ws);
      some_weight = All-map (λ weight. 0 < weight) (weight_of ws) (without_repeats (pointwise nat_eq) ws) (All-without_repeats (pointwise nat_eq) (λ w. 0 < weight_of ws w) ws (there_once ws));
      small_weight =
          All-map (λ weight. weight ≤ 8388608) (weight_of ws) (without_repeats (pointwise nat_eq) ws)
          (λ k d within. omega (arith, most_weight (get_or (without_repeats (pointwise nat_eq) ws) k d)));
    }

-- what is answered in each case
pub below_n : (sample : Raster) (n s : ℕ) (wrap : Bool) → is_below_n sample n wrap ≡ true → Err SampleBelowN ≡ patterns_of sample n s wrap
below_n sample n s wrap below = sym (ap (λ b. if b then Err SampleBelowN else if ltb MAX_PATTERNS (length (learned sample n s wrap)) then Err (TooManyPatterns (length (learned sample n s wrap))) else Ok (learned_patterns sample n s wrap)) below)

pub too_many : (sample : Raster) (n s : ℕ) (wrap : Bool) → is_below_n sample n wrap ≡ false → MAX_PATTERNS < length (learned sample n s wrap) → Err (TooManyPatterns (length (learned sample n s wrap))) ≡ patterns_of sample n s wrap
too_many sample n s wrap room many =
    sym (ap (λ b. if b then Err SampleBelowN else if ltb MAX_PATTERNS (length (learned sample n s wrap)) then Err (TooManyPatterns (length (learned sample n s wrap))) else Ok (learned_patterns sample n s wrap)) room
    ∙ ap (λ b. if b then Err (TooManyPatterns (length (learned sample n s wrap))) else Ok (learned_patterns sample n s wrap)) (lt-ltb MAX_PATTERNS (length (learned sample n s wrap)) many))

pub few_enough : (sample : Raster) (n s : ℕ) (wrap : Bool) → is_below_n sample n wrap ≡ false → length (learned sample n s wrap) ≤ MAX_PATTERNS → Ok (learned_patterns sample n s wrap) ≡ patterns_of sample n s wrap
few_enough sample n s wrap room few =
    sym (ap (λ b. if b then Err SampleBelowN else if ltb MAX_PATTERNS (length (learned sample n s wrap)) then Err (TooManyPatterns (length (learned sample n s wrap))) else Ok (learned_patterns sample n s wrap)) room
    ∙ ap (λ b. if b then Err (TooManyPatterns (length (learned sample n s wrap))) else Ok (learned_patterns sample n s wrap)) (le-ltb MAX_PATTERNS (length (learned sample n s wrap)) few))

-- what is answered, if it isn't a fault, are patterns
pub taught_are_patterns : (sample : Raster) (n s : ℕ) (wrap : Bool) (patterns : PatternsView) → IsRaster sample → 0 < n → n ≤ 6 → 0 < s → s ≤ 8 → sample.width * height_of sample ≤ 1048576
    → patterns_of sample n s wrap ≡ Ok patterns → IsPatterns patterns
taught_are_patterns sample n s wrap patterns raster some_side small_side some eight pixels answer = by (is_below_n sample n wrap) refl (cases_lt MAX_PATTERNS (length (learned sample n s wrap)))
  where
    fault : (e : LearnFault) (p : PatternsView) → (let r : Result PatternsView LearnFault = Err e in r) ≡ Ok p → ⊥
    fault e p same = cc

    same_patterns : (p q : PatternsView) → (let r : Result PatternsView LearnFault = Ok p in r) ≡ Ok q → p ≡ q
    same_patterns p q same = cc

    by : (b : Bool) → is_below_n sample n wrap ≡ b → (MAX_PATTERNS < length (learned sample n s wrap)) ⊎ (length (learned sample n s wrap) ≤ MAX_PATTERNS) → IsPatterns patterns
    by true below either = absurd (fault SampleBelowN patterns (below_n sample n s wrap below ∙ answer))
    by false room (inl many) = absurd (fault (TooManyPatterns (length (learned sample n s wrap))) patterns (too_many sample n s wrap room many ∙ answer))
    by false room (inr few) =
        subst IsPatterns (same_patterns (learned_patterns sample n s wrap) patterns (few_enough sample n s wrap room few ∙ answer))
        (learned_are_patterns sample n s wrap raster some_side small_side some eight pixels room few)

-- the weights together are the length of the list
pub sum-weights : (ws : List (List ℕ)) → sum (map (weight_of ws) (without_repeats (pointwise nat_eq) ws)) ≡ length ws
sum-weights ws =
    ap sum (sym (weights_of-tallied ws)) ∙ each (window_counts ws) ∙ ap total (sym (tallied-fold [] ws)) ∙ total-fold [] ws ∙ zero-add (length ws)
  where
    each : (es : List (List ℕ × ℕ)) → sum (weights_of es) ≡ total es
    each [] = refl
    each (e ∷ es) = omega (arith, sum_by-cons (λ n. n) e.1 (weights_of es), sum_by-cons (λ (p : List ℕ × ℕ). p.1) e es, each es)
