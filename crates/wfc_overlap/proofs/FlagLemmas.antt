-- Tables of flags from which patterns are taken away.
use Rattle.std.proofs.Common.{◌≡◌, ◌≢◌, ℕ, ◌+◌, ◌*◌, ◌/◌, ◌%◌, ◌<◌, ◌≤◌, Bool, true, false, ◌&&◌, not, ◌⊎◌, inl, inr, List, [], ◌∷◌, length, get_or, map, Option, Some, refl, sym, subst, ap, ◌∙◌, arith}
use Rattle.std.specs.Prelude.{◌||◌, ◌==◌, slice_index}
use Rattle.std.specs.List.{list_all, flat_map, range_with_len}
use Rattle.std.proofs.lemmas.Bool.{cases_lt, eqb-true, eq-eqb}
use Rattle.std.proofs.lemmas.List.{ext_get_or, get_or-map, length-map}
use Rattle.std.proofs.lemmas.List.Folds.{list_all-append}
use Rattle.std.proofs.lemmas.Nat.{mul-add-lt, div-mul-add, mod-mul-add}
use Rattle.std.proofs.Math.Bool.{and-true, and_assoc}
use Rattle.std.proofs.Math.Nat.{mul-le-mul_right}
use Rattle.wfc_lists.proofs.Rows.{apart_rows}
use Rattle.wfc_lists.proofs.Tables.{length-table, table-at}
use Rattle.wfc_model.specs.Legal.{Pin}
use Rattle.wfc_model.specs.Window.{starts, places}
use Rattle.wfc_model.proofs.CallerLemmas.{length-places, places-at, cell_is}
use Rattle.wfc_pattern.specs.Patterns.{PatternsView, window_at}
use Rattle.wfc_places.specs.Flags.{flag}
use Rattle.wfc_overlap.specs.Flags.{AreCut, IsTable}
use Rattle.wfc_places.specs.Marks.{suits}
use Rattle.wfc_places.specs.Steps.{place_number}
use Rattle.wfc_overlap.specs.Sample.{Output, window_suits_at}
use Rattle.wfc_lists.proofs.Growing.{one_more}
use Rattle.wfc_places.proofs.CallerLemmas.{mod_low, mod_once}

-- ---- where a window starts that has a pixel

-- its number i stands on the pixel, or one side further where it wraps
pub start_only : (at i n side : ℕ) (wrap : Bool) → i < n → n ≤ side → (u : ℕ) → u < starts side n wrap → (u + i) % side ≡ at → (u < side) × ((u + i ≡ at) ⊎ (u + i ≡ at + side))
start_only at i n side true i_in fits u inside is =
    elim (cases_lt (u + i) side) [
      | inl low ↦ let e = mod_low (u + i) side low in (inside, inl (omega arith))
      | inr high ↦ let e = mod_once (u + i) side high (omega arith) in (inside, inr (omega arith))
    ]
start_only at i n side false i_in fits u inside is = let e = mod_low (u + i) side (omega arith) in (omega arith, inl (omega arith))

-- ---- all places

module _ (patterns : PatternsView) (output : Output) where
  abbrev columns : ℕ
  columns = starts output.width patterns.n output.wrap

  abbrev rows : ℕ
  rows = starts output.height patterns.n output.wrap

  abbrev count : ℕ
  count = length patterns.windows

  -- nothing is taken away by a test that passes
  pub cut_nothing : (flags : List Bool) (passes : ℕ × ℕ → List ℕ → Bool) → ((place : ℕ × ℕ) (w : List ℕ) → passes place w ≡ true) → AreCut patterns output flags flags passes
  cut_nothing flags passes all = record { as_long = refl; left = λ x y v column row inside. sym (ap (λ b. flag count flags (place_number columns x y) v && b) (all (x, y) (window_at patterns v)) ∙ and-true (flag count flags (place_number columns x y) v)) }

  -- one test behind another
  pub cut_more : (old flags new : List Bool) (first second both : ℕ × ℕ → List ℕ → Bool) → AreCut patterns output old flags first → AreCut patterns output flags new second
      → ((place : ℕ × ℕ) (w : List ℕ) → both place w ≡ (first place w && second place w)) → AreCut patterns output old new both
  cut_more old flags new first second both one two says = record {
    as_long = two.as_long ∙ one.as_long;
    left = λ x y v column row inside.
        two.left x y v column row inside
        ∙ ap (λ b. b && second (x, y) (window_at patterns v)) (one.left x y v column row inside)
        ∙ and_assoc (flag count old (place_number columns x y) v) (first (x, y) (window_at patterns v)) (second (x, y) (window_at patterns v))
        ∙ ap (λ b. flag count old (place_number columns x y) v && b) (sym (says (x, y) (window_at patterns v)));
  }

  -- the flags of all places, from all true on, are those of what passes
  pub flags_are : (old flags : List Bool) (passes : ℕ × ℕ → List ℕ → Bool) → IsTable patterns output old → ((k : ℕ) → k < length old → get_or old k false ≡ true) → AreCut patterns output old flags passes
      → flags ≡ flat_map (λ place. map (passes place) patterns.windows) (places output.width output.height patterns.n output.wrap)
  flags_are old flags passes table all cut =
      let all_places = places output.width output.height patterns.n output.wrap in
      let F : ℕ × ℕ → List Bool = λ place. map (passes place) patterns.windows in
      let long : length (flat_map F all_places) ≡ length all_places * count = length-table F count (λ place. length-map patterns.windows (passes place)) all_places in
      let many : length all_places ≡ rows * columns = length-places output.width output.height patterns.n output.wrap in
      let as_long : length flags ≡ rows * columns * count = cut.as_long ∙ table in
      ext_get_or false flags (flat_map F all_places) (as_long ∙ ap (λ k. k * count) (sym many) ∙ sym long) (λ k inside.
      let at = cell_is count (rows * columns) k (omega arith) in
      let c = k / count in
      let v = k % count in
      let place = cell_is columns rows c at.row in
      let x = c % columns in
      let y = c / columns in
      let old_inside : k < length old = omega (arith, cut.as_long) in
      ap (λ m. get_or flags m false) (sym at.cell)
      ∙ ap (λ m. get_or flags (m * count + v) false) (sym place.cell)
      ∙ cut.left x y v place.column place.row at.column
      ∙ ap (λ m. get_or old (m * count + v) false && passes (x, y) (window_at patterns v)) place.cell
      ∙ ap (λ m. get_or old m false && passes (x, y) (window_at patterns v)) at.cell
      ∙ ap (λ b. b && passes (x, y) (window_at patterns v)) (all k old_inside)
      ∙ sym (get_or-map (passes (x, y)) patterns.windows v [] false at.column)
      ∙ ap (λ (place : ℕ × ℕ). get_or (F place) v false) (sym (places-at output.width output.height patterns.n output.wrap x y (0, 0) place.column place.row))
      ∙ ap (λ m. get_or (F (get_or all_places m (0, 0))) v false) place.cell
      ∙ sym (table-at F count (λ place. length-map patterns.windows (passes place)) all_places c v (0, 0) false (omega (arith, many, at.row)) at.column)
      ∙ ap (λ m. get_or (flat_map F all_places) m false) at.cell)

  -- ---- one entry of a window on a pixel

  -- where no window has the pixel as its entry, each number suits
  pub suits_nowhere : (mark : Pin) (i j : ℕ) (place : ℕ × ℕ) (w : List ℕ) → ((place.0 + i) % output.width ≡ mark.column → (place.1 + j) % output.height ≡ mark.row → ⊥) → window_suits_at patterns.n output place w mark i j ≡ true
  suits_nowhere mark i j place w apart = by ((place.0 + i) % output.width == mark.column) ((place.1 + j) % output.height == mark.row) refl refl
    where
      by : (a b : Bool) → ((place.0 + i) % output.width == mark.column) ≡ a → ((place.1 + j) % output.height == mark.row) ≡ b → (not (a && b) || suits mark (slice_index w (j * patterns.n + i))) ≡ true
      by true true column row = absurd (apart (eqb-true _ _ column) (eqb-true _ _ row))
      by true false column row = refl
      by false b column row = refl

  -- where the entry stands on the pixel, its number has to suit
  pub suits_here : (mark : Pin) (i j : ℕ) (place : ℕ × ℕ) (w : List ℕ) → (place.0 + i) % output.width ≡ mark.column → (place.1 + j) % output.height ≡ mark.row → window_suits_at patterns.n output place w mark i j ≡ suits mark (slice_index w (j * patterns.n + i))
  suits_here mark i j place w column row =
      ap (λ b. not (b && ((place.1 + j) % output.height == mark.row)) || suits mark (slice_index w (j * patterns.n + i))) (eq-eqb _ _ column)
      ∙ ap (λ b. not b || suits mark (slice_index w (j * patterns.n + i))) (eq-eqb _ _ row)

  -- where no window has the pixel as its entry, nothing is taken away
  pub cut_nowhere : (flags : List Bool) (mark : Pin) (i j : ℕ) → ((x y : ℕ) → x < columns → y < rows → (x + i) % output.width ≡ mark.column → (y + j) % output.height ≡ mark.row → ⊥)
      → AreCut patterns output flags flags (λ place w. window_suits_at patterns.n output place w mark i j)
  cut_nowhere flags mark i j apart = record {
    as_long = refl;
    left = λ x y v column row inside.
        sym (ap (λ b. flag count flags (place_number columns x y) v && b) (suits_nowhere mark i j (x, y) (window_at patterns v) (apart x y column row)) ∙ and-true (flag count flags (place_number columns x y) v));
  }

  -- cells in other columns or rows are others
  apart_cells : (x y u v : ℕ) → x < columns → u < columns → (x ≡ u → y ≡ v → ⊥) → place_number columns x y ≢ place_number columns u v
  apart_cells x y u v column other apart e =
      apart (sym (mod-mul-add y columns x column) ∙ ap (λ k. k % columns) e ∙ mod-mul-add v columns u other)
      (sym (div-mul-add y columns x column) ∙ ap (λ k. k / columns) e ∙ div-mul-add v columns u other)

  -- at the one place whose window has the pixel as its entry, what doesn't suit is taken away
  pub cut_at : (old new : List Bool) (mark : Pin) (i j u v : ℕ) → u < columns → (u + i) % output.width ≡ mark.column → (v + j) % output.height ≡ mark.row
      → ((x : ℕ) → x < columns → (x + i) % output.width ≡ mark.column → x ≡ u) → ((y : ℕ) → y < rows → (y + j) % output.height ≡ mark.row → y ≡ v)
      → length new ≡ length old
      → ((w : ℕ) → w < count → flag count new (place_number columns u v) w ≡ (flag count old (place_number columns u v) w && suits mark (slice_index (window_at patterns w) (j * patterns.n + i))))
      → ((k : ℕ) → (k < place_number columns u v * count) ⊎ (place_number columns u v * count + count ≤ k) → get_or new k false ≡ get_or old k false)
      → AreCut patterns output old new (λ place w. window_suits_at patterns.n output place w mark i j)
  cut_at old new mark i j u v u_in column row only_x only_y as_long here others = record { as_long = as_long; left = λ x y w x_in y_in inside. by x y w x_in y_in inside (cases_eq x u) (cases_eq y v) }
    where
      cases_eq : (a b : ℕ) → (a ≡ b) ⊎ (a ≢ b)
      cases_eq a b = elim (cases_lt a b) [ inl l ↦ inr (λ e. absurd (omega arith)) | inr ge ↦ elim (cases_lt b a) [ inl l ↦ inr (λ e. absurd (omega arith)) | inr le ↦ inl (omega arith) ] ]

      away : (x y w : ℕ) → x < columns → y < rows → w < count → (x ≡ u → y ≡ v → ⊥)
          → flag count new (place_number columns x y) w ≡ (flag count old (place_number columns x y) w && window_suits_at patterns.n output (x, y) (window_at patterns w) mark i j)
      away x y w x_in y_in inside apart =
          others (place_number columns x y * count + w) (apart_rows count (place_number columns x y) (place_number columns u v) w inside (apart_cells x y u v x_in u_in apart))
          ∙ sym (ap (λ b. flag count old (place_number columns x y) w && b) (suits_nowhere mark i j (x, y) (window_at patterns w) (λ on_x on_y. apart (only_x x x_in on_x) (only_y y y_in on_y))) ∙ and-true (flag count old (place_number columns x y) w))

      by : (x y w : ℕ) → x < columns → y < rows → w < count → (x ≡ u) ⊎ (x ≢ u) → (y ≡ v) ⊎ (y ≢ v)
          → flag count new (place_number columns x y) w ≡ (flag count old (place_number columns x y) w && window_suits_at patterns.n output (x, y) (window_at patterns w) mark i j)
      by x y w x_in y_in inside (inr other) q = away x y w x_in y_in inside (λ e _. other e)
      by x y w x_in y_in inside (inl e) (inr other) = away x y w x_in y_in inside (λ _ f. other f)
      by x y w x_in y_in inside (inl e) (inl f) =
          ap (λ c. flag count new c w) (ap (λ k. place_number columns k y) e ∙ ap (place_number columns u) f)
          ∙ here w inside
          ∙ ap (λ c. flag count old c w && suits mark (slice_index (window_at patterns w) (j * patterns.n + i))) (sym (ap (λ k. place_number columns k y) e ∙ ap (place_number columns u) f))
          ∙ ap (λ b. flag count old (place_number columns x y) w && b) (sym (suits_here mark i j (x, y) (window_at patterns w) (ap (λ k. (k + i) % output.width) e ∙ column) (ap (λ k. (k + j) % output.height) f ∙ row)))

  -- a cell's row of flags lies in the table
  pub row_inside : (flags : List Bool) (n across x y : ℕ) → n ≡ patterns.n → across ≡ starts output.width n output.wrap → IsTable patterns output flags → x < starts output.width n output.wrap → y < starts output.height n output.wrap
      → (y * across + x) * count + count ≤ length flags
  row_inside flags n across x y n_is across_is table x_in y_in =
      let x_below : x < columns = subst (λ k. x < starts output.width k output.wrap) n_is x_in in
      let y_below : y < rows = subst (λ k. y < starts output.height k output.wrap) n_is y_in in
      let same : across ≡ columns = across_is ∙ ap (λ k. starts output.width k output.wrap) n_is in
      let cell : y * columns + x < columns * rows = mul-add-lt y columns x rows y_below x_below in
      let more : (y * columns + x + 1) * count ≤ (columns * rows) * count = mul-le-mul_right count (omega arith) in
      let next : (y * columns + x + 1) * count ≡ (y * columns + x) * count + count = omega arith in
      let area : (columns * rows) * count ≡ rows * columns * count = omega arith in
      subst (λ k. (y * k + x) * count + count ≤ length flags) (sym same) (omega (arith, more, next, area, table))

  one : (a b : ℕ) → (let some : Option ℕ = Some a in some) ≡ Some b → a ≡ b
  one a b same = cc

  -- what is cut at one entry, for a side of windows and a number of columns
  abbrev IsEntry : List Bool → List Bool → Pin → ℕ → ℕ → ℕ → ℕ → ℕ → ℕ → Type 0
  IsEntry old new mark i j u v n across =
      u < starts output.width n output.wrap → (u + i) % output.width ≡ mark.column → (v + j) % output.height ≡ mark.row
      → ((x : ℕ) → x < starts output.width n output.wrap → (x + i) % output.width ≡ mark.column → (let some : Option ℕ = Some u in some) ≡ Some x)
      → ((y : ℕ) → y < starts output.height n output.wrap → (y + j) % output.height ≡ mark.row → (let some : Option ℕ = Some v in some) ≡ Some y)
      → length new ≡ length old
      → ((w : ℕ) → w < count → flag count new (v * across + u) w ≡ (flag count old (v * across + u) w && suits mark (slice_index (window_at patterns w) (j * n + i))))
      → ((k : ℕ) → (k < (v * across + u) * count) ⊎ ((v * across + u) * count + count ≤ k) → get_or new k false ≡ get_or old k false)
      → AreCut patterns output old new (λ place w. window_suits_at n output place w mark i j)

  -- the entry is cut, with the patterns' side and the places' columns by other names
  pub cut_entry_at : (old new : List Bool) (mark : Pin) (i j u v n across : ℕ) → n ≡ patterns.n → across ≡ starts output.width n output.wrap → IsEntry old new mark i j u v n across
  cut_entry_at old new mark i j u v n across n_is across_is =
      subst (λ k. IsEntry old new mark i j u v k across) (sym n_is)
      (subst (λ k. IsEntry old new mark i j u v patterns.n k) (sym (across_is ∙ ap (λ k. starts output.width k output.wrap) n_is))
      (λ u_in on_x on_y only_x only_y as_long here others.
      cut_at old new mark i j u v u_in on_x on_y (λ x x_in on. sym (one u x (only_x x x_in on))) (λ y y_in on. sym (one v y (only_y y y_in on))) as_long here others))

-- one number more of a range that passes a test
pub all_more : (p : ℕ → Bool) (n : ℕ) → list_all p (range_with_len 0 (n + 1)) ≡ (list_all p (range_with_len 0 n) && p n)
all_more p n = ap (list_all p) (one_more n) ∙ list_all-append p (range_with_len 0 n) (n ∷ []) ∙ ap (λ b. list_all p (range_with_len 0 n) && b) (and-true (p n))
