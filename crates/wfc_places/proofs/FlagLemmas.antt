-- Tables of flags from whose rows values are taken away.
use Rattle.std.proofs.Common.{◌≡◌, ◌≢◌, ℕ, ◌+◌, ◌*◌, ◌/◌, ◌%◌, ◌<◌, ◌≤◌, Bool, true, false, ◌&&◌, ◌⊎◌, inl, inr, List, length, get_or, set, map, refl, sym, ap, ◌∙◌, arith, zero-add, get_or-set_same, get_or-set_other, length-set, below_more}
use Rattle.std.specs.List.{flat_map, range_with_len}
use Rattle.std.proofs.lemmas.Bool.{cases_eq}
use Rattle.std.proofs.lemmas.List.{ext_get_or}
use Rattle.std.proofs.lemmas.List.FromFn.{length-map-range_with_len, get_or-map-range_with_len}
use Rattle.std.proofs.lemmas.Nat.{mul-add-lt}
use Rattle.wfc_lists.proofs.Rows.{apart_rows}
use Rattle.wfc_lists.proofs.Tables.{length-table, table-at}
use Rattle.wfc_model.proofs.CallerLemmas.{cell_is}
use Rattle.wfc_places.specs.Flags.{HasFlags, IsRowCut, flag}

-- ---- one row

-- the flags of a row from `first` on are cut up to the place v by what stays
pub record IsCutTo (old flags : List Bool) (first v : ℕ) (stays : ℕ → Bool) : Type 0 where
  pub as_long : length flags ≡ length old
  pub here : (w : ℕ) → w < v → get_or flags (first + w) false ≡ (get_or old (first + w) false && stays w)
  pub before : (k : ℕ) → k < first → get_or flags k false ≡ get_or old k false
  pub behind : (k : ℕ) → first + v ≤ k → get_or flags k false ≡ get_or old k false

-- before the first
pub cut_begins : (old : List Bool) (first : ℕ) (stays : ℕ → Bool) → IsCutTo old old first 0 stays
cut_begins old first stays = record { as_long = refl; here = λ w below. absurd (omega arith); before = λ k below. refl; behind = λ k past. refl }

-- one more
pub cut_on : (old flags : List Bool) (first v : ℕ) (stays : ℕ → Bool) (b : Bool) → IsCutTo old flags first v stays → first + v < length flags → b ≡ (get_or flags (first + v) false && stays v) → IsCutTo old (set flags (first + v) b) first (v + 1) stays
cut_on old flags first v stays b so_far inside is =
    let other : (k : ℕ) → k ≢ first + v → get_or (set flags (first + v) b) k false ≡ get_or flags k false = λ k apart. get_or-set_other flags (first + v) k b false apart in
    record {
      as_long = length-set flags (first + v) b ∙ so_far.as_long;
      here = below_more (λ w. get_or (set flags (first + v) b) (first + w) false ≡ (get_or old (first + w) false && stays w)) v
          (λ w below. other (first + w) (λ e. absurd (omega arith)) ∙ so_far.here w below)
          (get_or-set_same flags (first + v) b false inside ∙ is ∙ ap (λ f. f && stays v) (so_far.behind (first + v) (omega arith)));
      before = λ k below. other k (λ e. absurd (omega arith)) ∙ so_far.before k below;
      behind = λ k past. other k (λ e. absurd (omega arith)) ∙ so_far.behind k (omega arith);
    }

-- a row is cut once all its flags are
pub row_cut : (n : ℕ) (old new : List Bool) (cell : ℕ) (passes : ℕ → Bool) → IsCutTo old new (cell * n) n passes → IsRowCut n old new cell passes
row_cut n old new cell passes done = record { as_long = done.as_long; here = done.here; others = by }
  where
    by : (k : ℕ) → (k < cell * n) ⊎ (cell * n + n ≤ k) → get_or new k false ≡ get_or old k false
    by k (inl l) = done.before k l
    by k (inr l) = done.behind k l

-- ---- all rows

-- where all flags are set, and all values stay
pub all_flags : (n cells : ℕ) (flags : List Bool) (stays : ℕ → ℕ → Bool) → length flags ≡ cells * n → ((k : ℕ) → k < length flags → get_or flags k false ≡ true)
    → ((c v : ℕ) → stays c v ≡ true) → HasFlags n cells flags stays
all_flags n cells flags stays long set all = record {
  as_long = long;
  each = λ c v inside value. set (c * n + v) (omega (arith, long, mul-add-lt c n v cells inside value)) ∙ sym (all c v);
}

-- one row cut more
pub rows_cut : (n cells : ℕ) (old new : List Bool) (cell : ℕ) (passes : ℕ → Bool) (before after : ℕ → ℕ → Bool) → HasFlags n cells old before → IsRowCut n old new cell passes
    → ((v : ℕ) → after cell v ≡ (before cell v && passes v)) → ((c v : ℕ) → c < cells → c ≢ cell → after c v ≡ before c v) → HasFlags n cells new after
rows_cut n cells old new cell passes before after so_far cut same other = record { as_long = cut.as_long ∙ so_far.as_long; each = each }
  where
    each : (c v : ℕ) → c < cells → v < n → flag n new c v ≡ after c v
    each c v inside value = elim (cases_eq c cell) [
      | inl e ↦
          ap (λ k. flag n new k v) e ∙ cut.here v value ∙ ap (λ k. flag n old k v && passes v) (sym e)
          ∙ ap (λ b. b && passes v) (so_far.each c v inside value)
          ∙ ap (λ k. before k v && passes v) e
          ∙ sym (same v) ∙ ap (λ k. after k v) (sym e)
      | inr ne ↦ cut.others (c * n + v) (apart_rows n c cell v value ne) ∙ so_far.each c v inside value ∙ sym (other c v inside ne)
    ]

-- the flags are the table, row by row, of what stays
pub flags-table : (n : ℕ) (flags : List Bool) (places : List ℕ) (stays : ℕ → ℕ → Bool) → HasFlags n (length places) flags (λ c v. stays (get_or places c 0) v)
    → flags ≡ flat_map (λ p. map (λ v. stays p v) (range_with_len 0 n)) places
flags-table n flags places stays has =
    let row : ℕ → List Bool = λ p. map (λ v. stays p v) (range_with_len 0 n) in
    let each : (p : ℕ) → length (row p) ≡ n = λ p. length-map-range_with_len (λ v. stays p v) 0 n in
    let long : length (flat_map row places) ≡ length places * n = length-table row n each places in
    ext_get_or false flags (flat_map row places) (has.as_long ∙ sym long) (λ k inside.
    let at = cell_is n (length places) k (omega (arith, has.as_long)) in
    let c = k / n in
    let v = k % n in
    ap (λ m. get_or flags m false) (sym at.cell)
    ∙ has.each c v at.row at.column
    ∙ sym (get_or-map-range_with_len (λ v. stays (get_or places c 0) v) 0 n v v false at.column (zero-add v))
    ∙ sym (table-at row n each places c v 0 false at.row at.column)
    ∙ ap (λ m. get_or (flat_map row places) m false) at.cell)
