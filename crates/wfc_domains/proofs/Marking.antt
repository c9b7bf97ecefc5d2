-- Marks put beside counts.
use Rattle.std.proofs.Common.{◌≡◌, ℕ, ◌+◌, ◌-◌, ◌*◌, ◌%◌, ◌<◌, refl, sym, ◌∙◌, ap, arith, inl, inr, ◌≢◌, length, set}
use Rattle.std.specs.Prelude.{slice_index}
use Rattle.std.proofs.lemmas.Bool.{cases_lt}
use Rattle.std.proofs.lemmas.List.{get_or-set_same, get_or-set_other}
use Rattle.std.proofs.lemmas.Nat.{same_from_place}
use Rattle.std.proofs.Math.Nat.{mod-lt}
use Rattle.wfc_domains.specs.Changes.{marked_entry, plain_entry, AreChanged}
use Rattle.wfc_domains.specs.Counters.{Table, Marks, Unmarks, count_place, with_count, entry_of}
use Rattle.wfc_domains.specs.Forms.{table_with}
use Rattle.wfc_domains.specs.Singles.{LimitedEntries}

-- an entry that was set, and the others
pub entry-same : (T : Table) (n w d x c v e : ℕ) → count_place T.values T.dirs c v e ≡ count_place T.values T.dirs n w d → count_place T.values T.dirs n w d < length T.counts → entry_of (with_count T n w d x) c v e ≡ x
entry-same T n w d x c v e same inside = ap (slice_index (set T.counts (count_place T.values T.dirs n w d) x)) same ∙ get_or-set_same T.counts (count_place T.values T.dirs n w d) x 0 inside

pub entry-other : (T : Table) (n w d x c v e : ℕ) → count_place T.values T.dirs c v e ≢ count_place T.values T.dirs n w d → entry_of (with_count T n w d x) c v e ≡ entry_of T c v e
entry-other T n w d x c v e ne = get_or-set_other T.counts (count_place T.values T.dirs n w d) (count_place T.values T.dirs c v e) x 0 ne

-- the remainder of a remainder, and of one with a mark
mod-small : (x : ℕ) → x < 32768 → x % 32768 ≡ x
mod-small x l = omega arith

marked-count : (x : ℕ) → (x % 32768 + 32768) % 32768 ≡ x % 32768
marked-count x = let l : x % 32768 < 32768 = mod-lt x (omega arith) in omega arith

plain-count : (x : ℕ) → x % 32768 % 32768 ≡ x % 32768
plain-count x = let l : x % 32768 < 32768 = mod-lt x (omega arith) in mod-small (x % 32768) l

-- entries marked from that of a value's first direction on, one for each direction
pub marks_changed : (cells values dirs : ℕ) (e e' : LimitedEntries) (start cell value : ℕ) → start ≡ count_place values dirs cell value 0 → cell < cells → value < values → e'.limit ≡ e.limit
    → AreChanged marked_entry e.entries e'.entries start dirs → Marks (table_with cells values dirs e) (table_with cells values dirs e') cell value
marks_changed cells values dirs e e' start cell value at hc hv limits h = record {
  same_cells = refl;
  same_values = refl;
  same_dirs = refl;
  same_limit = limits;
  same_length = h.same_length;
  counts = λ c v d.
      let p = count_place values dirs c v d in
      elim (cases_lt p start) [
        | inl l ↦ ap (λ x. x % 32768) (h.below p l)
        | inr after ↦ elim (cases_lt p (start + dirs)) [
          | inl l ↦
              let is : start + (p - start) ≡ p = omega (arith, after) in
              ap (λ j. slice_index e'.entries j % 32768) (sym is)
              ∙ ap (λ x. x % 32768) (h.changed (p - start) (omega (arith, after, l)))
              ∙ marked-count (slice_index e.entries (start + (p - start)))
              ∙ ap (λ j. slice_index e.entries j % 32768) is
          | inr l ↦ ap (λ x. x % 32768) (h.behind p l)
        ]
      ];
  marks = λ c v d hv' hd m.
      let p = count_place values dirs c v d in
      elim (cases_lt p start) [
        | inl l ↦ inl (omega (arith, m, h.below p l))
        | inr after ↦ elim (cases_lt p (start + dirs)) [
          | inl l ↦
              let outer = same_from_place (c * values + v) d (cell * values + value) (p - start) dirs hd (omega (arith, after, l)) (omega (arith, after, at)) in
              inr (same_from_place c v cell value values hv' hv outer.0)
          | inr l ↦ inl (omega (arith, m, h.behind p l))
        ]
      ];
}

-- entries of which the marks were taken
pub unmarks_changed : (cells values dirs : ℕ) (e e' : LimitedEntries) (start cell value : ℕ) → start ≡ count_place values dirs cell value 0 → e'.limit ≡ e.limit
    → AreChanged plain_entry e.entries e'.entries start dirs → Unmarks (table_with cells values dirs e) (table_with cells values dirs e') cell value dirs
unmarks_changed cells values dirs e e' start cell value at limits h = record {
  same_cells = refl;
  same_values = refl;
  same_dirs = refl;
  same_limit = limits;
  same_length = h.same_length;
  counts = λ c v d.
      let p = count_place values dirs c v d in
      elim (cases_lt p start) [
        | inl l ↦ ap (λ x. x % 32768) (h.below p l)
        | inr after ↦ elim (cases_lt p (start + dirs)) [
          | inl l ↦
              let is : start + (p - start) ≡ p = omega (arith, after) in
              ap (λ j. slice_index e'.entries j % 32768) (sym is)
              ∙ ap (λ x. x % 32768) (h.changed (p - start) (omega (arith, after, l)))
              ∙ plain-count (slice_index e.entries (start + (p - start)))
              ∙ ap (λ j. slice_index e.entries j % 32768) is
          | inr l ↦ ap (λ x. x % 32768) (h.behind p l)
        ]
      ];
  marks = λ c v d m.
      let p = count_place values dirs c v d in
      elim (cases_lt p start) [
        | inl l ↦ omega (arith, m, h.below p l)
        | inr after ↦ elim (cases_lt p (start + dirs)) [
          | inl l ↦
              let is : start + (p - start) ≡ p = omega (arith, after) in
              let plain = ap (slice_index e'.entries) (sym is) ∙ h.changed (p - start) (omega (arith, after, l)) in
              absurd (omega (arith, m, plain))
          | inr l ↦ omega (arith, m, h.behind p l)
        ]
      ];
  cleared = λ d l m.
      let is : start + d ≡ count_place values dirs cell value d = omega (arith, at) in
      let plain = ap (slice_index e'.entries) (sym is) ∙ h.changed d l in
      omega (arith, m, plain);
}

-- where no count is marked, no mark is taken
pub unmarks_none : (T : Table) (cell value k : ℕ) → ((i : ℕ) → slice_index T.counts i < 32768) → Unmarks T T cell value k
unmarks_none T cell value k plain = record {
  same_cells = refl;
  same_values = refl;
  same_dirs = refl;
  same_limit = refl;
  same_length = refl;
  counts = λ c v d. refl;
  marks = λ c v d m. m;
  cleared = λ d l m. omega (arith, m, plain (count_place T.values T.dirs cell value d));
}

-- none put
pub marks_none : (T : Table) (cell value : ℕ) → Marks T T cell value
marks_none T cell value = record {
  same_cells = refl;
  same_values = refl;
  same_dirs = refl;
  same_limit = refl;
  same_length = refl;
  counts = λ c v d. refl;
  marks = λ c v d hv hd m. inl m;
}
