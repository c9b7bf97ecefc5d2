-- Writing the rows of a grid one after another.
use Rattle.std.proofs.Common.{◌≡◌, ℕ, ◌+◌, ◌*◌, ◌/◌, ◌<◌, List, [], ◌∷◌, ◌++◌, length, refl, sym, ap, ◌∙◌, append_assoc, append-nil, length-append, arith}
use Rattle.std.proofs.lemmas.List.{nil_from_length}
use Rattle.std.proofs.lemmas.List.Elements.{All-from_recursion}
use Rattle.std.proofs.lemmas.Nat.{div-mul-add}
use Rattle.std.specs.List.{AllByRecursion, concat}
use Rattle.wfc_model.specs.Raster.{Raster, raster_of, IsSized}
use Rattle.wfc_model.proofs.CallerLemmas.{raster_of-numbers_of, length-joined}
use Rattle.wfc_grid.specs.Grid.{GridView, IsGrid, raster_of_grid}
use Rattle.wfc_grid.specs.Spelling.{grid_text}

-- the text has the first rows of the grid, and the rest are its other bytes
pub record Written (g : GridView) (text rest : List ℕ) : Type 0 where
  pub done : List (List ℕ)
  pub fit : AllByRecursion (λ (row : List ℕ). length row ≡ g.width) done
  pub cut : concat done ++ rest ≡ g.bytes
  pub is : text ≡ grid_text done

pub none_written : (g : GridView) → Written g [] g.bytes
none_written g = record { done = []; fit = tt; cut = refl; is = refl }

fit-push : (width : ℕ) (rows : List (List ℕ)) (row : List ℕ) → AllByRecursion (λ (r : List ℕ). length r ≡ width) rows → length row ≡ width → AllByRecursion (λ (r : List ℕ). length r ≡ width) (rows ++ row ∷ [])
fit-push width [] row fit long = (long, tt)
fit-push width (r ∷ rows) row fit long = (fit.0, fit-push width rows row fit.1 long)

concat-push : (rows : List (List ℕ)) (row : List ℕ) → concat (rows ++ row ∷ []) ≡ concat rows ++ row
concat-push [] row = append-nil row
concat-push (r ∷ rows) row = ap (λ t. r ++ t) (concat-push rows row) ∙ sym (append_assoc r (concat rows) row)

grid_text-push : (rows : List (List ℕ)) (row : List ℕ) → grid_text (rows ++ row ∷ []) ≡ (grid_text rows ++ row) ++ 10 ∷ []
grid_text-push [] row = refl
grid_text-push (r ∷ rows) row =
    ap (λ t. r ++ 10 ∷ t) (grid_text-push rows row)
    ∙ sym (append_assoc r (10 ∷ (grid_text rows ++ row)) (10 ∷ []))
    ∙ ap (λ t. t ++ 10 ∷ []) (sym (append_assoc r (10 ∷ grid_text rows) row))

-- one row more
pub more_written : (g : GridView) (text rest row left : List ℕ) → Written g text rest → rest ≡ row ++ left → length row ≡ g.width → Written g ((text ++ row) ++ 10 ∷ []) left
more_written g text rest row left written next long = record {
  done = written.done ++ row ∷ [];
  fit = fit-push g.width written.done row written.fit long;
  cut =
      ap (λ t. t ++ left) (concat-push written.done row)
      ∙ append_assoc (concat written.done) row left
      ∙ ap (λ t. concat written.done ++ t) (sym next)
      ∙ written.cut;
  is = ap (λ t. (t ++ row) ++ 10 ∷ []) written.is ∙ sym (grid_text-push written.done row);
}

-- how often a width fits into whole rows and less than a row
whole_rows : (width done high left : ℕ) → left < width → width * done + left ≡ width * high → (done ≡ high) × (left ≡ 0)
whole_rows width done high left short is =
    let same : done ≡ high =
    sym (div-mul-add done width left short)
    ∙ ap (λ n. n / width) (omega (arith, is))
    ∙ div-mul-add high width 0 (omega arith) in
    (same, omega (arith, ap (λ n. width * n) same))

-- where less than a row is left, the text is that of the grid
pub all_written : (g : GridView) (text rest : List ℕ) → IsGrid g → Written g text rest → length rest < g.width → text ≡ grid_text (raster_of_grid g).rows
all_written g text rest is written short =
    let counts = whole_rows g.width (length written.done) g.height (length rest) short
    (ap (λ n. n + length rest) (sym (length-joined g.width written.done written.fit)) ∙ sym (length-append (concat written.done) rest) ∙ ap length written.cut ∙ is.filled.as_many) in
    let all : concat written.done ≡ g.bytes = sym (append-nil (concat written.done)) ∙ ap (λ t. concat written.done ++ t) (sym (nil_from_length rest counts.1)) ∙ written.cut in
    let sized : IsSized (record { width = g.width; rows = written.done }) g.width g.height = record {
      raster = record { some_column = is.filled.some_column; some_row = omega (arith, is.filled.some_row, counts.0); rows_fit = All-from_recursion (λ (row : List ℕ). length row ≡ g.width) written.done written.fit };
      same_width = refl;
      same_height = counts.0;
    } in
    written.is
    ∙ ap grid_text (sym (ap (λ (m : Raster). m.rows) (raster_of-numbers_of (record { width = g.width; rows = written.done }) g.width g.height sized)))
    ∙ ap (λ bytes. grid_text (raster_of g.width g.height bytes).rows) all
