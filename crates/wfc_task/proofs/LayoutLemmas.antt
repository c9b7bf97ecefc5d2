-- What the layout of a map is, and the numbers of its rows.
use Rattle.std.proofs.Common.{Bool, Err, List, None, Ok, Option, Some, [], ap, arith, false, if◌then◌else◌, map, nat_lt, refl, subst, sym, true, ℕ, ◌∙◌, ◌∷◌, ◌≡◌}
use Rattle.std.proofs.lemmas.List.Elements.{All-append}
use Rattle.std.specs.List.{concat, list_any}
use Rattle.std.specs.Prelude.{All}
use Rattle.wfc_picture.specs.declared.symbol.Kind.{Kind}
use Rattle.wfc_picture.specs.declared.symbol.Kind.TheVariants as kinds
use Rattle.wfc_render.specs.Layout.{IsLayout, form_for, forms_of, layout_in, layout_of, pixel_count, same_form}
use Rattle.wfc_render.specs.declared.form.Form.{Form}
use Rattle.wfc_render.specs.declared.form.Form.TheVariants as form
use Rattle.wfc_render.specs.declared.form.Layout.{Layout}
use Rattle.wfc_render.specs.declared.form.RenderFault.TheVariants as fault
use Rattle.wfc_render.specs.declared.layouts.TheConstants.{MAX_MAP_PIXELS}

-- what the layout of a map is
pub record IsLaidOut (kind : Kind) (width height side : ℕ) (l : Layout) : Type 0 where
  pub layout : IsLayout l
  pub same_kind : l.kind ≡ kind
  pub width_is : l.width ≡ width
  pub height_is : l.height ≡ height
  pub side_is : l.side ≡ side

-- a form that a kind has can be asked for again
form_again : (kind : Kind) (asked : Option Form) (form : Form) → form_for kind asked ≡ Some form → form_for kind (Some form) ≡ Some form
form_again kinds.Grid None form.Grid is = refl
form_again kinds.Grid None form.Cells is = refl
form_again kinds.Grid None form.P6 is = absurd (cc)
form_again kinds.Grid None form.P3 is = absurd (cc)
form_again (kinds.Ppm maxval) None form.P6 is = refl
form_again (kinds.Ppm maxval) None form.P3 is = refl
form_again (kinds.Ppm maxval) None form.Cells is = refl
form_again (kinds.Ppm maxval) None form.Grid is = absurd (cc)
form_again kinds.Plain None form.Cells is = refl
form_again kinds.Plain None form.Grid is = absurd (cc)
form_again kinds.Plain None form.P6 is = absurd (cc)
form_again kinds.Plain None form.P3 is = absurd (cc)
form_again kind (Some wanted) form is = by_test (list_any (same_form wanted) (forms_of kind)) is
  where
    by_test : (there : Bool) → (if there then Some wanted else None) ≡ Some form → form_for kind (Some form) ≡ Some form
    by_test true same = let one : wanted ≡ form = cc (same) in ap (form_for kind) (ap (λ f. let form : Option Form = Some f in form) (sym one)) ∙ is
    by_test false same = absurd (cc)

-- a layout that is answered
pub laid_out : (kind : Kind) (asked : Option Form) (width height side : ℕ) (l : Layout) → layout_of kind asked width height side ≡ Ok l → IsLaidOut kind width height side l
laid_out kind asked width height side l is = by_form (form_for kind asked) refl is
  where
    made : Form → Layout
    made form = record { kind = kind; form = form; width = width; height = height; side = side }

    by_size : (form : Form) (large : Bool) → form_for kind (Some form) ≡ Some form → nat_lt MAX_MAP_PIXELS (pixel_count width height side) ≡ large
        → (if large then Err (fault.TooLarge (pixel_count width height side)) else Ok (made form)) ≡ Ok l → IsLaidOut kind width height side l
    by_size form true again large is = absurd (cc (is))
    by_size form false again small is =
        let same : made form ≡ l = cc (is) in
        let is_layout : IsLayout (made form)
        = ap (λ f. layout_in kind f width height side) again ∙ ap (λ b. if b then Err (fault.TooLarge (pixel_count width height side)) else Ok (made form)) small in
        subst (λ l. IsLaidOut kind width height side l) same (record { layout = is_layout; same_kind = refl; width_is = refl; height_is = refl; side_is = refl })

    by_form : (form : Option Form) → form_for kind asked ≡ form → layout_in kind form width height side ≡ Ok l → IsLaidOut kind width height side l
    by_form None was is = absurd (cc (is))
    by_form (Some form) was is = by_size form (nat_lt MAX_MAP_PIXELS (pixel_count width height side)) (form_again kind asked form was) refl is

-- what holds of each of several lists holds of them joined
pub each_joined : (P : ℕ → Type 0) (F : ℕ → List ℕ) → ((y : ℕ) → All P (F y)) → (ys : List ℕ) → All P (concat (map F ys))
each_joined P F each [] = λ k d inside. absurd (omega arith)
each_joined P F each (y ∷ ys) = All-append P (F y) (concat (map F ys)) (each y) (each_joined P F each ys)
