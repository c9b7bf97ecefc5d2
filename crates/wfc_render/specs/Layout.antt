-- Layouts: which forms a kind of sample has, and what is written of a map.
use Rattle.std.specs.Prelude.{◌≡◌, ℕ, ◌*◌, Bool, true, false, nat_lt, List, [], ◌∷◌, slice_get}
use Rattle.std.specs.Prelude.{Option, None, Some, Result, Ok, Err, if◌then◌else◌}
use Rattle.std.specs.List.{list_any}
use Rattle.wfc_picture.specs.declared.symbol.Kind.{Kind}
use Rattle.wfc_picture.specs.declared.symbol.Kind.TheVariants as kinds
use Rattle.wfc_render.specs.declared.form.Form.{Form}
use Rattle.wfc_render.specs.declared.form.Form.TheVariants.{P6, P3, Grid, Cells}
use Rattle.wfc_render.specs.declared.form.Layout.{Layout}
use Rattle.wfc_render.specs.declared.form.RenderFault.{RenderFault}
use Rattle.wfc_render.specs.declared.form.RenderFault.TheVariants.{FormDiffers, TooLarge}
use Rattle.wfc_render.specs.declared.layouts.TheConstants.{MAX_MAP_PIXELS}

-- the forms that a kind has, the one that nobody has to ask for first
abbrev pub forms_of : Kind → List Form
forms_of kinds.Grid = Grid ∷ Cells ∷ []
forms_of (kinds.Ppm maxval) = P6 ∷ P3 ∷ Cells ∷ []
forms_of kinds.Plain = Cells ∷ []

-- whether two forms are one
abbrev pub same_form : Form → Form → Bool
same_form P6 P6 = true
same_form P3 P3 = true
same_form Grid Grid = true
same_form Cells Cells = true
same_form _ _ = false

-- the form that is asked for, or the first one, if the kind has it
abbrev pub form_for : Kind → Option Form → Option Form
form_for kind None = slice_get (forms_of kind) 0
form_for kind (Some form) = if list_any (same_form form) (forms_of kind) then Some form else None

-- how many pixels a map of so many tiles has, whose side is so long
abbrev pub pixel_count : ℕ → ℕ → ℕ → ℕ
pixel_count width height side = (width * height) * (side * side)

-- the layout, unless it has too many pixels
abbrev pub unless_large : Layout → ℕ → Result Layout RenderFault
unless_large layout pixels = if nat_lt MAX_MAP_PIXELS pixels then Err (TooLarge pixels) else Ok layout

-- the layout in this form, if there is one
abbrev pub layout_in : Kind → Option Form → ℕ → ℕ → ℕ → Result Layout RenderFault
layout_in kind None width height side = Err FormDiffers
layout_in kind (Some form) width height side =
    unless_large (record { kind = kind; form = form; width = width; height = height; side = side })
    (pixel_count width height side)

-- the layout of a map of so many pixels or tiles in the form that is asked for, or why it has none
abbrev pub layout_of : Kind → Option Form → ℕ → ℕ → ℕ → Result Layout RenderFault
layout_of kind form width height side = layout_in kind (form_for kind form) width height side

-- a layout that is answered for its own kind, form and sides
abbrev pub IsLayout : Layout → Type 0
IsLayout l = layout_of l.kind (Some l.form) l.width l.height l.side ≡ Ok l
