-- The texts of a map without a layout.
use Rattle.std.specs.Prelude.{ℕ, List, ◌++◌, codes, decimal}
use Rattle.wfc_render.specs.declared.form.RenderFault.{RenderFault}
use Rattle.wfc_render.specs.declared.form.RenderFault.TheVariants as faults

-- why a map cannot be written: its kind of sample has no such form, or it has too many pixels
abbrev pub text_of_render : RenderFault → List ℕ
text_of_render faults.FormDiffers = codes "render FormDiffers"
text_of_render (faults.TooLarge pixels) = codes "render TooLarge pixels=" ++ decimal pixels
