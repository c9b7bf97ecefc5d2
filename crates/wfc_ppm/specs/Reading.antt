-- What reading a text as a picture answers.
use Rattle.std.specs.Prelude.{ℕ, ◌*◌, List, [], ◌∷◌, take, drop, Option, None, Some, Result, Ok, Err, suc, zero}
use Rattle.wfc_picture.specs.declared.symbol.Colour.{Colour}
use Rattle.wfc_ppm.specs.Fault.{Head, head_of, form_of, fault_of, raw_samples, sample_size, behind_pixel}
use Rattle.wfc_ppm.specs.Field.{field_value, behind_field}
use Rattle.wfc_ppm.specs.Ppm.{PpmView}
use Rattle.wfc_ppm.specs.declared.reading.PpmForm.{PpmForm}
use Rattle.wfc_ppm.specs.declared.reading.PpmForm.TheVariants.{Raw, Plain}
use Rattle.wfc_ppm.specs.declared.reading.PpmFault.{PpmFault}
use Rattle.wfc_ppm.specs.declared.reading.PpmFault.TheVariants.{Magic}

-- the pixels of samples: red, green, blue
abbrev pub colours_of : List ℕ → List Colour
colours_of (red ∷ green ∷ blue ∷ samples) = record { r = red; g = green; b = blue } ∷ colours_of samples
colours_of _ = []

-- the pixel that three numbers make
abbrev pub plain_pixel : List ℕ → Colour
plain_pixel text = record { r = field_value text; g = field_value (behind_field text); b = field_value (behind_field (behind_field text)) }

-- so many pixels in decimal
abbrev pub plain_pixels : ℕ → List ℕ → List Colour
plain_pixels zero text = []
plain_pixels (suc pixels) text = plain_pixel text ∷ plain_pixels pixels (behind_pixel text)

-- the pixels behind the header
abbrev pub pixels_of : PpmForm → Head → List Colour
pixels_of Raw head = colours_of (raw_samples head.maxval (take (head.width * head.height * 3 * sample_size head.maxval) (drop 1 head.rest)))
pixels_of Plain head = plain_pixels (head.width * head.height) head.rest

-- the picture that a text without a fault makes
abbrev pub made_of : PpmForm → List ℕ → PpmView
made_of form text = record {
  width = (head_of text).width;
  height = (head_of text).height;
  maxval = (head_of text).maxval;
  pixels = pixels_of form (head_of text);
}

-- the picture, or the fault if there is one
abbrev pub unless_ppm_fault : Option PpmFault → PpmView → Result PpmView PpmFault
unless_ppm_fault None ppm = Ok ppm
unless_ppm_fault (Some fault) ppm = Err fault

-- the picture of a text in this form, or its first fault
abbrev pub ppm_in : Option PpmForm → List ℕ → Result PpmView PpmFault
ppm_in None text = Err Magic
ppm_in (Some form) text = unless_ppm_fault (fault_of form text) (made_of form text)

-- the picture that the text spells, or its first fault
abbrev pub ppm_of : List ℕ → Result PpmView PpmFault
ppm_of text = ppm_in (form_of text) text
