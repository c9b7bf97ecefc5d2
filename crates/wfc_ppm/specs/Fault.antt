-- The first fault of a text that is read as a picture.
use Rattle.std.specs.Prelude.{◌≡◌, ℕ, ◌+◌, ◌*◌, ◌==◌, Bool, true, false, not, ◌||◌, nat_lt, List, [], ◌∷◌, codes, length}
use Rattle.std.specs.Prelude.{take, drop, position, Option, None, Some, if◌then◌else◌, suc, zero}
use Rattle.std.specs.Option.{option_or}
use Rattle.std.specs.Str.{bytes_eq}
use Rattle.wfc_picture.specs.declared.palette.TheConstants.{MAX_PIXELS}
use Rattle.wfc_ppm.specs.Field.{is_space, start_of, stop_of, digits_of, field_value, behind_field, place_of}
use Rattle.wfc_ppm.specs.declared.reading.PpmForm.{PpmForm}
use Rattle.wfc_ppm.specs.declared.reading.PpmForm.TheVariants.{Raw, Plain}
use Rattle.wfc_ppm.specs.declared.reading.PpmFault.{PpmFault}
use Rattle.wfc_ppm.specs.declared.reading.PpmFault.TheVariants.{Header, Maxval, TooLarge, Truncated, SampleAboveMaxval, BadSample, Trailing}

-- the form that the first two bytes name
abbrev pub form_of : List ℕ → Option PpmForm
form_of text =
    if bytes_eq (take 2 text) (codes "P6") then Some Raw
    else if bytes_eq (take 2 text) (codes "P3") then Some Plain else None

-- what stands before the samples: the sides, maxval, and what follows its digits
pub record Head : Type 0 where
  pub width : ℕ
  pub height : ℕ
  pub maxval : ℕ
  pub rest : List ℕ

-- the three numbers behind the first two bytes
abbrev pub head_of : List ℕ → Head
head_of text = record {
  width = field_value (drop 2 text);
  height = field_value (behind_field (drop 2 text));
  maxval = field_value (behind_field (behind_field (drop 2 text)));
  rest = behind_field (behind_field (behind_field (drop 2 text)));
}

-- a number with whitespace or a comment before it should stand here: the fault at the byte where one of them does not
abbrev pub field_fault : ℕ → List ℕ → Option PpmFault
field_fault total text =
    if length (start_of text) == length text then Some (Header (place_of total text))
    else if length (digits_of (start_of text)) == 0
    then Some (Header (place_of total (start_of text))) else None

-- a side should stand here, and is not 0
abbrev pub side_fault : ℕ → List ℕ → Option PpmFault
side_fault total text =
    option_or (field_fault total text)
    (if field_value text == 0 then Some (Header (place_of total (start_of text))) else None)

-- one byte of whitespace should stand before raw samples
abbrev pub space_fault : ℕ → List ℕ → Option PpmFault
space_fault total [] = Some (Header total)
space_fault total (byte ∷ text) = if is_space byte then None else Some (Header (place_of total (byte ∷ text)))

-- whitespace or a comment should stand before samples in decimal, and no comment that the text's end cuts
abbrev pub gap_fault : ℕ → List ℕ → Option PpmFault
gap_fault total text =
    if length (start_of text) == length text then Some (Header (place_of total text))
    else if (stop_of false text).cut then Some (Header total) else None

-- what should stand between maxval and the samples
abbrev pub end_fault : PpmForm → ℕ → List ℕ → Option PpmFault
end_fault Raw total text = space_fault total text
end_fault Plain total text = gap_fault total text

-- the first fault of the header
abbrev pub header_fault : PpmForm → ℕ → List ℕ → Option PpmFault
header_fault form total text =
    option_or (side_fault total text)
    (option_or (side_fault total (behind_field text))
    (option_or (field_fault total (behind_field (behind_field text)))
    (end_fault form total (behind_field (behind_field (behind_field text))))))

-- the first fault of the header of a whole text
abbrev pub text_header_fault : PpmForm → List ℕ → Option PpmFault
text_header_fault form text = header_fault form (length text) (drop 2 text)

-- the first fault of a text's header stands at a place
abbrev pub HasHeaderFault : PpmForm → List ℕ → ℕ → Type 0
HasHeaderFault form text at = text_header_fault form text ≡ Some (Header at)

-- maxval is 1 to 65,535
abbrev pub maxval_fault : ℕ → Option PpmFault
maxval_fault maxval = if (maxval == 0) || nat_lt 65535 maxval then Some (Maxval maxval) else None

-- there are not too many pixels
abbrev pub pixel_count_fault : ℕ → ℕ → Option PpmFault
pixel_count_fault width height = if nat_lt MAX_PIXELS (width * height) then Some TooLarge else None

-- how many bytes a raw sample has
abbrev pub sample_size : ℕ → ℕ
sample_size maxval = if nat_lt maxval 256 then 1 else 2

-- the samples of two bytes each, the most significant first
abbrev pub pairs_of : List ℕ → List ℕ
pairs_of (high ∷ low ∷ bytes) = (high * 256 + low) ∷ pairs_of bytes
pairs_of _ = []

-- the samples that raw bytes are
abbrev pub raw_samples : ℕ → List ℕ → List ℕ
raw_samples maxval bytes = if nat_lt maxval 256 then bytes else pairs_of bytes

-- the first raw sample above maxval, at its first byte
abbrev pub above_fault : ℕ → ℕ → Option ℕ → Option PpmFault
above_fault at size None = None
above_fault at size (Some index) = Some (SampleAboveMaxval (at + index * size))

-- the fault of raw samples: too few bytes for so many, then a sample above maxval, then a byte too many
abbrev pub raw_fault : ℕ → ℕ → ℕ → List ℕ → Option PpmFault
raw_fault total maxval wanted bytes = if nat_lt (length bytes) wanted then Some (Truncated wanted (length bytes)) else
    option_or (above_fault (place_of total bytes) (sample_size maxval)
    (position (nat_lt maxval) (raw_samples maxval (take wanted bytes))))
    (if nat_lt wanted (length bytes) then Some (Trailing (place_of total bytes + wanted)) else None)

-- whether a token ends before this rest: at its end, at whitespace, or at a comment
abbrev pub ends_token : List ℕ → Bool
ends_token [] = true
ends_token (byte ∷ text) = is_space byte || (byte == 35)

-- a sample in decimal should stand here, behind so many others of those wanted
abbrev pub sample_fault : ℕ → ℕ → ℕ → ℕ → List ℕ → Option PpmFault
sample_fault total maxval wanted found text =
    if length (start_of text) == 0 then Some (Truncated wanted found)
    else if not (ends_token (behind_field text))
    then Some (BadSample (place_of total (start_of text)))
    else if nat_lt maxval (field_value text)
    then Some (SampleAboveMaxval (place_of total (start_of text))) else None

-- the three samples of a pixel should stand here
abbrev pub pixel_fault : ℕ → ℕ → ℕ → ℕ → List ℕ → Option PpmFault
pixel_fault total maxval wanted found text =
    option_or (sample_fault total maxval wanted found text)
    (option_or (sample_fault total maxval wanted (found + 1) (behind_field text))
    (sample_fault total maxval wanted (found + 2) (behind_field (behind_field text))))

-- what stands behind a pixel
abbrev pub behind_pixel : List ℕ → List ℕ
behind_pixel text = behind_field (behind_field (behind_field text))

-- behind the last sample only whitespace and comments stand
abbrev pub tail_fault : ℕ → List ℕ → Option PpmFault
tail_fault total text = if length (start_of text) == 0 then None else Some (Trailing (place_of total (start_of text)))

-- so many pixels should stand here, behind so many samples of those wanted, and nothing behind them
abbrev pub plain_fault : ℕ → ℕ → ℕ → ℕ → ℕ → List ℕ → Option PpmFault
plain_fault total maxval wanted found zero text = tail_fault total text
plain_fault total maxval wanted found (suc pixels) text =
    option_or (pixel_fault total maxval wanted found text)
    (plain_fault total maxval wanted (found + 3) pixels (behind_pixel text))

-- the fault of the samples
abbrev pub samples_fault : PpmForm → ℕ → Head → Option PpmFault
samples_fault Raw total head =
    raw_fault total head.maxval
    (head.width * head.height * 3 * sample_size head.maxval) (drop 1 head.rest)
samples_fault Plain total head =
    plain_fault total head.maxval (head.width * head.height * 3) 0
    (head.width * head.height) head.rest

-- the first fault of a text in this form
abbrev pub fault_of : PpmForm → List ℕ → Option PpmFault
fault_of form text =
    option_or (header_fault form (length text) (drop 2 text))
    (option_or (maxval_fault (head_of text).maxval)
    (option_or (pixel_count_fault (head_of text).width (head_of text).height)
    (samples_fault form (length text) (head_of text))))
