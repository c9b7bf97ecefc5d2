-- Headers as they are read step by step, and what is read behind them.
use Rattle.std.proofs.Common.{◌≡◌, ◌≢◌, ℕ, ◌<◌, ◌*◌, ◌≤◌, List, length, drop, get_or, sym, ap, ◌∙◌, Option, None, Some, Result, Ok, Err, inl, inr}
use Rattle.std.proofs.lemmas.List.{get_or_default}
use Rattle.std.specs.List.{All}
use Rattle.std.specs.Option.{option_or}
use Rattle.wfc_picture.specs.declared.symbol.Colour.{Colour}
use Rattle.wfc_ppm.specs.Fault.{Head, head_of, form_of, side_fault, field_fault, end_fault, header_fault, maxval_fault, pixel_count_fault, samples_fault, fault_of}
use Rattle.wfc_ppm.specs.Field.{behind_field, field_value}
use Rattle.wfc_ppm.specs.Ppm.{PpmView, IsPpm}
use Rattle.wfc_ppm.specs.Reading.{pixels_of, made_of, unless_ppm_fault, ppm_in, ppm_of}
use Rattle.wfc_ppm.specs.Spelling.{SpellsPpm}
use Rattle.wfc_ppm.specs.declared.reading.PpmForm.{PpmForm}
use Rattle.wfc_ppm.specs.declared.reading.PpmFault.{PpmFault}
use Rattle.wfc_ppm.specs.declared.reading.PpmFault.TheVariants.{NoMemory}
use Rattle.wfc_outside.specs.Gives.{Gives}
use Rattle.std.specs.Result.{IfOk, IfErr}
use Rattle.wfc_ppm.proofs.FaultLemmas.{samples_last, maxval_second, size_third}
use Rattle.wfc_ppm.proofs.PpmLemmas.{spelled-read, read-spelled}

-- the rests behind the magic, the width, the height and maxval
pub record Rests (bytes one two three four : List ℕ) : Type 0 where
  pub first : one ≡ drop 2 bytes
  pub second : two ≡ behind_field one
  pub third : three ≡ behind_field two
  pub fourth : four ≡ behind_field three

-- the fault of a header, by its last part
pub header-by : (form : PpmForm) (total : ℕ) (bytes one two three four : List ℕ) (found : Option PpmFault) → Rests bytes one two three four → side_fault total one ≡ None → side_fault total two ≡ None → field_fault total three ≡ None → end_fault form total four ≡ found → header_fault form total (drop 2 bytes) ≡ found
header-by form total bytes one two three four found rests wide high most last =
    sym (ap (header_fault form total) rests.first)
    ∙ ap (λ q. option_or q (option_or (side_fault total (behind_field one)) (option_or (field_fault total (behind_field (behind_field one))) (end_fault form total (behind_field (behind_field (behind_field one))))))) wide
    ∙ sym (ap (λ t. option_or (side_fault total t) (option_or (field_fault total (behind_field t)) (end_fault form total (behind_field (behind_field t))))) rests.second)
    ∙ ap (λ q. option_or q (option_or (field_fault total (behind_field two)) (end_fault form total (behind_field (behind_field two))))) high
    ∙ sym (ap (λ t. option_or (field_fault total t) (end_fault form total (behind_field t))) rests.third)
    ∙ ap (λ q. option_or q (end_fault form total (behind_field three))) most
    ∙ sym (ap (end_fault form total) rests.fourth)
    ∙ last

-- what is read of it
pub header-is : (bytes one two three four : List ℕ) (width height maxval : ℕ) → Rests bytes one two three four → width ≡ field_value one → height ≡ field_value two → maxval ≡ field_value three → record { width = width; height = height; maxval = maxval; rest = four } ≡ head_of bytes
header-is bytes one two three four width height maxval rests wide high most =
    let two_is : two ≡ behind_field (drop 2 bytes) = rests.second ∙ ap behind_field rests.first in
    let three_is : three ≡ behind_field (behind_field (drop 2 bytes)) = rests.third ∙ ap behind_field two_is in
    let four_is : four ≡ behind_field (behind_field (behind_field (drop 2 bytes))) = rests.fourth ∙ ap behind_field three_is in
    λ i. record { width = (wide ∙ ap field_value rests.first) i; height = (high ∙ ap field_value two_is) i; maxval = (most ∙ ap field_value three_is) i; rest = four_is i }

-- ---- the answer

-- a fault is answered
pub fault-answered : (form : PpmForm) (bytes : List ℕ) (fault : PpmFault) → fault_of form bytes ≡ Some fault → Err fault ≡ ppm_in (Some form) bytes
fault-answered form bytes fault is = sym (ap (λ f. unless_ppm_fault f (made_of form bytes)) is)

-- a text without a fault is answered with its picture
pub picture-answered : (form : PpmForm) (bytes : List ℕ) (head : Head) (pixels : List Colour) → head ≡ head_of bytes → header_fault form (length bytes) (drop 2 bytes) ≡ None → maxval_fault head.maxval ≡ None → pixel_count_fault head.width head.height ≡ None → samples_fault form (length bytes) head ≡ None → pixels ≡ pixels_of form head → Ok (record { width = head.width; height = head.height; maxval = head.maxval; pixels = pixels }) ≡ ppm_in (Some form) bytes
picture-answered form bytes head pixels is one two three four made =
    ap (λ (ps : List Colour). Ok (record { width = head.width; height = head.height; maxval = head.maxval; pixels = ps })) made
    ∙ ap (λ (h : Head). Ok (record { width = h.width; height = h.height; maxval = h.maxval; pixels = pixels_of form h })) is
    ∙ sym (ap (λ f. unless_ppm_fault f (made_of form bytes)) (no-fault form bytes head is one two three four))
  where
    no-fault : (form : PpmForm) (bytes : List ℕ) (head : Head) → head ≡ head_of bytes → header_fault form (length bytes) (drop 2 bytes) ≡ None → maxval_fault head.maxval ≡ None → pixel_count_fault head.width head.height ≡ None → samples_fault form (length bytes) head ≡ None → fault_of form bytes ≡ None
    no-fault form bytes head is one two three four =
        samples_last form bytes None one
        (sym (ap (λ (h : Head). maxval_fault h.maxval) is) ∙ two)
        (sym (ap (λ (h : Head). pixel_count_fault h.width h.height) is) ∙ three)
        (sym (ap (samples_fault form (length bytes)) is) ∙ four)

-- the faults behind a header
pub maxval-fault : (form : PpmForm) (bytes : List ℕ) (head : Head) (fault : PpmFault) → head ≡ head_of bytes → header_fault form (length bytes) (drop 2 bytes) ≡ None → maxval_fault head.maxval ≡ Some fault → Err fault ≡ ppm_in (Some form) bytes
maxval-fault form bytes head fault is one two = fault-answered form bytes fault (maxval_second form bytes fault one (sym (ap (λ (h : Head). maxval_fault h.maxval) is) ∙ two))

pub size-fault : (form : PpmForm) (bytes : List ℕ) (head : Head) (fault : PpmFault) → head ≡ head_of bytes → header_fault form (length bytes) (drop 2 bytes) ≡ None → maxval_fault head.maxval ≡ None → pixel_count_fault head.width head.height ≡ Some fault → Err fault ≡ ppm_in (Some form) bytes
size-fault form bytes head fault is one two three = fault-answered form bytes fault (size_third form bytes fault one (sym (ap (λ (h : Head). maxval_fault h.maxval) is) ∙ two) (sym (ap (λ (h : Head). pixel_count_fault h.width h.height) is) ∙ three))

pub samples-fault : (form : PpmForm) (bytes : List ℕ) (head : Head) (fault : PpmFault) → head ≡ head_of bytes → header_fault form (length bytes) (drop 2 bytes) ≡ None → maxval_fault head.maxval ≡ None → pixel_count_fault head.width head.height ≡ None → samples_fault form (length bytes) head ≡ Some fault → Err fault ≡ ppm_in (Some form) bytes
samples-fault form bytes head fault is one two three four =
    fault-answered form bytes fault
    (samples_last form bytes (Some fault) one
    (sym (ap (λ (h : Head). maxval_fault h.maxval) is) ∙ two)
    (sym (ap (λ (h : Head). pixel_count_fault h.width h.height) is) ∙ three)
    (sym (ap (samples_fault form (length bytes)) is) ∙ four))

-- ---- bytes

pub small-bytes : (bytes : List ℕ) → ((i : ℕ) → get_or bytes i 0 < 256) → All (λ b. b < 256) bytes
small-bytes bytes each k d inside = rw (get_or_default bytes k d 0 inside) (each k)

-- a picture that is answered is one
pub spelled-picture : (text : List ℕ) (ppm : PpmView) → SpellsPpm text ppm → IsPpm ppm
spelled-picture text ppm (inl raw) = raw.picture
spelled-picture text ppm (inr plain) = plain.picture

pub answered-spelled : (form : PpmForm) (bytes : List ℕ) (ppm : PpmView) → ((i : ℕ) → get_or bytes i 0 < 256) → form_of bytes ≡ Some form → Ok ppm ≡ ppm_in (Some form) bytes → SpellsPpm bytes ppm × (ppm.width * ppm.height ≤ 1048576)
answered-spelled form bytes ppm each formed answered = read-spelled bytes ppm (small-bytes bytes each) (ap (λ f. ppm_in f bytes) formed ∙ sym answered)

-- where a fault is answered, no picture is spelled within the limit
pub refused-all : (bytes : List ℕ) (fault : PpmFault) → Err fault ≡ ppm_of bytes → (ppm : PpmView) → SpellsPpm bytes ppm → ppm.width * ppm.height ≤ 1048576 → ⊥
refused-all bytes fault is ppm spelled within = let read = spelled-read bytes ppm spelled within in cc

-- the picture that is made where nothing has a fault
pub made-picture : (form : PpmForm) (bytes : List ℕ) (head : Head) (pixels : List Colour) → ((i : ℕ) → get_or bytes i 0 < 256) → form_of bytes ≡ Some form → head ≡ head_of bytes → header_fault form (length bytes) (drop 2 bytes) ≡ None → maxval_fault head.maxval ≡ None → pixel_count_fault head.width head.height ≡ None → samples_fault form (length bytes) head ≡ None → pixels ≡ pixels_of form head → IsPpm (record { width = head.width; height = head.height; maxval = head.maxval; pixels = pixels })
made-picture form bytes head pixels each formed is one two three four made =
    spelled-picture bytes (record { width = head.width; height = head.height; maxval = head.maxval; pixels = pixels })
    (answered-spelled form bytes (record { width = head.width; height = head.height; maxval = head.maxval; pixels = pixels }) each formed (picture-answered form bytes head pixels is one two three four made)).0

-- what is answered with a picture, and with a fault
pub gives-spelled : (form : PpmForm) (bytes : List ℕ) (result : Result PpmView PpmFault) → ((i : ℕ) → get_or bytes i 0 < 256) → form_of bytes ≡ Some form → Gives NoMemory (λ (p : PpmView). p) result (ppm_in (Some form) bytes) → IfOk result (λ ppm. SpellsPpm bytes ppm)
gives-spelled form bytes (Ok ppm) each formed (inl is) = (answered-spelled form bytes ppm each formed is).0
gives-spelled form bytes (Ok ppm) each formed (inr short) = absurd (cc)
gives-spelled form bytes (Err fault) each formed gives = tt

pub gives-refused : (form : PpmForm) (bytes : List ℕ) (result : Result PpmView PpmFault) → form_of bytes ≡ Some form → Gives NoMemory (λ (p : PpmView). p) result (ppm_in (Some form) bytes) → IfErr result (λ fault. fault ≢ NoMemory → (ppm : PpmView) → SpellsPpm bytes ppm → ppm.width * ppm.height ≤ 1048576 → ⊥)
gives-refused form bytes (Ok ppm) formed gives = tt
gives-refused form bytes (Err fault) formed (inl is) = λ other. refused-all bytes fault (is ∙ sym (ap (λ f. ppm_in f bytes) formed))
gives-refused form bytes (Err fault) formed (inr short) = λ other. absurd (other (cc))
