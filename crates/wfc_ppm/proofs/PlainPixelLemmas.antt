-- Pixels in decimal, one after another.
use Rattle.std.proofs.Common.{◌≡◌, ℕ, ◌+◌, ◌*◌, ◌-◌, ◌<◌, ◌≤◌, List, [], ◌∷◌, ◌++◌, sym, ap, ◌∙◌, append_assoc, append-nil, arith, suc, Option, None, Some}
use Rattle.std.specs.Option.{option_or}
use Rattle.wfc_picture.specs.declared.symbol.Colour.{Colour}
use Rattle.wfc_ppm.specs.Fault.{pixel_fault, behind_pixel, tail_fault, plain_fault}
use Rattle.wfc_ppm.specs.Reading.{plain_pixel, plain_pixels}
use Rattle.wfc_ppm.specs.declared.reading.PpmFault.{PpmFault}

one_less : (count i : ℕ) → i < count → count - i ≡ suc (count - (i + 1))
one_less count i inside = omega arith

-- a pixel more before those that are left
pub plain-more : (count i : ℕ) (pixels made all : List Colour) (rest behind : List ℕ) (pixel : Colour) → i < count → pixels ++ plain_pixels (count - i) rest ≡ all → pixel ≡ plain_pixel rest → behind ≡ behind_pixel rest → made ≡ pixels ++ pixel ∷ [] → made ++ plain_pixels (count - (i + 1)) behind ≡ all
plain-more count i pixels made all rest behind pixel inside so_far is next push =
    ap (λ m. m ++ plain_pixels (count - (i + 1)) behind) push
    ∙ append_assoc pixels (pixel ∷ []) (plain_pixels (count - (i + 1)) behind)
    ∙ ap (λ t. pixels ++ pixel ∷ plain_pixels (count - (i + 1)) t) next
    ∙ ap (λ (p : Colour). pixels ++ p ∷ plain_pixels (count - (i + 1)) (behind_pixel rest)) is
    ∙ ap (λ n. pixels ++ plain_pixels n rest) (sym (one_less count i inside))
    ∙ so_far

-- what is to come, by whether the pixel here has a fault
pub fault-more : (total maxval wanted count i : ℕ) (rest : List ℕ) (all : Option PpmFault) → i < count → plain_fault total maxval wanted (i * 3) (count - i) rest ≡ all → option_or (pixel_fault total maxval wanted (i * 3) rest) (plain_fault total maxval wanted ((i + 1) * 3) (count - (i + 1)) (behind_pixel rest)) ≡ all
fault-more total maxval wanted count i rest all inside so_far =
    let three : (i + 1) * 3 ≡ i * 3 + 3 = omega arith in
    ap (λ n. option_or (pixel_fault total maxval wanted (i * 3) rest) (plain_fault total maxval wanted n (count - (i + 1)) (behind_pixel rest))) three
    ∙ ap (λ n. plain_fault total maxval wanted (i * 3) n rest) (sym (one_less count i inside))
    ∙ so_far

pub fault-next : (total maxval wanted count i : ℕ) (rest behind : List ℕ) (all : Option PpmFault) → i < count → plain_fault total maxval wanted (i * 3) (count - i) rest ≡ all → pixel_fault total maxval wanted (i * 3) rest ≡ None → behind ≡ behind_pixel rest → plain_fault total maxval wanted ((i + 1) * 3) (count - (i + 1)) behind ≡ all
fault-next total maxval wanted count i rest behind all inside so_far none next =
    ap (plain_fault total maxval wanted ((i + 1) * 3) (count - (i + 1))) next
    ∙ sym (ap (λ q. option_or q (plain_fault total maxval wanted ((i + 1) * 3) (count - (i + 1)) (behind_pixel rest))) none)
    ∙ fault-more total maxval wanted count i rest all inside so_far

pub fault-here : (total maxval wanted count i : ℕ) (rest : List ℕ) (all : Option PpmFault) (fault : PpmFault) → i < count → plain_fault total maxval wanted (i * 3) (count - i) rest ≡ all → pixel_fault total maxval wanted (i * 3) rest ≡ Some fault → all ≡ Some fault
fault-here total maxval wanted count i rest all fault inside so_far is =
    sym (fault-more total maxval wanted count i rest all inside so_far)
    ∙ ap (λ q. option_or q (plain_fault total maxval wanted ((i + 1) * 3) (count - (i + 1)) (behind_pixel rest))) is

-- behind the last pixel
no_more : (count i : ℕ) → count ≤ i → count - i ≡ 0
no_more count i past = omega arith

pub fault-end : (total maxval wanted count i : ℕ) (rest : List ℕ) (all : Option PpmFault) → count ≤ i → plain_fault total maxval wanted (i * 3) (count - i) rest ≡ all → tail_fault total rest ≡ all
fault-end total maxval wanted count i rest all past so_far = sym (ap (λ n. plain_fault total maxval wanted (i * 3) n rest) (no_more count i past)) ∙ so_far

pub pixels-end : (count i : ℕ) (pixels all : List Colour) (rest : List ℕ) → count ≤ i → pixels ++ plain_pixels (count - i) rest ≡ all → pixels ≡ all
pixels-end count i pixels all rest past so_far = sym (append-nil pixels) ∙ sym (ap (λ n. pixels ++ plain_pixels n rest) (no_more count i past)) ∙ so_far
