-- Where the faults of a header are: not before the part that lacks something, nor behind its gaps and digits.
use Rattle.std.proofs.Common.{◌≡◌, ℕ, ◌+◌, ◌<◌, ◌≤◌, ◌==◌, Bool, true, false, List, [], ◌∷◌, ◌++◌, length, take, drop, get_or, Option, None, Some, refl, sym, subst, ap, ◌∙◌, arith, if◌then◌else◌}
use Rattle.std.specs.List.{position_or_len}
use Rattle.std.specs.Option.{option_or}
use Rattle.std.proofs.lemmas.List.{get_or-drop, length-drop, length-take}
use Rattle.std.proofs.lemmas.List.Sums.{passes_at_first, position_or_len_is}
use Rattle.wfc_text.specs.Number.{is_other}
use Rattle.wfc_ppm.specs.Fault.{end_fault, ends_token, field_fault, header_fault, side_fault}
use Rattle.wfc_ppm.specs.Field.{SpaceEnd, behind_digits, behind_field, comment_behind, digits_of, field_value, is_space, place_of, start_of, stop_of}
use Rattle.wfc_ppm.specs.declared.reading.PpmForm.{PpmForm}
use Rattle.wfc_ppm.specs.declared.reading.PpmForm.TheVariants.{Raw, Plain}
use Rattle.wfc_ppm.specs.declared.reading.PpmFault.{PpmFault}
use Rattle.wfc_ppm.specs.declared.reading.PpmFault.TheVariants.{Header}
use Rattle.wfc_ppm.proofs.FieldLemmas.{Stops, length-digits}
use Rattle.wfc_ppm.proofs.GapLemmas.{Outside, outside, start-first, stop-other, stop-step}

-- ---- how long rests are

-- no more stands behind gaps than was there
pub rest_shorter : (opened : Bool) (text : List ℕ) → length (stop_of opened text).rest ≤ length text
rest_shorter opened [] = omega arith
rest_shorter opened (byte ∷ text) = by (comment_behind opened byte) refl (λ next. rest_shorter next text)
  where
    by : (found : Option Bool) → comment_behind opened byte ≡ found → ((next : Bool) → length (stop_of next text).rest ≤ length text) → length (stop_of opened (byte ∷ text)).rest ≤ length (byte ∷ text)
    by None e later = omega (arith, ap (λ (s : SpaceEnd). length s.rest) (stop-step opened byte text None e))
    by (Some next) e later = omega (arith, ap (λ (s : SpaceEnd). length s.rest) (stop-step opened byte text (Some next) e), later next)

pub behind_shorter : (text : List ℕ) → length (behind_field text) ≤ length text
behind_shorter text = omega (arith, rest_shorter false text, length-digits (start_of text))

-- behind digits stands no digit
pub behind_stops : (text : List ℕ) → Stops (behind_digits text)
behind_stops text = record {
  first = λ d some.
      let inside : position_or_len is_other text < length text = omega (arith, length-drop (position_or_len is_other text) text, some) in
      let at : get_or (behind_digits text) 0 d ≡ get_or text (position_or_len is_other text) d =
      get_or-drop (position_or_len is_other text) text 0 d ∙ ap (λ n. get_or text n d) (omega arith) in
      subst (λ b. is_other b ≡ true) (sym at) (passes_at_first is_other text d inside);
}

-- ---- a common front

-- a front that is longer than another has the next byte too
pub longer_front : (c z front : List ℕ) (byte : ℕ) (rest : List ℕ) → c ++ z ≡ front ++ byte ∷ rest → length front < length c
    → (more : List ℕ) × (c ≡ front ++ byte ∷ more) × (more ++ z ≡ rest)
longer_front [] z front byte rest is less = absurd (omega arith)
longer_front (x ∷ c) z [] byte rest is less = (c, ap (λ b. b ∷ c) (ap (λ l. get_or l 0 0) is), ap (drop 1) is)
longer_front (x ∷ c) z (y ∷ front) byte rest is less =
    let later = longer_front c z front byte rest (ap (drop 1) is) (omega arith) in
    (later.0, ap (λ b. b ∷ c) (ap (λ l. get_or l 0 0) is) ∙ ap (λ l. y ∷ l) later.1, later.2)

-- there is a fault
abbrev pub Found : Option PpmFault → Type 0
Found o = (fault : PpmFault) × (o ≡ Some fault)

pub found_first : (o p : Option PpmFault) → Found o → Found (option_or o p)
found_first o p (fault, is) = (fault, ap (λ q. option_or q p) is)

pub found_later : (o p : Option PpmFault) → Found p → Found (option_or o p)
found_later None p found = found
found_later (Some fault) p found = (fault, refl)

-- ---- no place before a text

place_in : (total : ℕ) (a b : List ℕ) (at : ℕ) → length a ≤ length b → place_of total a ≡ at → total ≤ at + length b
place_in total a b at less is = omega (arith, is)

pub field_place : (total : ℕ) (t : List ℕ) (at : ℕ) → field_fault total t ≡ Some (Header at) → total ≤ at + length t
field_place total t at fault = by (length (start_of t) == length t) (length (digits_of (start_of t)) == 0) fault
  where
    by : (same empty : Bool)
        → (if same then Some (Header (place_of total t)) else if empty then Some (Header (place_of total (start_of t))) else None) ≡ Some (Header at) → total ≤ at + length t
    by true empty found = let place : place_of total t ≡ at = cc in place_in total t t at (omega arith) place
    by false true found = let place : place_of total (start_of t) ≡ at = cc in place_in total (start_of t) t at (rest_shorter false t) place
    by false false found = absurd (cc)

pub side_place : (total : ℕ) (t : List ℕ) (at : ℕ) → side_fault total t ≡ Some (Header at) → total ≤ at + length t
side_place total t at fault = by (field_fault total t) refl (field_value t == 0) fault
  where
    by : (o : Option PpmFault) → field_fault total t ≡ o → (zero_side : Bool)
        → option_or o (if zero_side then Some (Header (place_of total (start_of t))) else None) ≡ Some (Header at) → total ≤ at + length t
    by (Some other) e zero_side found = field_place total t at (e ∙ found)
    by None e true found = let place : place_of total (start_of t) ≡ at = cc in place_in total (start_of t) t at (rest_shorter false t) place
    by None e false found = absurd (cc)

pub end_place : (form : PpmForm) (total : ℕ) (t : List ℕ) (at : ℕ) → end_fault form total t ≡ Some (Header at) → total ≤ at + length t
end_place Raw total [] at fault = let place : total ≡ at = cc in omega (arith, place)
end_place Raw total (byte ∷ t) at fault = by (is_space byte) fault
  where
    by : (space : Bool) → (if space then None else Some (Header (place_of total (byte ∷ t)))) ≡ Some (Header at) → total ≤ at + length (byte ∷ t)
    by true found = absurd (cc)
    by false found = let place : place_of total (byte ∷ t) ≡ at = cc in place_in total (byte ∷ t) (byte ∷ t) at (omega arith) place
end_place Plain total t at fault = by (length (start_of t) == length t) ((stop_of false t).cut) fault
  where
    by : (same opened : Bool) → (if same then Some (Header (place_of total t)) else if opened then Some (Header total) else None) ≡ Some (Header at) → total ≤ at + length t
    by true opened found = let place : place_of total t ≡ at = cc in place_in total t t at (omega arith) place
    by false true found = let place : total ≡ at = cc in omega (arith, place)
    by false false found = absurd (cc)

pub most_place : (form : PpmForm) (total : ℕ) (t : List ℕ) (at : ℕ) → option_or (field_fault total t) (end_fault form total (behind_field t)) ≡ Some (Header at) → total ≤ at + length t
most_place form total t at fault = by (field_fault total t) refl fault
  where
    by : (o : Option PpmFault) → field_fault total t ≡ o → option_or o (end_fault form total (behind_field t)) ≡ Some (Header at) → total ≤ at + length t
    by (Some other) e found = field_place total t at (e ∙ found)
    by None e found = omega (arith, end_place form total (behind_field t) at found, behind_shorter t)

pub high_place : (form : PpmForm) (total : ℕ) (t : List ℕ) (at : ℕ)
    → option_or (side_fault total t) (option_or (field_fault total (behind_field t)) (end_fault form total (behind_field (behind_field t)))) ≡ Some (Header at) → total ≤ at + length t
high_place form total t at fault = by (side_fault total t) refl fault
  where
    by : (o : Option PpmFault) → side_fault total t ≡ o → option_or o (option_or (field_fault total (behind_field t)) (end_fault form total (behind_field (behind_field t)))) ≡ Some (Header at) → total ≤ at + length t
    by (Some other) e found = side_place total t at (e ∙ found)
    by None e found = omega (arith, most_place form total (behind_field t) at found, behind_shorter t)

pub header_place : (form : PpmForm) (total : ℕ) (t : List ℕ) (at : ℕ) → header_fault form total t ≡ Some (Header at) → total ≤ at + length t
header_place form total t at fault = by (side_fault total t) refl fault
  where
    by : (o : Option PpmFault) → side_fault total t ≡ o
        → option_or o (option_or (side_fault total (behind_field t)) (option_or (field_fault total (behind_field (behind_field t))) (end_fault form total (behind_field (behind_field (behind_field t)))))) ≡ Some (Header at) → total ≤ at + length t
    by (Some other) e found = side_place total t at (e ∙ found)
    by None e found = omega (arith, high_place form total (behind_field t) at found, behind_shorter t)

-- ---- what is found where no gap or no digit stands

-- a text whose front is no gap
pub unmoved : (byte : ℕ) (text : List ℕ) → length (start_of (byte ∷ text)) ≡ length (byte ∷ text) → comment_behind false byte ≡ None
unmoved byte text same = by (comment_behind false byte) refl
  where
    by : (found : Option Bool) → comment_behind false byte ≡ found → comment_behind false byte ≡ None
    by None e = e
    by (Some next) e = absurd (omega (arith, same, ap (λ (s : SpaceEnd). length s.rest) (stop-step false byte text (Some next) e), rest_shorter next text))

pub unmoved_start : (byte : ℕ) (text : List ℕ) → comment_behind false byte ≡ None → length (start_of (byte ∷ text)) ≡ length (byte ∷ text)
unmoved_start byte text none = ap (λ (s : SpaceEnd). length s.rest) (stop-other byte text none)

-- the first byte behind gaps is no gap's
pub first_is : (t : List ℕ) (byte : ℕ) (rest : List ℕ) → start_of t ≡ byte ∷ rest → comment_behind false byte ≡ None
first_is t byte rest is = by (outside byte)
  where
    never : ends_token (byte ∷ []) ≡ true → ⊥
    never ends = omega (arith, ap length is, start-first t (ap ends_token is ∙ ends))

    by : Outside byte → comment_behind false byte ≡ None
    by (Outside.blank space behind ends) = absurd (never ends)
    by (Outside.mark same behind ends) = absurd (never ends)
    by (Outside.other behind ends) = behind

-- a first byte that is no digit
pub no_digit_first : (byte : ℕ) (text : List ℕ) → is_other byte ≡ true → length (digits_of (byte ∷ text)) ≡ 0
no_digit_first byte text other =
    let none : position_or_len is_other (byte ∷ text) ≡ 0 = position_or_len_is is_other (byte ∷ text) 0 0 (omega arith) (λ k less. absurd (omega arith)) (λ some. other) in
    ap (λ n. length (take n (byte ∷ text))) none

pub first_no_digit : (byte : ℕ) (text : List ℕ) → length (digits_of (byte ∷ text)) ≡ 0 → is_other byte ≡ true
first_no_digit byte text none =
    let place : position_or_len is_other (byte ∷ text) ≡ 0 = omega (arith, none, length-take (position_or_len is_other (byte ∷ text)) (byte ∷ text)) in
    ap (λ n. is_other (get_or (byte ∷ text) n 0)) (sym place) ∙ passes_at_first is_other (byte ∷ text) 0 (omega (arith, place))
