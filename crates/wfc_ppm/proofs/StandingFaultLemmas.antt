-- A fault of the header stands, whatever follows the byte where it is found, or the digits there and the byte behind them.
use Rattle.std.proofs.Common.{◌≡◌, ◌≢◌, ℕ, suc, ◌+◌, ◌<◌, ◌≤◌, ◌==◌, Bool, true, false, List, [], ◌∷◌, ◌++◌, length, drop, get_or, min, Option, None, Some, refl, sym, subst, ap, ◌∙◌, arith, append_assoc, length-append, if◌then◌else◌, eqb-true, eq-eqb}
use Rattle.std.specs.List.{concat}
use Rattle.std.specs.Option.{option_or}
use Rattle.std.proofs.lemmas.List.{length-drop, drop_at}
use Rattle.wfc_text.specs.Number.{is_other}
use Rattle.wfc_ppm.specs.Fault.{end_fault, field_fault, gap_fault, header_fault, side_fault}
use Rattle.wfc_ppm.specs.Field.{SpaceEnd, behind_field, comment_behind, digits_of, field_value, is_space, place_of, start_of, stop_of}
use Rattle.wfc_ppm.specs.Spelling.{IsField}
use Rattle.wfc_ppm.specs.declared.reading.PpmForm.{PpmForm}
use Rattle.wfc_ppm.specs.declared.reading.PpmForm.TheVariants.{Raw, Plain}
use Rattle.wfc_ppm.specs.declared.reading.PpmFault.{PpmFault}
use Rattle.wfc_ppm.specs.declared.reading.PpmFault.TheVariants.{Header}
use Rattle.wfc_ppm.proofs.FaultPlaceLemmas.{Found, behind_stops, end_place, first_is, first_no_digit, found_first, found_later, header_place, high_place, longer_front, most_place, no_digit_first, rest_shorter, unmoved, unmoved_start}
use Rattle.wfc_ppm.proofs.FieldLemmas.{Stops, StandsField, field-reads, length-digits, no-digits, no_digit_fault, no_fault-stands, no_gap_fault, written_value}
use Rattle.wfc_ppm.proofs.GapLemmas.{parts-whole, stop-gaps, stop-other}

-- ---- each part of the header

-- the first fault behind the width
abbrev later : PpmForm → ℕ → List ℕ → Option PpmFault
later form total t = option_or (side_fault total t) (option_or (field_fault total (behind_field t)) (end_fault form total (behind_field (behind_field t))))

module _ (text : List ℕ) (at : ℕ) (z other : List ℕ) (total : ℕ) where
  -- where the digits at the place end
  abbrev pub reach : ℕ
  reach = at + length (digits_of (drop at text))

  -- no gap stands there
  no_gap_stays : (front c : List ℕ) → text ≡ front ++ (c ++ z) → reach < length front + length c → place_of (length text) (c ++ z) ≡ at
      → length (start_of (c ++ z)) ≡ length (c ++ z) → length (start_of (c ++ other)) ≡ length (c ++ other)
  no_gap_stays front [] is long place same = absurd (omega (arith, place, ap length is, length-append front z))
  no_gap_stays front (byte ∷ c) is long place same = unmoved_start byte (c ++ other) (unmoved byte (c ++ z) same)

  -- no digit stands there
  no_digit_stays : (front c : List ℕ) → text ≡ front ++ (c ++ z) → reach < length front + length c → place_of (length text) (start_of (c ++ z)) ≡ at
      → length (start_of (c ++ z)) ≢ length (c ++ z) → length (digits_of (start_of (c ++ z))) ≡ 0 → Found (field_fault total (c ++ other))
  no_digit_stays front c is long place moved none = by (start_of (c ++ z)) refl
    where
      long_text : length text ≡ length front + length (c ++ z)
      long_text = ap length is ∙ length-append front (c ++ z)

      by : (start : List ℕ) → start_of (c ++ z) ≡ start → Found (field_fault total (c ++ other))
      by [] e = absurd (omega (arith, place, ap length e, long_text, length-append c z))
      by (byte ∷ start) e =
          let whole = parts-whole (c ++ z) (omega (arith, ap length e)) in
          let gaps : List ℕ = concat whole.0 in
          let parts : c ++ z ≡ concat whole.0 ++ byte ∷ start = whole.2 ∙ ap (λ t. concat whole.0 ++ t) e in
          let long_parts : length (c ++ z) ≡ length (concat whole.0) + suc (length start) = ap length parts ∙ length-append (concat whole.0) (byte ∷ start) in
          let more = longer_front c z (concat whole.0) byte start parts (omega (arith, place, ap length e, long_text, long_parts)) in
          let there : c ++ other ≡ concat whole.0 ++ byte ∷ (more.0 ++ other) = ap (λ t. t ++ other) more.1 ∙ append_assoc (concat whole.0) (byte ∷ more.0) other in
          let stop : stop_of false (c ++ other) ≡ record { rest = byte ∷ (more.0 ++ other); cut = false } =
          ap (stop_of false) there ∙ stop-gaps whole.0 (byte ∷ (more.0 ++ other)) whole.1 ∙ stop-other byte (more.0 ++ other) (first_is (c ++ z) byte start e) in
          let started : start_of (c ++ other) ≡ byte ∷ (more.0 ++ other) = ap (λ (s : SpaceEnd). s.rest) stop in
          let digit : is_other byte ≡ true = first_no_digit byte start (subst (λ t. length (digits_of t) ≡ 0) e none) in
          let no_digits : length (digits_of (start_of (c ++ other))) ≡ 0 = subst (λ t. length (digits_of t) ≡ 0) (sym started) (no_digit_first byte (more.0 ++ other) digit) in
          let long_there : length (c ++ other) ≡ length (concat whole.0) + suc (length (more.0 ++ other)) = ap length there ∙ length-append (concat whole.0) (byte ∷ (more.0 ++ other)) in
          let moved_there : length (start_of (c ++ other)) ≢ length (c ++ other) = λ same. moved (omega (arith, same, ap length e, long_parts, long_there, ap length started)) in
          (Header (place_of total (start_of (c ++ other))), no_digit_fault total (c ++ other) moved_there (ap length (no-digits (start_of (c ++ other)) no_digits)))

  field_stays : (front c : List ℕ) → text ≡ front ++ (c ++ z) → reach < length front + length c → field_fault (length text) (c ++ z) ≡ Some (Header at) → Found (field_fault total (c ++ other))
  field_stays front c is long fault = by (length (start_of (c ++ z)) == length (c ++ z)) refl (length (digits_of (start_of (c ++ z))) == 0) refl fault
    where
      by : (same : Bool) → (length (start_of (c ++ z)) == length (c ++ z)) ≡ same → (empty : Bool) → (length (digits_of (start_of (c ++ z))) == 0) ≡ empty
          → (if same then Some (Header (place_of (length text) (c ++ z))) else if empty then Some (Header (place_of (length text) (start_of (c ++ z)))) else None) ≡ Some (Header at) → Found (field_fault total (c ++ other))
      by true e empty f found =
          let place : place_of (length text) (c ++ z) ≡ at = cc in
          (Header (place_of total (c ++ other)), no_gap_fault total (c ++ other) (no_gap_stays front c is long place (eqb-true (length (start_of (c ++ z))) (length (c ++ z)) e)))
      by false e true f found =
          let place : place_of (length text) (start_of (c ++ z)) ≡ at = cc in
          no_digit_stays front c is long place (unlike e) (eqb-true (length (digits_of (start_of (c ++ z)))) 0 f)
        where
          unlike : (length (start_of (c ++ z)) == length (c ++ z)) ≡ false → length (start_of (c ++ z)) ≢ length (c ++ z)
          unlike differs same = let test : (length (start_of (c ++ z)) == length (c ++ z)) ≡ true = eq-eqb (length (start_of (c ++ z))) (length (c ++ z)) same in cc
      by false e false f found = absurd (cc)

  -- a field that stands, with the byte behind it
  record IsPassed (front c : List ℕ) : Type 0 where
    bytes : List ℕ
    rest : List ℕ
    n : ℕ
    field : IsField bytes n
    value : n ≡ written_value (c ++ z)
    is : c ≡ bytes ++ rest
    behind : behind_field (c ++ z) ≡ rest ++ z
    stops : Stops (rest ++ other)

  passed : (front c : List ℕ) → text ≡ front ++ (c ++ z) → field_fault (length text) (c ++ z) ≡ None → length (c ++ z) < length c + length (behind_field (c ++ z)) → IsPassed front c
  passed front c is none far = by (behind_field (c ++ z)) refl
    where
      stands : StandsField (c ++ z)
      stands = no_fault-stands (length text) (c ++ z) none

      by : (behind : List ℕ) → behind_field (c ++ z) ≡ behind → IsPassed front c
      by [] e = absurd (omega (arith, far, ap length e, length-append c z))
      by (byte ∷ behind) e =
          let parts : c ++ z ≡ stands.bytes ++ byte ∷ behind = stands.is ∙ ap (λ t. stands.bytes ++ t) e in
          let more = longer_front c z stands.bytes byte behind parts (omega (arith, far, ap length e, ap length parts, length-append stands.bytes (byte ∷ behind))) in
          record {
            bytes = stands.bytes;
            rest = byte ∷ more.0;
            n = written_value (c ++ z);
            field = stands.field;
            value = refl;
            is = more.1;
            behind = e ∙ ap (λ t. byte ∷ t) (sym more.2);
            stops = record { first = λ d some. subst (λ t. is_other (get_or t 0 d) ≡ true) e ((behind_stops (start_of (c ++ z))).first d (omega (arith, ap length e))) };
          }

  -- what is read of it with other bytes behind it
  passed_reads : (front c : List ℕ) → (p : IsPassed front c) → (behind_field (c ++ other) ≡ p.rest ++ other) × (field_value (c ++ other) ≡ min p.n 4294967295)
  passed_reads front c p =
      let there : c ++ other ≡ p.bytes ++ (p.rest ++ other) = ap (λ t. t ++ other) p.is ∙ append_assoc p.bytes p.rest other in
      let reads = field-reads p.bytes (p.rest ++ other) p.n p.field p.stops in
      (ap behind_field there ∙ reads.behind, ap field_value there ∙ reads.value)

  -- a side of 0
  zero_stays : (front c : List ℕ) → text ≡ front ++ (c ++ z) → reach < length front + length c → place_of (length text) (start_of (c ++ z)) ≡ at
      → field_fault (length text) (c ++ z) ≡ None → field_value (c ++ z) ≡ 0 → Found (side_fault total (c ++ other))
  zero_stays front c is long place none value =
      let stands = no_fault-stands (length text) (c ++ z) none in
      let long_text : length text ≡ length front + length (c ++ z) = ap length is ∙ length-append front (c ++ z) in
      let start : drop at text ≡ start_of (c ++ z) = at_start in
      let digits : length (digits_of (drop at text)) + length (behind_field (c ++ z)) ≡ length (start_of (c ++ z)) = ap (λ t. length (digits_of t) + length (behind_field (c ++ z))) start ∙ length-digits (start_of (c ++ z)) in
      let p = passed front c is none (omega (arith, long, place, long_text, digits, rest_shorter false (c ++ z))) in
      let reads = passed_reads front c p in
      let zero_value : field_value (c ++ other) ≡ 0 = omega (arith, reads.1, p.value, value) in
      let test : (field_value (c ++ other) == 0) ≡ true = eq-eqb (field_value (c ++ other)) 0 zero_value in
      found_later (field_fault total (c ++ other)) (if field_value (c ++ other) == 0 then Some (Header (place_of total (start_of (c ++ other)))) else None)
      (Header (place_of total (start_of (c ++ other))), ap (λ b. if b then Some (Header (place_of total (start_of (c ++ other)))) else None) test)
    where
      at_start : drop at text ≡ start_of (c ++ z)
      at_start = by (start_of (c ++ z)) refl
        where
          by : (s : List ℕ) → start_of (c ++ z) ≡ s → drop at text ≡ start_of (c ++ z)
          by [] e = absurd (omega (arith, long, place, ap length e, ap length is ∙ length-append front (c ++ z), length-append c z))
          by (byte ∷ s) e =
              let whole = parts-whole (c ++ z) (omega (arith, ap length e)) in
              let parts : text ≡ (front ++ concat whole.0) ++ start_of (c ++ z) = is ∙ ap (λ t. front ++ t) whole.2 ∙ sym (append_assoc front (concat whole.0) (start_of (c ++ z))) in
              let long_parts : length text ≡ length (front ++ concat whole.0) + length (start_of (c ++ z)) = ap length parts ∙ length-append (front ++ concat whole.0) (start_of (c ++ z)) in
              ap (drop at) parts ∙ drop_at (front ++ concat whole.0) (start_of (c ++ z)) at (omega (arith, place, long_parts))

  side_stays : (front c : List ℕ) → text ≡ front ++ (c ++ z) → reach < length front + length c → side_fault (length text) (c ++ z) ≡ Some (Header at) → Found (side_fault total (c ++ other))
  side_stays front c is long fault = by (field_fault (length text) (c ++ z)) refl (field_value (c ++ z) == 0) refl fault
    where
      by : (o : Option PpmFault) → field_fault (length text) (c ++ z) ≡ o → (zero_side : Bool) → (field_value (c ++ z) == 0) ≡ zero_side
          → option_or o (if zero_side then Some (Header (place_of (length text) (start_of (c ++ z)))) else None) ≡ Some (Header at) → Found (side_fault total (c ++ other))
      by (Some fault) e zero_side f found =
          found_first (field_fault total (c ++ other)) (if field_value (c ++ other) == 0 then Some (Header (place_of total (start_of (c ++ other)))) else None) (field_stays front c is long (e ∙ found))
      by None e true f found = let place : place_of (length text) (start_of (c ++ z)) ≡ at = cc in zero_stays front c is long place e (eqb-true (field_value (c ++ z)) 0 f)
      by None e false f found = absurd (cc)

  -- what ends it
  end_stays : (form : PpmForm) (front c : List ℕ) → text ≡ front ++ (c ++ z) → reach < length front + length c → end_fault form (length text) (c ++ z) ≡ Some (Header at) → Found (end_fault form total (c ++ other))
  end_stays form front [] is long fault = absurd (omega (arith, long, end_place form (length text) z at fault, ap length is ∙ length-append front z))
  end_stays Raw front (byte ∷ c) is long fault = by (is_space byte) refl fault
    where
      by : (space : Bool) → is_space byte ≡ space → (if space then None else Some (Header (place_of (length text) (byte ∷ (c ++ z))))) ≡ Some (Header at) → Found (end_fault Raw total (byte ∷ (c ++ other)))
      by true e found = absurd (cc)
      by false e found = (Header (place_of total (byte ∷ (c ++ other))), ap (λ b. if b then None else Some (Header (place_of total (byte ∷ (c ++ other))))) e)
  end_stays Plain front (byte ∷ c) is long fault = by (length (start_of (byte ∷ (c ++ z))) == length (byte ∷ (c ++ z))) refl ((stop_of false (byte ∷ (c ++ z))).cut) fault
    where
      by : (same : Bool) → (length (start_of (byte ∷ (c ++ z))) == length (byte ∷ (c ++ z))) ≡ same → (opened : Bool)
          → (if same then Some (Header (place_of (length text) (byte ∷ (c ++ z)))) else if opened then Some (Header (length text)) else None) ≡ Some (Header at) → Found (gap_fault total (byte ∷ (c ++ other)))
      by true e opened found =
          let here : comment_behind false byte ≡ None = unmoved byte (c ++ z) (eqb-true (length (start_of (byte ∷ (c ++ z)))) (length (byte ∷ (c ++ z))) e) in
          let test : (length (start_of (byte ∷ (c ++ other))) == length (byte ∷ (c ++ other))) ≡ true = eq-eqb (length (start_of (byte ∷ (c ++ other)))) (length (byte ∷ (c ++ other))) (unmoved_start byte (c ++ other) here) in
          (Header (place_of total (byte ∷ (c ++ other))), ap (λ b. if b then Some (Header (place_of total (byte ∷ (c ++ other)))) else if (stop_of false (byte ∷ (c ++ other))).cut then Some (Header total) else None) test)
      by false e true found = let place : length text ≡ at = cc in absurd (omega (arith, long, place, ap length is ∙ length-append front (byte ∷ (c ++ z)), length-append (byte ∷ c) z))
      by false e false found = absurd (cc)

  -- ---- one part behind another

  -- the place is not before what stands behind a field
  far_on : (front c : List ℕ) → text ≡ front ++ (c ++ z) → reach < length front + length c → length text ≤ at + length (behind_field (c ++ z)) → length (c ++ z) < length c + length (behind_field (c ++ z))
  far_on front c is long late = omega (arith, long, late, ap length is ∙ length-append front (c ++ z))

  front_on : (front c : List ℕ) → (p : IsPassed front c) → text ≡ front ++ (c ++ z) → text ≡ (front ++ p.bytes) ++ (p.rest ++ z)
  front_on front c p is = is ∙ ap (λ t. front ++ (t ++ z)) p.is ∙ ap (λ t. front ++ t) (append_assoc p.bytes p.rest z) ∙ sym (append_assoc front p.bytes (p.rest ++ z))

  long_on : (front c : List ℕ) → (p : IsPassed front c) → reach < length front + length c → reach < length (front ++ p.bytes) + length p.rest
  long_on front c p long = omega (arith, long, ap length p.is ∙ length-append p.bytes p.rest, length-append front p.bytes)

  most_stays : (form : PpmForm) (front c : List ℕ) → text ≡ front ++ (c ++ z) → reach < length front + length c
      → option_or (field_fault (length text) (c ++ z)) (end_fault form (length text) (behind_field (c ++ z))) ≡ Some (Header at) → Found (option_or (field_fault total (c ++ other)) (end_fault form total (behind_field (c ++ other))))
  most_stays form front c is long fault = by (field_fault (length text) (c ++ z)) refl fault
    where
      by : (o : Option PpmFault) → field_fault (length text) (c ++ z) ≡ o → option_or o (end_fault form (length text) (behind_field (c ++ z))) ≡ Some (Header at)
          → Found (option_or (field_fault total (c ++ other)) (end_fault form total (behind_field (c ++ other))))
      by (Some one) e found = found_first (field_fault total (c ++ other)) (end_fault form total (behind_field (c ++ other))) (field_stays front c is long (e ∙ found))
      by None e found =
          let p = passed front c is e (far_on front c is long (end_place form (length text) (behind_field (c ++ z)) at found)) in
          found_later (field_fault total (c ++ other)) (end_fault form total (behind_field (c ++ other)))
          (subst (λ t. Found (end_fault form total t)) (sym (passed_reads front c p).0)
          (end_stays form (front ++ p.bytes) p.rest (front_on front c p is) (long_on front c p long) (sym (ap (end_fault form (length text)) p.behind) ∙ found)))

  -- where a side has no fault, its field has none
  no_side_fault : (t : List ℕ) → side_fault (length text) t ≡ None → field_fault (length text) t ≡ None
  no_side_fault t none = by (field_fault (length text) t) refl
    where
      by : (o : Option PpmFault) → field_fault (length text) t ≡ o → field_fault (length text) t ≡ None
      by None e = e
      by (Some fault) e = let first : side_fault (length text) t ≡ Some fault = ap (λ o. option_or o (if field_value t == 0 then Some (Header (place_of (length text) (start_of t))) else None)) e in absurd (cc)

  high_stays : (form : PpmForm) (front c : List ℕ) → text ≡ front ++ (c ++ z) → reach < length front + length c
      → option_or (side_fault (length text) (c ++ z)) (option_or (field_fault (length text) (behind_field (c ++ z))) (end_fault form (length text) (behind_field (behind_field (c ++ z))))) ≡ Some (Header at)
      → Found (option_or (side_fault total (c ++ other)) (option_or (field_fault total (behind_field (c ++ other))) (end_fault form total (behind_field (behind_field (c ++ other))))))
  high_stays form front c is long fault = by (side_fault (length text) (c ++ z)) refl fault
    where
      by : (o : Option PpmFault) → side_fault (length text) (c ++ z) ≡ o
          → option_or o (option_or (field_fault (length text) (behind_field (c ++ z))) (end_fault form (length text) (behind_field (behind_field (c ++ z))))) ≡ Some (Header at)
          → Found (option_or (side_fault total (c ++ other)) (option_or (field_fault total (behind_field (c ++ other))) (end_fault form total (behind_field (behind_field (c ++ other))))))
      by (Some one) e found = found_first (side_fault total (c ++ other)) (option_or (field_fault total (behind_field (c ++ other))) (end_fault form total (behind_field (behind_field (c ++ other))))) (side_stays front c is long (e ∙ found))
      by None e found =
          let p = passed front c is (no_side_fault (c ++ z) e) (far_on front c is long (most_place form (length text) (behind_field (c ++ z)) at found)) in
          found_later (side_fault total (c ++ other)) (option_or (field_fault total (behind_field (c ++ other))) (end_fault form total (behind_field (behind_field (c ++ other)))))
          (subst (λ t. Found (option_or (field_fault total t) (end_fault form total (behind_field t)))) (sym (passed_reads front c p).0)
          (most_stays form (front ++ p.bytes) p.rest (front_on front c p is) (long_on front c p long)
          (sym (ap (λ t. option_or (field_fault (length text) t) (end_fault form (length text) (behind_field t))) p.behind) ∙ found)))

  wide_stays : (form : PpmForm) (front c : List ℕ) → text ≡ front ++ (c ++ z) → reach < length front + length c
      → header_fault form (length text) (c ++ z) ≡ Some (Header at) → Found (header_fault form total (c ++ other))
  wide_stays form front c is long fault = by (side_fault (length text) (c ++ z)) refl fault
    where
      by : (o : Option PpmFault) → side_fault (length text) (c ++ z) ≡ o → option_or o (later form (length text) (behind_field (c ++ z))) ≡ Some (Header at) → Found (header_fault form total (c ++ other))
      by (Some one) e found = found_first (side_fault total (c ++ other)) (later form total (behind_field (c ++ other))) (side_stays front c is long (e ∙ found))
      by None e found =
          let p = passed front c is (no_side_fault (c ++ z) e) (far_on front c is long (high_place form (length text) (behind_field (c ++ z)) at found)) in
          found_later (side_fault total (c ++ other)) (later form total (behind_field (c ++ other)))
          (subst (λ t. Found (later form total t)) (sym (passed_reads front c p).0)
          (high_stays form (front ++ p.bytes) p.rest (front_on front c p is) (long_on front c p long) (sym (ap (later form (length text)) p.behind) ∙ found)))

-- a fault of the header stands, whatever other bytes follow those up to it
pub header_stays : (form : PpmForm) (text : List ℕ) (at : ℕ) (c z other : List ℕ) (total : ℕ) → text ≡ c ++ z → at + length (digits_of (drop at text)) < length c
    → header_fault form (length text) (drop 2 text) ≡ Some (Header at) → Found (header_fault form total (drop 2 (c ++ other)))
header_stays form text at [] z other total is long fault = absurd (omega arith)
header_stays form text at (a ∷ []) z other total is long fault =
    absurd (omega (arith, long, header_place form (length text) (drop 2 text) at fault, length-drop 2 text, ap length is))
header_stays form text at (a ∷ b ∷ c) z other total is long fault =
    wide_stays text at z other total form (a ∷ b ∷ []) c is (omega arith) (sym (ap (λ t. header_fault form (length text) (drop 2 t)) is) ∙ fault)
