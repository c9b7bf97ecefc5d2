-- Fields: a separator and a number, and what is read where one stands.
use Rattle.std.proofs.Common.{◌≡◌, ℕ, ◌+◌, ◌<◌, ◌≤◌, ◌==◌, List, [], ◌∷◌, ◌++◌, length, take, drop, get_or, inl, inr, refl, sym, ap, ◌∙◌, append_assoc, arith, true, false, Bool, None, Some, min, not, if◌then◌else◌, length-append, length-take, eq-eqb, ◌*◌, ◌≢◌}
use Rattle.std.proofs.lemmas.Bool.Decides.{nat_tests}
use Rattle.std.proofs.lemmas.List.{get_or_append_left, get_or-append-add, take_at, drop_at, take-append-drop, get_or-take, drop_all}
use Rattle.std.proofs.lemmas.List.Sums.{position_or_len_is, fails_before_first}
use Rattle.std.specs.Char.{is_ascii_digit, digit_value}
use Rattle.std.proofs.lemmas.Int.Digits.{digits_value_more}
use Rattle.std.specs.List.{AllPass, AllByRecursion, concat, position_or_len}
use Rattle.std.specs.Str.Parse.{digits_value}
use Rattle.wfc_text.specs.Number.{is_other}
use Rattle.wfc_ppm.specs.Fault.{ends_token, field_fault}
use Rattle.wfc_ppm.specs.Field.{is_space, comment_behind, SpaceEnd, stop_of, start_of, digits_of, behind_digits, value_of, field_value, behind_field, place_of}
use Rattle.wfc_ppm.specs.Spelling.{IsGap, IsField}
use Rattle.wfc_ppm.specs.declared.reading.PpmFault.TheVariants.{Header}
use Rattle.wfc_ppm.proofs.GapLemmas.{stop-gaps, stop-other, gaps-end, parts-whole}

-- ---- digits

digit-other : (byte : ℕ) → is_ascii_digit byte ≡ true → is_other byte ≡ false
digit-other byte digit = rw digit refl

pub other-digit : (byte : ℕ) → is_other byte ≡ false → is_ascii_digit byte ≡ true
other-digit byte other = by (is_ascii_digit byte) other
  where
    by : (digit : Bool) → not digit ≡ false → digit ≡ true
    by true is = refl
    by false is = cc

-- a digit is no whitespace and begins no comment
digit-behind : (byte : ℕ) → is_ascii_digit byte ≡ true → comment_behind false byte ≡ None
digit-behind byte digit =
    let space : is_space byte ≡ false = grind (arith, nat_tests) in
    let hash : (byte == 35) ≡ false = grind (arith, nat_tests) in
    rw (space, hash) refl

-- where a token ends, a number ends
ends-other : (byte : ℕ) → ends_token (byte ∷ []) ≡ true → is_other byte ≡ true
ends-other byte ends = grind (arith, nat_tests)

-- the first byte, if there is one, is no digit
pub record Stops (rest : List ℕ) : Type 0 where
  pub first : (d : ℕ) → 0 < length rest → is_other (get_or rest 0 d) ≡ true

pub token-stops : (rest : List ℕ) → ends_token rest ≡ true → Stops rest
token-stops [] ends = record { first = λ d some. absurd (omega arith) }
token-stops (byte ∷ rest) ends = record { first = λ d some. ends-other byte ends }

-- so many digits stand at the front
pub count-digits : (digits rest : List ℕ) → AllPass is_ascii_digit digits → Stops rest → position_or_len is_other (digits ++ rest) ≡ length digits
count-digits digits rest each stops =
    position_or_len_is is_other (digits ++ rest) (length digits) 0 (omega (arith, length-append digits rest))
    (λ k inside. rw (get_or_append_left digits rest 0 k inside) (digit-other (get_or digits k 0) (each k 0 inside)))
    (λ more. last (omega (arith, length-append digits rest)))
  where
    last : 0 < length rest → is_other (get_or (digits ++ rest) (length digits) 0) ≡ true
    last some = let at : get_or (digits ++ rest) (length digits) 0 ≡ get_or rest 0 0 = (let e : length digits + 0 ≡ length digits = omega arith in rw e at (get_or-append-add digits rest 0 0)) in rw at (stops.first 0 some)

pub digits_of-front : (digits rest : List ℕ) → AllPass is_ascii_digit digits → Stops rest → digits_of (digits ++ rest) ≡ digits
digits_of-front digits rest each stops = ap (λ n. take n (digits ++ rest)) (count-digits digits rest each stops) ∙ take_at digits rest (length digits) refl

pub behind_digits-front : (digits rest : List ℕ) → AllPass is_ascii_digit digits → Stops rest → behind_digits (digits ++ rest) ≡ rest
behind_digits-front digits rest each stops = ap (λ n. drop n (digits ++ rest)) (count-digits digits rest each stops) ∙ drop_at digits rest (length digits) refl

-- the digits at the front are digits, and stand before what is behind them
pub digits_of-pass : (text : List ℕ) → AllPass is_ascii_digit (digits_of text)
digits_of-pass text k d inside =
    let below : k < position_or_len is_other text = omega (arith, length-take (position_or_len is_other text) text) in
    rw (get_or-take (position_or_len is_other text) text k d below) (other-digit (get_or text k d) (fails_before_first is_other text k d below))

pub digits-parts : (text : List ℕ) → digits_of text ++ behind_digits text ≡ text
digits-parts text = take-append-drop (position_or_len is_other text) text

-- no digit at the front: all stands behind them
pub no-digits : (text : List ℕ) → length (digits_of text) ≡ 0 → behind_digits text ≡ text
no-digits text none = by (digits_of text) none (digits-parts text)
  where
    by : (digits : List ℕ) → length digits ≡ 0 → digits ++ behind_digits text ≡ text → behind_digits text ≡ text
    by [] none is = is
    by (digit ∷ digits) none is = absurd (omega arith)

-- digits are the start of themselves
start-digits : (digits rest : List ℕ) → AllPass is_ascii_digit digits → 0 < length digits → stop_of false (digits ++ rest) ≡ record { rest = digits ++ rest; cut = false }
start-digits [] rest each some = absurd (omega arith)
start-digits (digit ∷ digits) rest each some = stop-other digit (digits ++ rest) (digit-behind digit (each 0 0 some))

-- ---- what is read where a field stands

-- the number as it is written, of any length
abbrev pub written_value : List ℕ → ℕ
written_value text = digits_value 10 (digits_of (start_of text))

pub record ReadsField (text digits rest : List ℕ) (n : ℕ) : Type 0 where
  pub stop : stop_of false text ≡ record { rest = digits ++ rest; cut = false }
  pub value : field_value text ≡ min n 4294967295
  pub written : written_value text ≡ n
  pub behind : behind_field text ≡ rest
  pub longer : length (digits ++ rest) < length text
  pub some : 0 < length digits

pub longer_gaps : (gaps : List (List ℕ)) → AllByRecursion IsGap gaps → 0 < length gaps → 0 < length (concat gaps)
longer_gaps [] each some = absurd (omega arith)
longer_gaps (gap ∷ gaps) each some = by each.0
  where
    by : IsGap gap → 0 < length (concat (gap ∷ gaps))
    by (inl (byte, space, is)) = omega (arith, ap length is, length-append gap (concat gaps))
    by (inr comment) = omega (arith, ap length comment.is, length-append comment.front (comment.«end» ∷ []), length-append gap (concat gaps))

pub field-reads : (bytes rest : List ℕ) (n : ℕ) → (field : IsField bytes n) → Stops rest → ReadsField (bytes ++ rest) field.digits rest n
field-reads bytes rest n field stops =
    let parts : bytes ++ rest ≡ concat field.apart.gaps ++ (field.digits ++ rest) = ap (λ b. b ++ rest) (field.is ∙ ap (λ s. s ++ field.digits) field.apart.is) ∙ append_assoc (concat field.apart.gaps) field.digits rest in
    let stop : stop_of false (bytes ++ rest) ≡ record { rest = field.digits ++ rest; cut = false } = ap (stop_of false) parts ∙ stop-gaps field.apart.gaps (field.digits ++ rest) field.apart.each ∙ start-digits field.digits rest field.numeral.each field.numeral.some in
    let start : start_of (bytes ++ rest) ≡ field.digits ++ rest = ap (λ (s : SpaceEnd). s.rest) stop in
    record {
      stop = stop;
      value = ap (λ t. min (digits_value 10 (digits_of t)) 4294967295) start ∙ ap (λ t. min (digits_value 10 t) 4294967295) (digits_of-front field.digits rest field.numeral.each stops) ∙ ap (λ v. min v 4294967295) field.numeral.value;
      written = ap (λ t. digits_value 10 (digits_of t)) start ∙ ap (digits_value 10) (digits_of-front field.digits rest field.numeral.each stops) ∙ field.numeral.value;
      behind = ap behind_digits start ∙ behind_digits-front field.digits rest field.numeral.each stops;
      longer = omega (arith, ap length parts, length-append (concat field.apart.gaps) (field.digits ++ rest), longer_gaps field.apart.gaps field.apart.each field.apart.some);
      some = field.numeral.some;
    }

-- where a field stands there is no fault
pub reads-no_fault : (total : ℕ) (text digits rest : List ℕ) (n : ℕ) → Stops rest → AllPass is_ascii_digit digits → ReadsField text digits rest n → field_fault total text ≡ None
reads-no_fault total text digits rest n stops each reads =
    let start : start_of text ≡ digits ++ rest = ap (λ (s : SpaceEnd). s.rest) reads.stop in
    let long : (length (start_of text) == length text) ≡ false = unlike (length (start_of text)) (length text) (omega (arith, ap length start, reads.longer)) in
    let some : (length (digits_of (start_of text)) == 0) ≡ false = nonzero (length (digits_of (start_of text))) (omega (arith, ap length (ap digits_of start ∙ digits_of-front digits rest each stops), reads.some)) in
    rw (long, some) refl
  where
    unlike : (a b : ℕ) → a < b → (a == b) ≡ false
    unlike a b less = grind (arith, nat_tests)

    nonzero : (a : ℕ) → 0 < a → (a == 0) ≡ false
    nonzero a some = grind (arith, nat_tests)

pub field-no_fault : (total : ℕ) (bytes rest : List ℕ) (n : ℕ) → (field : IsField bytes n) → Stops rest → field_fault total (bytes ++ rest) ≡ None
field-no_fault total bytes rest n field stops = reads-no_fault total (bytes ++ rest) field.digits rest n stops field.numeral.each (field-reads bytes rest n field stops)

-- a field ends a token before it
pub field-ends : (bytes rest : List ℕ) (n : ℕ) → IsField bytes n → ends_token (bytes ++ rest) ≡ true
field-ends bytes rest n field =
    ap ends_token (ap (λ b. b ++ rest) (field.is ∙ ap (λ s. s ++ field.digits) field.apart.is) ∙ append_assoc (concat field.apart.gaps) field.digits rest)
    ∙ gaps-end field.apart.gaps (field.digits ++ rest) field.apart.each field.apart.some

pub field-stops : (bytes rest : List ℕ) (n : ℕ) → IsField bytes n → Stops (bytes ++ rest)
field-stops bytes rest n field = token-stops (bytes ++ rest) (field-ends bytes rest n field)

-- ---- the field that stands where no fault is

pub record StandsField (text : List ℕ) : Type 0 where
  pub bytes : List ℕ
  pub field : IsField bytes (written_value text)
  pub is : text ≡ bytes ++ behind_field text

some_gaps : (gaps : List (List ℕ)) (text start : List ℕ) → text ≡ concat gaps ++ start → length start < length text → 0 < length gaps
some_gaps [] text start is less = absurd (omega (arith, ap length is))
some_gaps (gap ∷ gaps) text start is less = omega arith

pub stands : (text : List ℕ) → 0 < length (digits_of (start_of text)) → length (start_of text) < length text → StandsField text
stands text some longer =
    let whole = parts-whole text (omega (arith, some, ap length (digits-parts (start_of text)), length-append (digits_of (start_of text)) (behind_digits (start_of text)))) in
    record {
      bytes = concat whole.0 ++ digits_of (start_of text);
      field = record {
        separator = concat whole.0;
        digits = digits_of (start_of text);
        is = refl;
        apart = record { gaps = whole.0; some = some_gaps whole.0 text (start_of text) whole.2 longer; each = whole.1; is = refl };
        numeral = record { some = some; each = digits_of-pass (start_of text); value = refl };
      };
      is = whole.2 ∙ ap (λ t. concat whole.0 ++ t) (sym (digits-parts (start_of text))) ∙ sym (append_assoc (concat whole.0) (digits_of (start_of text)) (behind_field text));
    }

-- what holds where a field has no fault
start_shorter : (text : List ℕ) → length (start_of text) ≤ length text
start_shorter text = by (length (start_of text)) refl
  where
    by : (n : ℕ) → length (start_of text) ≡ n → length (start_of text) ≤ length text
    by n is = shorter (start_of text) refl
      where
        shorter : (start : List ℕ) → start_of text ≡ start → length (start_of text) ≤ length text
        shorter [] none = omega (arith, ap length none)
        shorter (byte ∷ start) some = let whole = parts-whole text (omega (arith, ap length some)) in omega (arith, ap length whole.2, length-append (concat whole.0) (start_of text))

pub no_fault-stands : (total : ℕ) (text : List ℕ) → field_fault total text ≡ None → StandsField text
no_fault-stands total text none = by (length (start_of text) == length text) refl (length (digits_of (start_of text)) == 0) refl none
  where
    less : (a b : ℕ) → (a == b) ≡ false → a ≤ b → a < b
    less a b unlike small = grind (arith, nat_tests)

    some : (a : ℕ) → (a == 0) ≡ false → 0 < a
    some a unlike = grind (arith, nat_tests)

    by : (same : Bool) → (length (start_of text) == length text) ≡ same → (empty : Bool) → (length (digits_of (start_of text)) == 0) ≡ empty → (if same then Some (Header (place_of total text)) else if empty then Some (Header (place_of total (start_of text))) else None) ≡ None → StandsField text
    by true same empty digits is = absurd (cc)
    by false same true digits is = absurd (cc)
    by false same false digits is = stands text (some (length (digits_of (start_of text))) digits) (less (length (start_of text)) (length text) same (start_shorter text))

-- ---- one digit after another

-- the value with a digit more
pub value-more : (text : List ℕ) (at n made : ℕ) → at < length text → n ≡ value_of (take at text) → made ≡ min (n * 10 + digit_value (get_or text at 0)) 4294967295 → made ≡ value_of (take (at + 1) text)
value-more text at n made inside so_far is = omega (arith, digits_value_more 10 text at inside, so_far, is)

-- so many digits are all
pub digits-here : (text : List ℕ) (at n : ℕ) → at < length text → ((k : ℕ) → k < at → is_other (get_or text k 0) ≡ false) → is_other (get_or text at 0) ≡ true → n ≡ value_of (take at text) → (n ≡ value_of (digits_of text)) × (drop at text ≡ behind_digits text)
digits-here text at n inside before here is =
    let count : position_or_len is_other text ≡ at = position_or_len_is is_other text at 0 (omega arith) before (λ more. here) in
    (is ∙ ap (λ k. value_of (take k text)) (sym count), ap (λ k. drop k text) (sym count))

-- the text is digits to its end
pub digits-end : (text : List ℕ) (at n : ℕ) → at ≤ length text → length text ≤ at → ((k : ℕ) → k < at → is_other (get_or text k 0) ≡ false) → n ≡ value_of (take at text) → (n ≡ value_of (digits_of text)) × ([] ≡ behind_digits text)
digits-end text at n inside past before is =
    let count : position_or_len is_other text ≡ at = position_or_len_is is_other text at 0 inside before (λ more. absurd (omega arith)) in
    (is ∙ ap (λ k. value_of (take k text)) (sym count), sym (drop_all at text past) ∙ ap (λ k. drop k text) (sym count))

-- how long the digits and what is behind them are
pub length-digits : (text : List ℕ) → length (digits_of text) + length (behind_digits text) ≡ length text
length-digits text = sym (length-append (digits_of text) (behind_digits text)) ∙ ap length (digits-parts text)

-- a field has no fault where its number does not begin at its front and has a digit
pub right_field : (total : ℕ) (text : List ℕ) → length (start_of text) ≢ length text → length (behind_field text) ≢ length (start_of text) → field_fault total text ≡ None
right_field total text longer some =
    let same : (length (start_of text) == length text) ≡ false = unlike (length (start_of text)) (length text) longer in
    let none : (length (digits_of (start_of text)) == 0) ≡ false = unlike (length (digits_of (start_of text))) 0 (λ e. some (omega (arith, e, length-digits (start_of text)))) in
    rw (same, none) refl
  where
    unlike : (a b : ℕ) → a ≢ b → (a == b) ≡ false
    unlike a b other = grind (arith, nat_tests)

pub no_gap_fault : (total : ℕ) (text : List ℕ) → length (start_of text) ≡ length text → field_fault total text ≡ Some (Header (place_of total text))
no_gap_fault total text same = let test : (length (start_of text) == length text) ≡ true = eq-eqb (length (start_of text)) (length text) same in rw test refl

pub no_digit_fault : (total : ℕ) (text : List ℕ) → length (start_of text) ≢ length text → length (behind_field text) ≡ length (start_of text) → field_fault total text ≡ Some (Header (place_of total (start_of text)))
no_digit_fault total text longer none =
    let same : (length (start_of text) == length text) ≡ false = unlike (length (start_of text)) (length text) longer in
    let empty : (length (digits_of (start_of text)) == 0) ≡ true = eq-eqb (length (digits_of (start_of text))) 0 (omega (arith, none, length-digits (start_of text))) in
    rw (same, empty) refl
  where
    unlike : (a b : ℕ) → a ≢ b → (a == b) ≡ false
    unlike a b other = grind (arith, nat_tests)
