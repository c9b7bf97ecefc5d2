-- Lines of heads are read exactly where they are their texts.
use Rattle.std.proofs.Common.{◌≡◌, ℕ, ◌-◌, ◌^◌, ◌<◌, Bool, true, false, cond, List, [], ◌∷◌, codes, position, decimal, Option, None, Some, Result, Ok, Err, refl, sym, ap, ◌∙◌, subst, arith}
use Rattle.std.specs.List.{All}
use Rattle.std.specs.Option.{ok_or}
use Rattle.std.specs.Str.{bytes_eq}
use Rattle.std.proofs.lemmas.Fmt.{decimal_digit}
use Rattle.std.proofs.lemmas.Slice.Eq.{bytes_eq-Decides}
use Rattle.wfc_lists.proofs.Positions.{position_fails}
use Rattle.wfc_proof.specs.declared.heads.Format.{Format}
use Rattle.wfc_proof.specs.declared.heads.Format.TheVariants.{One, Two}
use Rattle.wfc_proof.specs.declared.heads.HeadNumbers.{HeadNumbers}
use Rattle.wfc_proof.specs.declared.heads.Shape.{Shape}
use Rattle.wfc_proof.specs.declared.text.LineFault.{LineFault}
use Rattle.wfc_proof.specs.declared.text.LineFault.TheVariants.{BadLine}
use Rattle.wfc_proof.specs.Words.{is_blank_byte, spaced_words, with_spaces, decimal_within}
use Rattle.wfc_proof.specs.Heads.{format_text, format_of, numbers_words, numbers_text, AreHeadNumbers, head_word, numbers_with, numbers_of_words, head_numbers, bit, bit_word, shape_words, shape_text, IsShape, shape_with, shape_of_words, shape_of}
use Rattle.wfc_proof.specs.Text.{line_of, line_of_words, line_2_of, line_2_of_words}
use Rattle.wfc_proof.proofs.WordLemmas.{AreSpaceless, spaced_back, decimal_spaceless, decimal_within-decimal, decimal_within-some}
use Rattle.wfc_proof.proofs.LineLemmas.{with_spaces-back}

-- a text that is this one
same_text : (word text : List ℕ) → bytes_eq word text ≡ true → word ≡ text
same_text word text is = (bytes_eq-Decides word text).0 is

-- ---- the first line

pub format_of-is : (bytes : List ℕ) (format : Format) → format_of bytes ≡ Ok format → bytes ≡ format_text format
format_of-is bytes format is = by (bytes_eq bytes (format_text One)) (bytes_eq bytes (format_text Two)) refl refl is
  where
    one : (made : Format) → (let o : Result Format LineFault = Ok made in o) ≡ Ok format → bytes ≡ format_text made → bytes ≡ format_text format
    one made is text = let same : made ≡ format = cc in text ∙ ap format_text same

    by : (a b : Bool) → bytes_eq bytes (format_text One) ≡ a → bytes_eq bytes (format_text Two) ≡ b
        → cond a (Ok One) (cond b (Ok Two) (Err BadLine)) ≡ Ok format → bytes ≡ format_text format
    by true b ea eb is = one One is (same_text bytes (format_text One) ea)
    by false true ea eb is = one Two is (same_text bytes (format_text Two) eb)
    by false false ea eb is = cc

pub is-format_of : (bytes : List ℕ) (format : Format) → bytes ≡ format_text format → format_of bytes ≡ Ok format
is-format_of bytes One is = ap format_of is
is-format_of bytes Two is = ap format_of is

-- ---- the second line

head_read : (word : List ℕ) (n : ℕ) → head_word word ≡ Some n → (word ≡ decimal n) × (n < 2 ^ 32)
head_read word n is = let read = decimal_within-some (2 ^ 32 - 1) word n is in (read.0, omega (arith, read.1))

head_back : (n : ℕ) → n < 2 ^ 32 → head_word (decimal n) ≡ Some n
head_back n below = decimal_within-decimal (2 ^ 32 - 1) n (omega arith) (omega arith)

words_are : (numbers : HeadNumbers) (words : List (List ℕ)) → numbers_of_words words ≡ Some numbers → (words ≡ numbers_words numbers.cells numbers.values) × AreHeadNumbers numbers
words_are numbers (cells ∷ c ∷ values ∷ v ∷ []) is = by (bytes_eq cells (codes "cells")) (bytes_eq values (codes "values")) (head_word c) (head_word v) refl refl refl refl is
  where
    by : (a b : Bool) (x y : Option ℕ) → bytes_eq cells (codes "cells") ≡ a → bytes_eq values (codes "values") ≡ b → head_word c ≡ x → head_word v ≡ y
        → cond a (cond b (numbers_with x y) None) None ≡ Some numbers → ((cells ∷ c ∷ values ∷ v ∷ []) ≡ numbers_words numbers.cells numbers.values) × AreHeadNumbers numbers
    by true true (Some x) (Some y) ea eb ex ey is =
        let made : HeadNumbers = record { cells = x; values = y } in
        let same : made ≡ numbers = cc in
        let first = same_text cells (codes "cells") ea in
        let second = same_text values (codes "values") eb in
        let low = head_read c x ex in
        let high = head_read v y ey in
        subst (λ (n : HeadNumbers). ((cells ∷ c ∷ values ∷ v ∷ []) ≡ numbers_words n.cells n.values) × AreHeadNumbers n) same ((λ i. first i ∷ low.0 i ∷ second i ∷ high.0 i ∷ []), (low.1, high.1))
    by true true None y ea eb ex ey is = cc
    by true true (Some x) None ea eb ex ey is = cc
    by true false x y ea eb ex ey is = cc
    by false b x y ea eb ex ey is = cc
words_are numbers [] is = cc
words_are numbers (a ∷ []) is = cc
words_are numbers (a ∷ b ∷ []) is = cc
words_are numbers (a ∷ b ∷ c ∷ []) is = cc
words_are numbers (a ∷ b ∷ c ∷ d ∷ e ∷ words) is = cc

found : {X : Type 0} (o : Option X) (x : X) → ok_or o BadLine ≡ Ok x → o ≡ Some x
found None x is = cc
found {X} (Some made) x is = let same : made ≡ x = cc in ap (λ (y : X). Some y) same

pub numbers_of-is : (bytes : List ℕ) (numbers : HeadNumbers) → head_numbers bytes ≡ Ok numbers → (bytes ≡ numbers_text numbers.cells numbers.values) × AreHeadNumbers numbers
numbers_of-is bytes numbers is =
    let are = words_are numbers (spaced_words bytes) (found (numbers_of_words (spaced_words bytes)) numbers is) in
    (sym (with_spaces-back bytes) ∙ ap with_spaces are.0, are.1)

plain : (n : ℕ) → n < 2 ^ 32 → All (λ x. is_blank_byte x ≡ false) (decimal n)
plain n below = decimal_spaceless n (omega arith)

-- a word in which no blank is found
searched : (word : List ℕ) → position is_blank_byte word ≡ None → All (λ x. is_blank_byte x ≡ false) word
searched word none k d inside = position_fails is_blank_byte word none k d inside

pub is-numbers_of : (bytes : List ℕ) (numbers : HeadNumbers) → bytes ≡ numbers_text numbers.cells numbers.values → AreHeadNumbers numbers → head_numbers bytes ≡ Ok numbers
is-numbers_of bytes numbers text keeps =
    let spaceless : AreSpaceless (numbers_words numbers.cells numbers.values) =
    (searched (codes "cells") refl, (plain numbers.cells keeps.0, (searched (codes "values") refl, (plain numbers.values keeps.1, record {})))) in
    ap head_numbers text
    ∙ ap (λ words. ok_or (numbers_of_words words) BadLine) (spaced_back (codes "cells") (decimal numbers.cells ∷ codes "values" ∷ decimal numbers.values ∷ []) spaceless)
    ∙ (λ i. ok_or (numbers_with (head_back numbers.cells keeps.0 i) (head_back numbers.values keeps.1 i)) BadLine)

-- and it is no line of format 1
pub no_numbers : (c v : ℕ) → c < 2 ^ 32 → v < 2 ^ 32 → line_of (numbers_text c v) ≡ Err BadLine
no_numbers c v cells values =
    let spaceless : AreSpaceless (numbers_words c v) = (searched (codes "cells") refl, (plain c cells, (searched (codes "values") refl, (plain v values, record {})))) in
    ap (λ words. ok_or (line_of_words words) BadLine) (spaced_back (codes "cells") (decimal c ∷ codes "values" ∷ decimal v ∷ []) spaceless)

-- ---- the third line

bit_read : (word : List ℕ) (is : Bool) → bit_word word ≡ Some is → word ≡ decimal (bit is)
bit_read word is read = by (bytes_eq word (codes "1")) (bytes_eq word (codes "0")) refl refl read
  where
    one : (made : Bool) → Some made ≡ Some is → word ≡ decimal (bit made) → word ≡ decimal (bit is)
    one made e text = let same : made ≡ is = cc in text ∙ ap (λ b. decimal (bit b)) same

    by : (a b : Bool) → bytes_eq word (codes "1") ≡ a → bytes_eq word (codes "0") ≡ b → cond a (Some true) (cond b (Some false) None) ≡ Some is → word ≡ decimal (bit is)
    by true b ea eb e = one true e (same_text word (codes "1") ea ∙ sym (decimal_digit 1 (omega arith)))
    by false true ea eb e = one false e (same_text word (codes "0") eb ∙ sym (decimal_digit 0 (omega arith)))
    by false false ea eb e = cc

bit_back : (is : Bool) → bit_word (decimal (bit is)) ≡ Some is
bit_back true = ap bit_word (decimal_digit 1 (omega arith))
bit_back false = ap bit_word (decimal_digit 0 (omega arith))

-- these words are those of the shape, which keeps to its limits
record AreOf (words : List (List ℕ)) (shape : Shape) : Type 0 where
  are : words ≡ shape_words shape
  keeps : IsShape shape

shape_words_are : (shape : Shape) (words : List (List ℕ)) → shape_of_words words ≡ Some shape → AreOf words shape
shape_words_are shape (word ∷ n ∷ w ∷ h ∷ d ∷ s ∷ i ∷ o ∷ []) is = by (bytes_eq word (codes "for")) refl is
  where
    of : word ≡ codes "for" → (xn xw xh xd xs : Option ℕ) (xi xo : Option Bool)
        → decimal_within 6 n ≡ xn → head_word w ≡ xw → head_word h ≡ xh → head_word d ≡ xd → decimal_within (2 ^ 8 - 1) s ≡ xs → bit_word i ≡ xi → bit_word o ≡ xo
        → shape_with xn xw xh xd xs xi xo ≡ Some shape → AreOf (word ∷ n ∷ w ∷ h ∷ d ∷ s ∷ i ∷ o ∷ []) shape
    of first (Some xn) (Some xw) (Some xh) (Some xd) (Some xs) (Some xi) (Some xo) en ew eh ed es ei eo is =
        let made : Shape = record { n = xn; width = xw; height = xh; depth = xd; symmetry = xs; wrap_in = xi; wrap_out = xo } in
        let same : made ≡ shape = cc in
        let rn = decimal_within-some 6 n xn en in
        let rw = head_read w xw ew in
        let rh = head_read h xh eh in
        let rd = head_read d xd ed in
        let rs = decimal_within-some (2 ^ 8 - 1) s xs es in
        let ri = bit_read i xi ei in
        let ro = bit_read o xo eo in
        subst (AreOf (word ∷ n ∷ w ∷ h ∷ d ∷ s ∷ i ∷ o ∷ [])) same (record {
          are = λ j. first j ∷ rn.0 j ∷ rw.0 j ∷ rh.0 j ∷ rd.0 j ∷ rs.0 j ∷ ri j ∷ ro j ∷ [];
          keeps = record { n = rn.1; width = rw.1; height = rh.1; depth = rd.1; symmetry = omega (arith, rs.1) };
        })
    of first None xw xh xd xs xi xo en ew eh ed es ei eo is = cc
    of first (Some xn) None xh xd xs xi xo en ew eh ed es ei eo is = cc
    of first (Some xn) (Some xw) None xd xs xi xo en ew eh ed es ei eo is = cc
    of first (Some xn) (Some xw) (Some xh) None xs xi xo en ew eh ed es ei eo is = cc
    of first (Some xn) (Some xw) (Some xh) (Some xd) None xi xo en ew eh ed es ei eo is = cc
    of first (Some xn) (Some xw) (Some xh) (Some xd) (Some xs) None xo en ew eh ed es ei eo is = cc
    of first (Some xn) (Some xw) (Some xh) (Some xd) (Some xs) (Some xi) None en ew eh ed es ei eo is = cc

    by : (a : Bool) → bytes_eq word (codes "for") ≡ a
        → cond a (shape_with (decimal_within 6 n) (head_word w) (head_word h) (head_word d) (decimal_within (2 ^ 8 - 1) s) (bit_word i) (bit_word o)) None ≡ Some shape
        → AreOf (word ∷ n ∷ w ∷ h ∷ d ∷ s ∷ i ∷ o ∷ []) shape
    by true e is = of (same_text word (codes "for") e) _ _ _ _ _ _ _ refl refl refl refl refl refl refl is
    by false e is = cc
shape_words_are shape [] is = cc
shape_words_are shape (a ∷ []) is = cc
shape_words_are shape (a ∷ b ∷ []) is = cc
shape_words_are shape (a ∷ b ∷ c ∷ []) is = cc
shape_words_are shape (a ∷ b ∷ c ∷ d ∷ []) is = cc
shape_words_are shape (a ∷ b ∷ c ∷ d ∷ e ∷ []) is = cc
shape_words_are shape (a ∷ b ∷ c ∷ d ∷ e ∷ f ∷ []) is = cc
shape_words_are shape (a ∷ b ∷ c ∷ d ∷ e ∷ f ∷ g ∷ []) is = cc
shape_words_are shape (a ∷ b ∷ c ∷ d ∷ e ∷ f ∷ g ∷ h ∷ i ∷ words) is = cc

pub shape_of-is : (bytes : List ℕ) (shape : Shape) → shape_of bytes ≡ Ok shape → (bytes ≡ shape_text shape) × IsShape shape
shape_of-is bytes shape is =
    let are = shape_words_are shape (spaced_words bytes) (found (shape_of_words (spaced_words bytes)) shape is) in
    (sym (with_spaces-back bytes) ∙ ap with_spaces are.are, are.keeps)

bit_plain : (is : Bool) → All (λ x. is_blank_byte x ≡ false) (decimal (bit is))
bit_plain true = plain 1 (omega arith)
bit_plain false = plain 0 (omega arith)

pub is-shape_of : (bytes : List ℕ) (shape : Shape) → bytes ≡ shape_text shape → IsShape shape → shape_of bytes ≡ Ok shape
is-shape_of bytes shape text keeps =
    let images : AreSpaceless (decimal shape.symmetry ∷ decimal (bit shape.wrap_in) ∷ decimal (bit shape.wrap_out) ∷ []) =
    (plain shape.symmetry (omega (arith, keeps.symmetry)), (bit_plain shape.wrap_in, (bit_plain shape.wrap_out, record {}))) in
    let spaceless : AreSpaceless (shape_words shape) =
    (searched (codes "for") refl, (plain shape.n (omega (arith, keeps.n)), (plain shape.width keeps.width, (plain shape.height keeps.height, (plain shape.depth keeps.depth, images))))) in
    let n = decimal_within-decimal 6 shape.n (omega arith) keeps.n in
    let symmetry = decimal_within-decimal (2 ^ 8 - 1) shape.symmetry (omega arith) (omega (arith, keeps.symmetry)) in
    ap shape_of text
    ∙ ap (λ words. ok_or (shape_of_words words) BadLine) (spaced_back (codes "for")
    (decimal shape.n ∷ decimal shape.width ∷ decimal shape.height ∷ decimal shape.depth ∷ decimal shape.symmetry ∷ decimal (bit shape.wrap_in) ∷ decimal (bit shape.wrap_out) ∷ []) spaceless)
    ∙ (λ i. ok_or (shape_with (n i) (head_back shape.width keeps.width i) (head_back shape.height keeps.height i) (head_back shape.depth keeps.depth i) (symmetry i) (bit_back shape.wrap_in i) (bit_back shape.wrap_out i)) BadLine)

-- and it is no line of format 2
pub no_shape : (shape : Shape) → IsShape shape → line_2_of (shape_text shape) ≡ Err BadLine
no_shape shape keeps =
    let images : AreSpaceless (decimal shape.symmetry ∷ decimal (bit shape.wrap_in) ∷ decimal (bit shape.wrap_out) ∷ []) =
    (plain shape.symmetry (omega (arith, keeps.symmetry)), (bit_plain shape.wrap_in, (bit_plain shape.wrap_out, record {}))) in
    let spaceless : AreSpaceless (shape_words shape) =
    (searched (codes "for") refl, (plain shape.n (omega (arith, keeps.n)), (plain shape.width keeps.width, (plain shape.height keeps.height, (plain shape.depth keeps.depth, images))))) in
    ap (λ words. ok_or (line_2_of_words words) BadLine) (spaced_back (codes "for")
    (decimal shape.n ∷ decimal shape.width ∷ decimal shape.height ∷ decimal shape.depth ∷ decimal shape.symmetry ∷ decimal (bit shape.wrap_in) ∷ decimal (bit shape.wrap_out) ∷ []) spaceless)
