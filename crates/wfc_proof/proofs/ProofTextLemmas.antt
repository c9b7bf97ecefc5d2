-- The lines of a text: each is short, has no line feed, and is read as it was written.
use Rattle.std.proofs.Common.{◌≡◌, ℕ, ◌+◌, ◌^◌, ◌<◌, ◌≤◌, Bool, true, false, nat_eq, List, [], ◌∷◌, length, codes, decimal, position, None, refl, arith, length-append}
use Rattle.std.specs.List.{All}
use Rattle.std.proofs.lemmas.Bool.{ne_eqb}
use Rattle.std.proofs.lemmas.Fmt.{decimal_is_IsNumeral, length-decimal-le}
use Rattle.std.proofs.lemmas.List.{get_or_default}
use Rattle.std.proofs.lemmas.List.Elements.{All-append, All-cons}
use Rattle.std.proofs.lemmas.Str.Parse.{digit_at}
use Rattle.wfc_lists.proofs.Positions.{position_fails}
use Rattle.wfc_proof.specs.Heads.{bit, format_text, numbers_text, numbers_words, shape_text, shape_words, IsShape}
use Rattle.wfc_proof.specs.ProofText.{IsOfFormat}
use Rattle.wfc_proof.specs.Text.{line_text, line_words}
use Rattle.wfc_proof.specs.Words.{with_spaces}
use Rattle.wfc_proof.specs.declared.Line.{Line}
use Rattle.wfc_proof.specs.declared.Line.TheVariants.{Remove, Span, Try, Empty, End, Found, Out}
use Rattle.wfc_proof.specs.declared.heads.Format.{Format}
use Rattle.wfc_proof.specs.declared.heads.Format.TheVariants.{One, Two}
use Rattle.wfc_proof.specs.declared.heads.Shape.{Shape}
pub use Rattle.wfc_proof.proofs.LineLemmas.{line_of-is, is-line_of, line_2_of-is, is-line_2_of}
pub use Rattle.wfc_proof.proofs.HeadLemmas.{format_of-is, is-format_of, numbers_of-is, is-numbers_of, shape_of-is, is-shape_of}

abbrev is_feed : ℕ → Bool
is_feed b = nat_eq b 10

-- bytes without a line feed
abbrev pub IsFeedless : List ℕ → Type 0
IsFeedless text = All (λ b. nat_eq b 10 ≡ false) text

-- words without one
abbrev AreFeedless : List (List ℕ) → Type 0
AreFeedless [] = Unit {0}
AreFeedless (word ∷ words) = IsFeedless word × AreFeedless words

joined : (words : List (List ℕ)) → AreFeedless words → IsFeedless (with_spaces words)
joined [] plain = λ k d inside. absurd (omega arith)
joined (word ∷ []) plain = plain.0
joined (word ∷ next ∷ words) plain =
    All-append (λ b. nat_eq b 10 ≡ false) word (32 ∷ with_spaces (next ∷ words)) plain.0
    (All-cons (λ b. nat_eq b 10 ≡ false) 32 (with_spaces (next ∷ words)) refl (joined (next ∷ words) plain.1))

number : (n : ℕ) → n < 2 ^ 32 → IsFeedless (decimal n)
number n below k d inside =
    let range = digit_at (decimal n) k (decimal_is_IsNumeral n (omega arith)).0.1 inside in
    rw (get_or_default (decimal n) k d 0 inside) (ne_eqb _ 10 (λ same. omega (arith, range.0, same)))

letter : (b : ℕ) → 10 < b → IsFeedless (b ∷ [])
letter b low = All-cons (λ x. nat_eq x 10 ≡ false) b [] (ne_eqb b 10 (λ same. omega arith)) (λ k d inside. absurd (omega arith))

-- the text of a line that both formats have has no line feed
try_feedless : (c v : ℕ) → c < 2 ^ 32 → v < 2 ^ 16 → IsFeedless (line_text (Try c v))
try_feedless c v cell value =
    let plain : AreFeedless (line_words (Try c v)) = (letter 116 (omega arith), (number c cell, (number v (omega arith), record {}))) in
    joined (line_words (Try c v)) plain

empty_feedless : (c : ℕ) → c < 2 ^ 32 → IsFeedless (line_text (Empty c))
empty_feedless c cell =
    let plain : AreFeedless (line_words (Empty c)) = (letter 120 (omega arith), (number c cell, record {})) in
    joined (line_words (Empty c)) plain

-- the text of a line of either format has none
pub line_feedless : (format : Format) (line : Line) → IsOfFormat format line → IsFeedless (line_text line)
line_feedless One (Remove c v d) keeps =
    let plain : AreFeedless (line_words (Remove c v d)) = (letter 114 (omega arith), (number c keeps.0, (number v (omega (arith, keeps.1)), (number d (omega (arith, keeps.2)), record {})))) in
    joined (line_words (Remove c v d)) plain
line_feedless One (Span c first last d) keeps = absurd keeps
line_feedless One (Try c v) keeps = try_feedless c v keeps.0 keeps.1
line_feedless One (Empty c) keeps = empty_feedless c keeps
line_feedless One End keeps = letter 113 (omega arith)
line_feedless One Found keeps = letter 115 (omega arith)
line_feedless One Out keeps = letter 111 (omega arith)
line_feedless Two (Remove c v d) keeps = absurd keeps
line_feedless Two (Span c first last d) keeps =
    let plain : AreFeedless (line_words (Span c first last d)) =
    (letter 114 (omega arith), (number c keeps.0, (number first (omega (arith, keeps.1, keeps.2)), (number last (omega (arith, keeps.2)), (number d (omega (arith, keeps.3)), record {}))))) in
    joined (line_words (Span c first last d)) plain
line_feedless Two (Try c v) keeps = try_feedless c v keeps.0 keeps.1
line_feedless Two (Empty c) keeps = empty_feedless c keeps
line_feedless Two End keeps = letter 113 (omega arith)
line_feedless Two Found keeps = letter 115 (omega arith)
line_feedless Two Out keeps = letter 111 (omega arith)

-- how long the texts of numbers are
digits10 : (n : ℕ) → n < 2 ^ 32 → length (decimal n) ≤ 10
digits10 n below = length-decimal-le 10 n (omega arith) (omega arith) (omega arith)

digits5 : (n : ℕ) → n < 2 ^ 16 → length (decimal n) ≤ 5
digits5 n below = length-decimal-le 5 n (omega arith) (omega arith) (omega arith)

digits3 : (n : ℕ) → n < 2 ^ 8 → length (decimal n) ≤ 3
digits3 n below = length-decimal-le 3 n (omega arith) (omega arith) (omega arith)

-- how long words are with a blank before each
abbrev spaced : List (List ℕ) → ℕ
spaced [] = 0
spaced (word ∷ words) = 1 + (length word + spaced words)

length_with_spaces : (words : List (List ℕ)) → length (with_spaces words) ≤ spaced words
length_with_spaces [] = omega arith
length_with_spaces (word ∷ []) = omega arith
length_with_spaces (word ∷ next ∷ words) = let rest = length_with_spaces (next ∷ words) in omega (arith, rest, length-append word (32 ∷ with_spaces (next ∷ words)))

-- the text of a line that both formats have is short
try_short : (c v : ℕ) → c < 2 ^ 32 → v < 2 ^ 16 → length (line_text (Try c v)) ≤ 64
try_short c v below low =
    let all = length_with_spaces (line_words (Try c v)) in
    let cell = digits10 c below in
    let value = digits5 v low in
    omega arith

empty_short : (c : ℕ) → c < 2 ^ 32 → length (line_text (Empty c)) ≤ 64
empty_short c below =
    let all = length_with_spaces (line_words (Empty c)) in
    let cell = digits10 c below in
    omega arith

-- the text of a line of either format is
pub line_short : (format : Format) (line : Line) → IsOfFormat format line → length (line_text line) ≤ 64
line_short One (Remove c v d) keeps =
    let all = length_with_spaces (line_words (Remove c v d)) in
    let cell = digits10 c keeps.0 in
    let value = digits5 v keeps.1 in
    let dir = digits3 d keeps.2 in
    omega arith
line_short One (Span c first last d) keeps = absurd keeps
line_short One (Try c v) keeps = try_short c v keeps.0 keeps.1
line_short One (Empty c) keeps = empty_short c keeps
line_short One End keeps = omega arith
line_short One Found keeps = omega arith
line_short One Out keeps = omega arith
line_short Two (Remove c v d) keeps = absurd keeps
line_short Two (Span c first last d) keeps =
    let all = length_with_spaces (line_words (Span c first last d)) in
    let cell = digits10 c keeps.0 in
    let from = digits5 first (omega (arith, keeps.1, keeps.2)) in
    let to = digits5 last keeps.2 in
    let dir = digits3 d keeps.3 in
    omega arith
line_short Two (Try c v) keeps = try_short c v keeps.0 keeps.1
line_short Two (Empty c) keeps = empty_short c keeps
line_short Two End keeps = omega arith
line_short Two Found keeps = omega arith
line_short Two Out keeps = omega arith

-- ---- the lines of heads

-- a text in which no line feed is found
searched : (text : List ℕ) → position is_feed text ≡ None → IsFeedless text
searched text none k d inside = position_fails is_feed text none k d inside

pub format_feedless : (format : Format) → IsFeedless (format_text format)
format_feedless One = searched (format_text One) refl
format_feedless Two = searched (format_text Two) refl

pub format_short : (format : Format) → length (format_text format) ≤ 64
format_short One = omega arith
format_short Two = omega arith

pub numbers_feedless : (cells values : ℕ) → cells < 2 ^ 32 → values < 2 ^ 32 → IsFeedless (numbers_text cells values)
numbers_feedless cells values c v =
    let plain : AreFeedless (numbers_words cells values) = (searched (codes "cells") refl, (number cells c, (searched (codes "values") refl, (number values v, record {})))) in
    joined (numbers_words cells values) plain

pub numbers_short : (cells values : ℕ) → cells < 2 ^ 32 → values < 2 ^ 32 → length (numbers_text cells values) ≤ 64
numbers_short cells values c v =
    let all = length_with_spaces (numbers_words cells values) in
    let first = digits10 cells c in
    let second = digits10 values v in
    omega arith

bit_below : (is : Bool) → bit is < 2 ^ 8
bit_below true = omega arith
bit_below false = omega arith

pub shape_feedless : (shape : Shape) → IsShape shape → IsFeedless (shape_text shape)
shape_feedless shape keeps =
    let into = bit_below shape.wrap_in in
    let out = bit_below shape.wrap_out in
    let images : AreFeedless (decimal shape.symmetry ∷ decimal (bit shape.wrap_in) ∷ decimal (bit shape.wrap_out) ∷ []) =
    (number shape.symmetry (omega (arith, keeps.symmetry)), (number (bit shape.wrap_in) (omega (arith, into)), (number (bit shape.wrap_out) (omega (arith, out)), record {}))) in
    let plain : AreFeedless (shape_words shape) =
    (searched (codes "for") refl, (number shape.n (omega (arith, keeps.n)), (number shape.width keeps.width, (number shape.height keeps.height, (number shape.depth keeps.depth, images))))) in
    joined (shape_words shape) plain

digits1 : (n : ℕ) → n < 10 → length (decimal n) ≤ 1
digits1 n below = length-decimal-le 1 n (omega arith) (omega arith) (omega arith)

bit_digit : (is : Bool) → bit is < 10
bit_digit true = omega arith
bit_digit false = omega arith

pub shape_short : (shape : Shape) → IsShape shape → length (shape_text shape) ≤ 64
shape_short shape keeps =
    let all = length_with_spaces (shape_words shape) in
    let n = digits1 shape.n (omega (arith, keeps.n)) in
    let width = digits10 shape.width keeps.width in
    let height = digits10 shape.height keeps.height in
    let depth = digits10 shape.depth keeps.depth in
    let symmetry = digits3 shape.symmetry keeps.symmetry in
    let into = digits1 (bit shape.wrap_in) (bit_digit shape.wrap_in) in
    let out = digits1 (bit shape.wrap_out) (bit_digit shape.wrap_out) in
    omega arith
