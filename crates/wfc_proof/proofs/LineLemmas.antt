-- Bytes spell a line exactly where they are its text.
use Rattle.std.proofs.Common.{◌≡◌, ℕ, ◌-◌, ◌^◌, ◌<◌, ◌≤◌, Bool, true, false, cond, nat_le, List, [], ◌∷◌, codes, decimal, Option, None, Some, Ok, refl, sym, ap, ◌∙◌, subst, arith}
use Rattle.std.specs.Option.{option_map, ok_or}
use Rattle.std.specs.List.{All}
use Rattle.std.specs.Str.{bytes_eq}
use Rattle.std.proofs.lemmas.Bool.Decides.{nat_tests}
use Rattle.std.proofs.lemmas.List.Elements.{All-cons}
use Rattle.std.proofs.lemmas.List.Splits.{join_with_byte-slice_split}
use Rattle.std.proofs.lemmas.Slice.Eq.{bytes_eq-Decides}
use Rattle.wfc_proof.specs.declared.Line.{Line}
use Rattle.wfc_proof.specs.declared.Line.TheVariants.{Remove, Span, Try, Empty, End, Found, Out}
use Rattle.wfc_proof.specs.declared.text.LineFault.TheVariants.{BadLine}
use Rattle.wfc_proof.specs.Words.{is_blank_byte, spaced_words, with_spaces}
use Rattle.wfc_proof.specs.Text.{line_words, line_text, IsOfBoth, IsOfFormat1, IsOfFormat2, cell_word, value_word, dir_word, removal, span, trial, line_of_mark, removal_of, span_of, trial_of, empty_of, mark_of, either_of, line_of_words, line_2_of_words, line_of, line_2_of}
use Rattle.wfc_proof.proofs.WordLemmas.{AreSpaceless, spaced_back, decimal_spaceless, decimal_within-decimal, decimal_within-some}

-- ---- from words to lines

-- these words are those of the line, which keeps to what is asked of it
record Are (Keeps : Line → Type 0) (words : List (List ℕ)) (line : Line) : Type 0 where
  are : words ≡ line_words line
  keeps : Keeps line

-- a line that is answered is the one that was made
answered : (Keeps : Line → Type 0) (words : List (List ℕ)) (made line : Line) → Some made ≡ Some line → words ≡ line_words made → Keeps made → Are Keeps words line
answered Keeps words made line is same keeps = let one : made ≡ line = cc in subst (λ l. Are Keeps words l) one (record { are = same; keeps = keeps })

-- a word that is read as a cell, a value or a direction is its decimal text, within the limit
cell_read : (word : List ℕ) (n : ℕ) → cell_word word ≡ Some n → (word ≡ decimal n) × (n < 2 ^ 32)
cell_read word n is = let read = decimal_within-some (2 ^ 32 - 1) word n is in (read.0, omega (arith, read.1))

value_read : (word : List ℕ) (n : ℕ) → value_word word ≡ Some n → (word ≡ decimal n) × (n < 2 ^ 16)
value_read word n is = let read = decimal_within-some (2 ^ 16 - 1) word n is in (read.0, omega (arith, read.1))

dir_read : (word : List ℕ) (n : ℕ) → dir_word word ≡ Some n → (word ≡ decimal n) × (n < 2 ^ 8)
dir_read word n is = let read = decimal_within-some (2 ^ 8 - 1) word n is in (read.0, omega (arith, read.1))

removal-is : (words : List (List ℕ)) (line : Line) → removal_of words ≡ Some line → Are IsOfFormat1 (codes "r" ∷ words) line
removal-is (c ∷ v ∷ d ∷ []) line is = of (cell_word c) (value_word v) (dir_word d) refl refl refl is
  where
    of : (x y z : Option ℕ) → cell_word c ≡ x → value_word v ≡ y → dir_word d ≡ z → removal x y z ≡ Some line → Are IsOfFormat1 (codes "r" ∷ c ∷ v ∷ d ∷ []) line
    of (Some x) (Some y) (Some z) ex ey ez is =
        let cell = cell_read c x ex in
        let value = value_read v y ey in
        let dir = dir_read d z ez in
        answered IsOfFormat1 _ (Remove x y z) line is (λ i. codes "r" ∷ cell.0 i ∷ value.0 i ∷ dir.0 i ∷ []) (cell.1, value.1, dir.1)
    of None y z ex ey ez is = cc
    of (Some x) None z ex ey ez is = cc
    of (Some x) (Some y) None ex ey ez is = cc
removal-is [] line is = cc
removal-is (c ∷ []) line is = cc
removal-is (c ∷ v ∷ []) line is = cc
removal-is (c ∷ v ∷ d ∷ e ∷ words) line is = cc

span-is : (words : List (List ℕ)) (line : Line) → span_of words ≡ Some line → Are IsOfFormat2 (codes "r" ∷ words) line
span-is (c ∷ v ∷ w ∷ d ∷ []) line is = of (cell_word c) (value_word v) (value_word w) (dir_word d) refl refl refl refl is
  where
    of : (x y u z : Option ℕ) → cell_word c ≡ x → value_word v ≡ y → value_word w ≡ u → dir_word d ≡ z → span x y u z ≡ Some line → Are IsOfFormat2 (codes "r" ∷ c ∷ v ∷ w ∷ d ∷ []) line
    of (Some x) (Some y) (Some u) (Some z) ex ey eu ez is = by (nat_le y u) refl is
      where
        by : (t : Bool) → nat_le y u ≡ t → cond t (Some (Span x y u z)) None ≡ Some line → Are IsOfFormat2 (codes "r" ∷ c ∷ v ∷ w ∷ d ∷ []) line
        by false e none = cc
        by true e is =
            let cell = cell_read c x ex in
            let first = value_read v y ey in
            let last = value_read w u eu in
            let dir = dir_read d z ez in
            let order : y ≤ u = grind (arith, nat_tests) in
            answered IsOfFormat2 _ (Span x y u z) line is (λ i. codes "r" ∷ cell.0 i ∷ first.0 i ∷ last.0 i ∷ dir.0 i ∷ []) (cell.1, order, last.1, dir.1)
    of None y u z ex ey eu ez is = cc
    of (Some x) None u z ex ey eu ez is = cc
    of (Some x) (Some y) None z ex ey eu ez is = cc
    of (Some x) (Some y) (Some u) None ex ey eu ez is = cc
span-is [] line is = cc
span-is (c ∷ []) line is = cc
span-is (c ∷ v ∷ []) line is = cc
span-is (c ∷ v ∷ w ∷ []) line is = cc
span-is (c ∷ v ∷ w ∷ d ∷ e ∷ words) line is = cc

trial-is : (words : List (List ℕ)) (line : Line) → trial_of words ≡ Some line → Are IsOfBoth (codes "t" ∷ words) line
trial-is (c ∷ v ∷ []) line is = of (cell_word c) (value_word v) refl refl is
  where
    of : (x y : Option ℕ) → cell_word c ≡ x → value_word v ≡ y → trial x y ≡ Some line → Are IsOfBoth (codes "t" ∷ c ∷ v ∷ []) line
    of (Some x) (Some y) ex ey is =
        let cell = cell_read c x ex in
        let value = value_read v y ey in
        answered IsOfBoth _ (Try x y) line is (λ i. codes "t" ∷ cell.0 i ∷ value.0 i ∷ []) (cell.1, value.1)
    of None y ex ey is = cc
    of (Some x) None ex ey is = cc
trial-is [] line is = cc
trial-is (c ∷ []) line is = cc
trial-is (c ∷ v ∷ w ∷ words) line is = cc

empty-is : (words : List (List ℕ)) (line : Line) → empty_of words ≡ Some line → Are IsOfBoth (codes "x" ∷ words) line
empty-is (c ∷ []) line is = of (cell_word c) refl is
  where
    of : (x : Option ℕ) → cell_word c ≡ x → option_map Empty x ≡ Some line → Are IsOfBoth (codes "x" ∷ c ∷ []) line
    of (Some x) ex is =
        let cell = cell_read c x ex in
        answered IsOfBoth _ (Empty x) line is (λ i. codes "x" ∷ cell.0 i ∷ []) cell.1
    of None ex is = cc
empty-is [] line is = cc
empty-is (c ∷ v ∷ words) line is = cc

-- a word that is one of the letters
letter : (word text : List ℕ) → bytes_eq word text ≡ true → word ≡ text
letter word text is = (bytes_eq-Decides word text).0 is

mark-is : (word : List ℕ) (line : Line) → line_of_mark word ≡ Some line → Are IsOfBoth (word ∷ []) line
mark-is word line is = q (bytes_eq word (codes "q")) (bytes_eq word (codes "s")) (bytes_eq word (codes "o")) refl refl refl is
  where
    q : (a b c : Bool) → bytes_eq word (codes "q") ≡ a → bytes_eq word (codes "s") ≡ b → bytes_eq word (codes "o") ≡ c
        → cond a (Some End) (cond b (Some Found) (cond c (Some Out) None)) ≡ Some line → Are IsOfBoth (word ∷ []) line
    q true b c ea eb ec is = answered IsOfBoth _ End line is (ap (λ w. w ∷ []) (letter word (codes "q") ea)) (record {})
    q false true c ea eb ec is = answered IsOfBoth _ Found line is (ap (λ w. w ∷ []) (letter word (codes "s") eb)) (record {})
    q false false true ea eb ec is = answered IsOfBoth _ Out line is (ap (λ w. w ∷ []) (letter word (codes "o") ec)) (record {})
    q false false false ea eb ec is = cc

either-is : (word : List ℕ) (words : List (List ℕ)) (line : Line) → either_of word words ≡ Some line → Are IsOfBoth (word ∷ words) line
either-is word words line is = by (bytes_eq word (codes "t")) (bytes_eq word (codes "x")) refl refl is
  where
    alone : (ws : List (List ℕ)) → mark_of word ws ≡ Some line → Are IsOfBoth (word ∷ ws) line
    alone [] is = mark-is word line is
    alone (next ∷ ws) is = cc

    by : (a b : Bool) → bytes_eq word (codes "t") ≡ a → bytes_eq word (codes "x") ≡ b
        → cond a (trial_of words) (cond b (empty_of words) (mark_of word words)) ≡ Some line → Are IsOfBoth (word ∷ words) line
    by true b ea eb is = subst (λ w. Are IsOfBoth (w ∷ words) line) (sym (letter word (codes "t") ea)) (trial-is words line is)
    by false true ea eb is = subst (λ w. Are IsOfBoth (w ∷ words) line) (sym (letter word (codes "x") eb)) (empty-is words line is)
    by false false ea eb is = alone words is

-- what both formats have, each has
of_1 : (line : Line) → IsOfBoth line → IsOfFormat1 line
of_1 (Remove c v d) keeps = absurd keeps
of_1 (Span c first last d) keeps = absurd keeps
of_1 (Try c v) keeps = keeps
of_1 (Empty c) keeps = keeps
of_1 End keeps = keeps
of_1 Found keeps = keeps
of_1 Out keeps = keeps

of_2 : (line : Line) → IsOfBoth line → IsOfFormat2 line
of_2 (Remove c v d) keeps = absurd keeps
of_2 (Span c first last d) keeps = absurd keeps
of_2 (Try c v) keeps = keeps
of_2 (Empty c) keeps = keeps
of_2 End keeps = keeps
of_2 Found keeps = keeps
of_2 Out keeps = keeps

line_words-is : (words : List (List ℕ)) (line : Line) → line_of_words words ≡ Some line → Are IsOfFormat1 words line
line_words-is [] line is = cc
line_words-is (word ∷ words) line is = by (bytes_eq word (codes "r")) refl is
  where
    by : (a : Bool) → bytes_eq word (codes "r") ≡ a → cond a (removal_of words) (either_of word words) ≡ Some line → Are IsOfFormat1 (word ∷ words) line
    by true e is = subst (λ w. Are IsOfFormat1 (w ∷ words) line) (sym (letter word (codes "r") e)) (removal-is words line is)
    by false e is = let are = either-is word words line is in record { are = are.are; keeps = of_1 line are.keeps }

line_2_words-is : (words : List (List ℕ)) (line : Line) → line_2_of_words words ≡ Some line → Are IsOfFormat2 words line
line_2_words-is [] line is = cc
line_2_words-is (word ∷ words) line is = by (bytes_eq word (codes "r")) refl is
  where
    by : (a : Bool) → bytes_eq word (codes "r") ≡ a → cond a (span_of words) (either_of word words) ≡ Some line → Are IsOfFormat2 (word ∷ words) line
    by true e is = subst (λ w. Are IsOfFormat2 (w ∷ words) line) (sym (letter word (codes "r") e)) (span-is words line is)
    by false e is = let are = either-is word words line is in record { are = are.are; keeps = of_2 line are.keeps }

-- an answer with its fault left out
found : (o : Option Line) (line : Line) → ok_or o BadLine ≡ Ok line → o ≡ Some line
found None line is = cc
found (Some made) line is = let same : made ≡ line = cc in ap Some same

-- the text of the words of a line is the line
pub with_spaces-back : (bytes : List ℕ) → with_spaces (spaced_words bytes) ≡ bytes
with_spaces-back bytes = join_with_byte-slice_split 32 bytes

pub line_of-is : (bytes : List ℕ) (line : Line) → line_of bytes ≡ Ok line → (bytes ≡ line_text line) × IsOfFormat1 line
line_of-is bytes line is =
    let are = line_words-is (spaced_words bytes) line (found (line_of_words (spaced_words bytes)) line is) in
    (sym (with_spaces-back bytes) ∙ ap with_spaces are.are, are.keeps)

pub line_2_of-is : (bytes : List ℕ) (line : Line) → line_2_of bytes ≡ Ok line → (bytes ≡ line_text line) × IsOfFormat2 line
line_2_of-is bytes line is =
    let are = line_2_words-is (spaced_words bytes) line (found (line_2_of_words (spaced_words bytes)) line is) in
    (sym (with_spaces-back bytes) ∙ ap with_spaces are.are, are.keeps)

-- ---- from lines to words

cell_back : (n : ℕ) → n < 2 ^ 32 → cell_word (decimal n) ≡ Some n
cell_back n below = decimal_within-decimal (2 ^ 32 - 1) n (omega arith) (omega arith)

value_back : (n : ℕ) → n < 2 ^ 16 → value_word (decimal n) ≡ Some n
value_back n below = decimal_within-decimal (2 ^ 16 - 1) n (omega arith) (omega arith)

dir_back : (n : ℕ) → n < 2 ^ 8 → dir_word (decimal n) ≡ Some n
dir_back n below = decimal_within-decimal (2 ^ 8 - 1) n (omega arith) (omega arith)

-- a letter alone has no blank
lone : (b : ℕ) → is_blank_byte b ≡ false → All (λ x. is_blank_byte x ≡ false) (b ∷ [])
lone b is = All-cons (λ x. is_blank_byte x ≡ false) b [] is (λ k d inside. absurd (omega arith))

-- a line of its text is read as it was
spelled_back : (line : Line) → AreSpaceless (line_words line) → spaced_words (line_text line) ≡ line_words line
spelled_back (Remove c v d) spaceless = spaced_back _ _ spaceless
spelled_back (Span c first last d) spaceless = spaced_back _ _ spaceless
spelled_back (Try c v) spaceless = spaced_back _ _ spaceless
spelled_back (Empty c) spaceless = spaced_back _ _ spaceless
spelled_back End spaceless = spaced_back _ _ spaceless
spelled_back Found spaceless = spaced_back _ _ spaceless
spelled_back Out spaceless = spaced_back _ _ spaceless

r : All (λ x. is_blank_byte x ≡ false) (codes "r")
r = lone 114 refl

t : All (λ x. is_blank_byte x ≡ false) (codes "t")
t = lone 116 refl

x : All (λ x. is_blank_byte x ≡ false) (codes "x")
x = lone 120 refl

plain : (n : ℕ) → n < 2 ^ 32 → All (λ x. is_blank_byte x ≡ false) (decimal n)
plain n below = decimal_spaceless n (omega arith)

spaceless_1 : (line : Line) → IsOfFormat1 line → AreSpaceless (line_words line)
spaceless_1 (Remove c v d) keeps = (r, (plain c keeps.0, (plain v (omega (arith, keeps.1)), (plain d (omega (arith, keeps.2)), record {}))))
spaceless_1 (Span c first last d) keeps = absurd keeps
spaceless_1 (Try c v) keeps = (t, (plain c keeps.0, (plain v (omega (arith, keeps.1)), record {})))
spaceless_1 (Empty c) keeps = (x, (plain c keeps, record {}))
spaceless_1 End keeps = (lone 113 refl, record {})
spaceless_1 Found keeps = (lone 115 refl, record {})
spaceless_1 Out keeps = (lone 111 refl, record {})

spaceless_2 : (line : Line) → IsOfFormat2 line → AreSpaceless (line_words line)
spaceless_2 (Remove c v d) keeps = absurd keeps
spaceless_2 (Span c first last d) keeps = (r, (plain c keeps.0, (plain first (omega (arith, keeps.1, keeps.2)), (plain last (omega (arith, keeps.2)), (plain d (omega (arith, keeps.3)), record {})))))
spaceless_2 (Try c v) keeps = (t, (plain c keeps.0, (plain v (omega (arith, keeps.1)), record {})))
spaceless_2 (Empty c) keeps = (x, (plain c keeps, record {}))
spaceless_2 End keeps = (lone 113 refl, record {})
spaceless_2 Found keeps = (lone 115 refl, record {})
spaceless_2 Out keeps = (lone 111 refl, record {})

words_back_1 : (line : Line) → IsOfFormat1 line → line_of_words (line_words line) ≡ Some line
words_back_1 (Remove c v d) keeps = λ i. removal (cell_back c keeps.0 i) (value_back v keeps.1 i) (dir_back d keeps.2 i)
words_back_1 (Span c first last d) keeps = absurd keeps
words_back_1 (Try c v) keeps = λ i. trial (cell_back c keeps.0 i) (value_back v keeps.1 i)
words_back_1 (Empty c) keeps = λ i. option_map Empty (cell_back c keeps i)
words_back_1 End keeps = refl
words_back_1 Found keeps = refl
words_back_1 Out keeps = refl

ordered : (x : Line) (first last : ℕ) → first ≤ last → cond (nat_le first last) (Some x) None ≡ Some x
ordered x first last order = let is : nat_le first last ≡ true = grind (arith, nat_tests) in ap (λ b. cond b (Some x) None) is

words_back_2 : (line : Line) → IsOfFormat2 line → line_2_of_words (line_words line) ≡ Some line
words_back_2 (Remove c v d) keeps = absurd keeps
words_back_2 (Span c first last d) keeps =
    let low : first < 2 ^ 16 = omega (arith, keeps.1, keeps.2) in
    (λ i. span (cell_back c keeps.0 i) (value_back first low i) (value_back last keeps.2 i) (dir_back d keeps.3 i)) ∙ ordered (Span c first last d) first last keeps.1
words_back_2 (Try c v) keeps = λ i. trial (cell_back c keeps.0 i) (value_back v keeps.1 i)
words_back_2 (Empty c) keeps = λ i. option_map Empty (cell_back c keeps i)
words_back_2 End keeps = refl
words_back_2 Found keeps = refl
words_back_2 Out keeps = refl

pub is-line_of : (bytes : List ℕ) (line : Line) → bytes ≡ line_text line → IsOfFormat1 line → line_of bytes ≡ Ok line
is-line_of bytes line text keeps =
    ap line_of text ∙ ap (λ words. ok_or (line_of_words words) BadLine) (spelled_back line (spaceless_1 line keeps)) ∙ ap (λ o. ok_or o BadLine) (words_back_1 line keeps)

pub is-line_2_of : (bytes : List ℕ) (line : Line) → bytes ≡ line_text line → IsOfFormat2 line → line_2_of bytes ≡ Ok line
is-line_2_of bytes line text keeps =
    ap line_2_of text ∙ ap (λ words. ok_or (line_2_of_words words) BadLine) (spelled_back line (spaceless_2 line keeps)) ∙ ap (λ o. ok_or o BadLine) (words_back_2 line keeps)
