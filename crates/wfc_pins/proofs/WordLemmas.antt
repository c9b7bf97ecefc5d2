-- The words of a line: the first word, and what stands behind it.
use Rattle.std.proofs.Common.{◌≡◌, ℕ, zero, suc, ◌+◌, ◌<◌, ◌≤◌, Bool, true, false, not, List, [], ◌∷◌, length, get_or, take, drop, filter, position, Option, None, Some, refl, sym, ap, ◌∙◌, subst, add-one, add-zero, arith, length-drop, length-take}
use Rattle.std.proofs.Math.Seq.{drop-cons}
use Rattle.std.proofs.lemmas.Bool.{not-true, not-false, false≢true}
use Rattle.std.proofs.lemmas.List.{get_or-drop}
use Rattle.std.proofs.lemmas.List.Quantifiers.{position-Some}
use Rattle.std.proofs.lemmas.List.Splits.{slice_split_none, slice_split_first, slice_split-cons_yes}
use Rattle.std.proofs.lemmas.List.Sums.{position_or_len_is}
use Rattle.std.specs.Prelude.{is_none}
use Rattle.std.specs.List.{slice_split, position_or_len}
use Rattle.wfc_lists.proofs.Positions.{position_fails}
use Rattle.wfc_pins.specs.Words.{is_blank, is_empty, words_of}

-- what stands between the elements that pass a test, where there is something
abbrev pub parts : (ℕ → Bool) → List ℕ → List (List ℕ)
parts p text = filter (λ part. not (is_empty part)) (slice_split p text)

-- a part that has something is kept
kept : (part : List ℕ) (rest : List (List ℕ)) → 0 < length part → filter (λ part. not (is_empty part)) (part ∷ rest) ≡ part ∷ filter (λ part. not (is_empty part)) rest
kept [] rest some = absurd (omega arith)
kept (x ∷ part) rest some = refl

-- an element that passes is no part of any
passed : (p : ℕ → Bool) (x : ℕ) (xs : List ℕ) → p x ≡ true → parts p (x ∷ xs) ≡ parts p xs
passed p x xs is = ap (filter (λ part. not (is_empty part))) (slice_split-cons_yes p x xs is)

-- the elements in front, all of which pass, are no part of any
pub parts-drop : (p : ℕ → Bool) (k : ℕ) (text : List ℕ) → ((i : ℕ) → i < k → p (get_or text i 0) ≡ true) → k ≤ length text → parts p text ≡ parts p (drop k text)
parts-drop p zero text pass within = refl
parts-drop p (suc k) [] pass within = absurd (omega arith)
parts-drop p (suc k) (x ∷ xs) pass within = passed p x xs (pass 0 (omega arith)) ∙ parts-drop p k xs (λ i below. pass (suc i) (omega arith)) (omega arith)

-- where all pass, there is no part
pub parts-none : (p : ℕ → Bool) (text : List ℕ) → ((i : ℕ) → i < length text → p (get_or text i 0) ≡ true) → parts p text ≡ []
parts-none p [] pass = refl
parts-none p (x ∷ xs) pass = passed p x xs (pass 0 (omega arith)) ∙ parts-none p xs (λ i below. pass (suc i) (omega arith))

-- the first part ends at the first element that passes
pub parts-first : (p : ℕ → Bool) (text : List ℕ) (k : ℕ) → position p text ≡ Some k → 0 < k → parts p text ≡ take k text ∷ parts p (drop k text)
parts-first p text k found some =
    let at = position-Some p text k 0 found in
    let within : k < length text = at.0 in
    let place : position_or_len p text ≡ k = position_or_len_is p text k 0 (omega arith) at.2 (λ _. at.1) in
    let cut : slice_split p text ≡ take k text ∷ slice_split p (drop (k + 1) text) = subst (λ n. slice_split p text ≡ take n text ∷ slice_split p (drop (n + 1) text)) place (slice_split_first p text 0 (omega arith)) in
    let behind : drop k text ≡ get_or text k 0 ∷ drop (k + 1) text = rw add-one (drop-cons text k 0 within) in
    ap (filter (λ part. not (is_empty part))) cut
    ∙ kept (take k text) (slice_split p (drop (k + 1) text)) (omega (arith, length-take k text))
    ∙ ap (λ rest. take k text ∷ rest) (sym (ap (parts p) behind ∙ passed p (get_or text k 0) (drop (k + 1) text) at.1))

-- where none passes, the text is one part
pub parts-last : (p : ℕ → Bool) (text : List ℕ) → position p text ≡ None → 0 < length text → parts p text ≡ text ∷ []
parts-last p text none some = ap (filter (λ part. not (is_empty part))) (slice_split_none p text (λ k d inside. position_fails p text none k d inside)) ∙ kept text [] some

-- whether a byte is part of a word
abbrev pub is_other : ℕ → Bool
is_other byte = not (is_blank byte)

-- the blanks in front of the first word, and the byte at which it begins
at_word : (line : List ℕ) (start : ℕ) → position is_other line ≡ Some start → (words_of line ≡ words_of (drop start line)) × (0 < length (drop start line)) × (is_blank (get_or (drop start line) 0 0) ≡ false)
at_word line start found =
    let at = position-Some is_other line start 0 found in
    let here : get_or (drop start line) 0 0 ≡ get_or line start 0 = rw (get_or-drop start line 0 0, add-zero) refl in
    (parts-drop is_blank start line (λ i below. not-false _ (at.2 i below)) (omega (arith, at.0)), omega (arith, length-drop start line, at.0), ap is_blank here ∙ not-true _ at.1)

-- a word that a blank ends
pub word-first : (line : List ℕ) (start finish : ℕ) → position is_other line ≡ Some start → position is_blank (drop start line) ≡ Some finish → words_of line ≡ take finish (drop start line) ∷ words_of (drop finish (drop start line))
word-first line start finish found ends = at.0 ∙ parts-first is_blank (drop start line) finish ends (some finish ends)
  where
    at : (words_of line ≡ words_of (drop start line)) × (0 < length (drop start line)) × (is_blank (get_or (drop start line) 0 0) ≡ false)
    at = at_word line start found

    some : (finish : ℕ) → position is_blank (drop start line) ≡ Some finish → 0 < finish
    some zero ends = absurd (false≢true (sym at.2 ∙ (position-Some is_blank (drop start line) 0 0 ends).1))
    some (suc k) ends = omega arith

-- a word at the end of the line
pub word-last : (line : List ℕ) (start : ℕ) → position is_other line ≡ Some start → position is_blank (drop start line) ≡ None → words_of line ≡ drop start line ∷ []
word-last line start found none = let at = at_word line start found in at.0 ∙ parts-last is_blank (drop start line) none at.1

-- a line of blanks alone has no word
pub wordless : (line : List ℕ) → position is_other line ≡ None → words_of line ≡ []
wordless line none = parts-none is_blank line (λ i below. not-false _ (position_fails is_other line none i 0 below))

-- a line with another byte has one
pub worded : (line : List ℕ) (start : ℕ) → position is_other line ≡ Some start → is_empty (words_of line) ≡ false
worded line start found = by_end (position is_blank (drop start line)) refl
  where
    by_end : (o : Option ℕ) → position is_blank (drop start line) ≡ o → is_empty (words_of line) ≡ false
    by_end None is = ap is_empty (word-last line start found is)
    by_end (Some finish) is = ap is_empty (word-first line start finish found is)

-- whether a line has no word is whether each byte is a blank
pub is_empty-words : (line : List ℕ) → is_empty (words_of line) ≡ is_none (position is_other line)
is_empty-words line = by_start (position is_other line) refl
  where
    by_start : (o : Option ℕ) → position is_other line ≡ o → is_empty (words_of line) ≡ is_none o
    by_start None is = ap is_empty (wordless line is)
    by_start (Some start) is = worded line start is
