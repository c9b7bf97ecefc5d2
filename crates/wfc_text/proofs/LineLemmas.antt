-- The first line of a text.
use Rattle.std.proofs.Common.{◌≡◌, ℕ, ◌+◌, ◌<◌, ◌≤◌, true, false, List, [], ◌∷◌, ◌++◌, length, get_or, take, drop, refl, ap, ◌∙◌, subst, length-take, arith}
use Rattle.std.proofs.lemmas.Grind.{common_steps}
use Rattle.std.proofs.lemmas.Bool.{false_from_ne_true}
use Rattle.std.proofs.lemmas.List.{get_or_default, get_or-take}
use Rattle.std.proofs.lemmas.List.Splits.{slice_split_at, slice_split_none, length-slice_split}
use Rattle.std.specs.List.{All, slice_split}
use Rattle.std.specs.Str.Lines.{strip_carriage_return}
use Rattle.wfc_text.specs.Line.{is_line_feed, lines_of_parts, lines_from}

-- a part that another follows is a line with its end
lines_of_parts-cons : (n : ℕ) (part : List ℕ) (parts : List (List ℕ)) → 0 < length parts → lines_of_parts n (part ∷ parts) ≡ record { number = n; bytes = strip_carriage_return part; ended = true } ∷ lines_of_parts (n + 1) parts
lines_of_parts-cons n part [] some = absurd (omega arith)
lines_of_parts-cons n part (next ∷ parts) some = refl

-- where no line feed stands, the test is false
plain_at : (text : List ℕ) (k d : ℕ) → k < length text → ((j : ℕ) → 0 ≤ j → j < length text → is_line_feed (get_or text j 0) ≡ true → ⊥) → is_line_feed (get_or text k d) ≡ false
plain_at text k d inside none = rw (get_or_default text k d 0 inside) (false_from_ne_true _ (none k (omega arith) inside))

-- no line feed stands before the first
plain_front : (text : List ℕ) (at : ℕ) → at < length text → ((k : ℕ) → 0 ≤ k → k < at → is_line_feed (get_or text k 0) ≡ true → ⊥) → All (λ b. is_line_feed b ≡ false) (take at text)
plain_front text at inside before k d below =
    let here : k < at = omega (arith, length-take at text) in
    rw (get_or-take at text k d here) (rw (get_or_default text k d 0 (omega arith)) (false_from_ne_true _ (before k (omega arith) here)))

-- a text that is cut behind its first line feed
pub lines_from-feed : (n : ℕ) (line rest : List ℕ) → All (λ b. is_line_feed b ≡ false) line → lines_from n (line ++ 10 ∷ rest) ≡ record { number = n; bytes = strip_carriage_return line; ended = true } ∷ lines_from (n + 1) rest
lines_from-feed n line rest plain =
    ap (lines_of_parts n) (slice_split_at is_line_feed line 10 rest plain refl)
    ∙ lines_of_parts-cons n line (slice_split is_line_feed rest) (omega (arith, length-slice_split is_line_feed rest))

-- the same at the place of the first line feed
pub lines_from-at : (n : ℕ) (text : List ℕ) (at : ℕ) → at < length text → ((k : ℕ) → 0 ≤ k → k < at → is_line_feed (get_or text k 0) ≡ true → ⊥) → get_or text at 0 ≡ 10 → lines_from n text ≡ record { number = n; bytes = strip_carriage_return (take at text); ended = true } ∷ lines_from (n + 1) (drop (at + 1) text)
lines_from-at n text at inside before feed =
    let cut : take at text ++ 10 ∷ drop (at + 1) text ≡ text = grind (arith, common_steps) in
    let plain : All (λ b. is_line_feed b ≡ false) (take at text) = plain_front text at inside before in
    subst (λ t. lines_from n t ≡ record { number = n; bytes = strip_carriage_return (take at text); ended = true } ∷ lines_from (n + 1) (drop (at + 1) text)) cut (lines_from-feed n (take at text) (drop (at + 1) text) plain)

-- a text without a line feed is one line without its end
pub lines_from-plain : (n : ℕ) (text : List ℕ) → 0 < length text → All (λ b. is_line_feed b ≡ false) text → lines_from n text ≡ record { number = n; bytes = text; ended = false } ∷ []
lines_from-plain n [] some plain = absurd (omega arith)
lines_from-plain n (b ∷ bs) some plain = ap (lines_of_parts n) (slice_split_none is_line_feed (b ∷ bs) plain)

-- the same where no line feed was found
pub lines_from-none : (n : ℕ) (text : List ℕ) → 0 < length text → ((k : ℕ) → 0 ≤ k → k < length text → is_line_feed (get_or text k 0) ≡ true → ⊥) → lines_from n text ≡ record { number = n; bytes = text; ended = false } ∷ []
lines_from-none n text some none = lines_from-plain n text some (λ k d inside. plain_at text k d inside none)
