-- The answer to what is left of a text that is read line by line.
use Rattle.std.proofs.Common.{◌≡◌, ℕ, suc, ◌+◌, ◌<◌, ◌≤◌, nat_lt, Bool, true, false, cond, List, [], ◌∷◌, ◌++◌, length, take, Err, ap, ◌∙◌, refl, arith, length-append}
use Rattle.std.specs.List.{slice_split, onto_first}
use Rattle.std.proofs.lemmas.Bool.Decides.{nat_tests}
use Rattle.std.proofs.lemmas.List.{take_all, take-append-le}
use Rattle.std.proofs.lemmas.List.Elements.{All-head, All-tail}
use Rattle.std.proofs.lemmas.List.Splits.{slice_split_at, slice_split_none, slice_split-cons_no, length-slice_split}
use Rattle.std.proofs.Math.Seq.{take-append-add}
use Rattle.wfc_text.specs.Line.{is_line_feed}
use Rattle.wfc_problem.specs.Network.{Network}
use Rattle.wfc_proof.specs.declared.heads.Shape.{Shape}
use Rattle.wfc_check.specs.declared.fault.CheckFault.TheVariants.{BadLine, TooLong}
use Rattle.wfc_check.specs.Lines.{HasNoLineFeed}
use Rattle.wfc_check.specs.Text.{TextPlace, line_led, answer_at_end, and_read, answer_to_parts, answer_from, stage_answer}

-- a part that others follow
pub answer-cons : (P : Network) (shape : Shape) (over : Bool) (number : ℕ) (at : TextPlace) (line : List ℕ) (parts : List (List ℕ)) → 0 < length parts
    → answer_to_parts P shape over number at (line ∷ parts) ≡ and_read (line_led P shape number at line) (λ after. answer_to_parts P shape over (number + 1) after parts)
answer-cons P shape over number at line [] some = absurd (omega arith)
answer-cons P shape over number at line (next ∷ parts) some = refl

-- a line with its end
pub answer-feed : (P : Network) (shape : Shape) (room number : ℕ) (at : TextPlace) (line left : List ℕ) → HasNoLineFeed line
    → answer_from P shape (room + (length line + 1)) number at (line ++ 10 ∷ left) ≡ and_read (line_led P shape number at line) (λ after. answer_from P shape room (number + 1) after left)
answer-feed P shape room number at line left plain =
    let parts = slice_split is_line_feed (take room left) in
    let over : nat_lt (room + (length line + 1)) (length (line ++ 10 ∷ left)) ≡ nat_lt room (length left) = grind (arith, nat_tests, length-append line (10 ∷ left)) in
    let sum : room + (length line + 1) ≡ length line + suc room = omega arith in
    let front : take (room + (length line + 1)) (line ++ 10 ∷ left) ≡ line ++ 10 ∷ take room left = ap (λ n. take n (line ++ 10 ∷ left)) sum ∙ take-append-add line (10 ∷ left) (suc room) in
    let split : slice_split is_line_feed (take (room + (length line + 1)) (line ++ 10 ∷ left)) ≡ line ∷ parts = ap (slice_split is_line_feed) front ∙ slice_split_at is_line_feed line 10 (take room left) plain refl in
    ap (λ o. answer_to_parts P shape o number at (slice_split is_line_feed (take (room + (length line + 1)) (line ++ 10 ∷ left)))) over
    ∙ ap (answer_to_parts P shape (nat_lt room (length left)) number at) split
    ∙ answer-cons P shape (nat_lt room (length left)) number at line parts (omega (arith, length-slice_split is_line_feed (take room left)))

-- a text that may be read to its end
pub answer-within : (P : Network) (shape : Shape) (room number : ℕ) (at : TextPlace) (text : List ℕ) → length text ≤ room
    → answer_from P shape room number at text ≡ answer_to_parts P shape false number at (slice_split is_line_feed text)
answer-within P shape room number at text within =
    let over : nat_lt room (length text) ≡ false = grind (arith, nat_tests, within) in
    ap (λ o. answer_to_parts P shape o number at (slice_split is_line_feed (take room text))) over
    ∙ ap (λ bytes. answer_to_parts P shape false number at (slice_split is_line_feed bytes)) (take_all room text within)

-- the last bytes of a text
pub answer-end : (P : Network) (shape : Shape) (room number : ℕ) (at : TextPlace) (line : List ℕ) → HasNoLineFeed line → length line ≤ room
    → answer_from P shape room number at line ≡ answer_at_end number at line
answer-end P shape room number at line plain within =
    answer-within P shape room number at line within ∙ ap (answer_to_parts P shape false number at) (slice_split_none is_line_feed line plain)

-- all bytes that may be read, which may still become a line
pub answer-over : (P : Network) (shape : Shape) (room number : ℕ) (at : TextPlace) (line left : List ℕ) → HasNoLineFeed line → length line ≤ 64 → room ≡ length line → 0 < length left
    → answer_from P shape room number at (line ++ left) ≡ Err TooLong
answer-over P shape room number at line left plain short full some =
    let over : nat_lt room (length (line ++ left)) ≡ true = grind (arith, nat_tests, full, some, length-append line left) in
    let front : take room (line ++ left) ≡ line = take-append-le room line left (omega (arith, full)) ∙ take_all room line (omega (arith, full)) in
    let split : slice_split is_line_feed (take room (line ++ left)) ≡ line ∷ [] = ap (slice_split is_line_feed) front ∙ slice_split_none is_line_feed line plain in
    let fits : nat_lt 64 (length line) ≡ false = grind (arith, nat_tests, short) in
    ap (λ o. answer_to_parts P shape o number at (slice_split is_line_feed (take room (line ++ left)))) over
    ∙ ap (answer_to_parts P shape true number at) split
    ∙ ap (λ test. cond test (Err (BadLine number)) (Err TooLong)) fits

-- what is split begins with a part
pub record Split (text : List ℕ) : Type 0 where
  pub first : List ℕ
  pub others : List (List ℕ)
  pub is : slice_split is_line_feed text ≡ first ∷ others

pub split_some : (text : List ℕ) → Split text
split_some text = by_parts (slice_split is_line_feed text) refl (omega (arith, length-slice_split is_line_feed text))
  where
    by_parts : (parts : List (List ℕ)) → slice_split is_line_feed text ≡ parts → 0 < length parts → Split text
    by_parts [] is some = absurd (omega arith)
    by_parts (first ∷ others) is some = record { first = first; others = others; is = is }

split_plain : (line rest : List ℕ) (split : Split rest) → HasNoLineFeed line → slice_split is_line_feed (line ++ rest) ≡ (line ++ split.first) ∷ split.others
split_plain [] rest split plain = split.is
split_plain (byte ∷ line) rest split plain =
    slice_split-cons_no is_line_feed byte (line ++ rest) (All-head (λ b. is_line_feed b ≡ false) byte line plain)
    ∙ ap (onto_first byte) (split_plain line rest split (All-tail (λ b. is_line_feed b ≡ false) byte line plain))

-- a line that is too long
pub answer-long : (P : Network) (shape : Shape) (room number : ℕ) (at : TextPlace) (line left : List ℕ) → HasNoLineFeed line → length line ≡ 65
    → answer_from P shape (room + length line) number at (line ++ left) ≡ Err (BadLine number)
answer-long P shape room number at line left plain long =
    let sum : room + length line ≡ length line + room = omega arith in
    let front : take (room + length line) (line ++ left) ≡ line ++ take room left = ap (λ n. take n (line ++ left)) sum ∙ take-append-add line left room in
    let behind = split_some (take room left) in
    let split : slice_split is_line_feed (take (room + length line) (line ++ left)) ≡ (line ++ behind.first) ∷ behind.others = ap (slice_split is_line_feed) front ∙ split_plain line (take room left) behind plain in
    let over = nat_lt (room + length line) (length (line ++ left)) in
    ap (answer_to_parts P shape over number at) split ∙ by_parts over (line ++ behind.first) behind.others (omega (arith, long, length-append line behind.first))
  where
    by_parts : (over : Bool) (part : List ℕ) (parts : List (List ℕ)) → 64 < length part → answer_to_parts P shape over number at (part ∷ parts) ≡ Err (BadLine number)
    by_parts true part [] long =
        let past : nat_lt 64 (length part) ≡ true = grind (arith, nat_tests, long) in
        ap (λ test. cond test (Err (BadLine number)) (Err TooLong)) past
    by_parts false [] [] long = absurd (omega arith)
    by_parts false (byte ∷ part) [] long = refl
    by_parts over part (next ∷ parts) long =
        let past : nat_lt 64 (length part) ≡ true = grind (arith, nat_tests, long) in
        ap (λ test. and_read (cond test (Err (BadLine number)) (stage_answer P shape number at.stage at.point part)) (λ after. answer_to_parts P shape over (number + 1) after (next ∷ parts))) past
