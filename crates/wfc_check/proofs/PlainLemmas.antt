-- Bytes among which a search found no line feed.
use Rattle.std.proofs.Common.{◌≡◌, ℕ, ◌+◌, ◌<◌, ◌≤◌, true, List, ◌∷◌, ◌++◌, length, get_or, take, drop, length-take, arith}
use Rattle.std.proofs.lemmas.Bool.{false_from_ne_true}
use Rattle.std.proofs.lemmas.Grind.{common_steps}
use Rattle.std.proofs.lemmas.List.{get_or_default, get_or-take}
use Rattle.wfc_text.specs.Line.{is_line_feed}
use Rattle.wfc_check.specs.Lines.{HasNoLineFeed}

-- no line feed stands at the first places of the text
abbrev pub NoFeed : List ℕ → ℕ → Type 0
NoFeed text count = (k : ℕ) → 0 ≤ k → k < count → is_line_feed (get_or text k 0) ≡ true → ⊥

pub plain_front : (text : List ℕ) (count : ℕ) → count ≤ length text → NoFeed text count → HasNoLineFeed (take count text)
plain_front text count inside none k d below =
    let here : k < count = omega (arith, length-take count text) in
    rw (get_or-take count text k d here) (rw (get_or_default text k d 0 (omega arith)) (false_from_ne_true _ (none k (omega arith) here)))

pub plain_all : (text : List ℕ) → NoFeed text (length text) → HasNoLineFeed text
plain_all text none k d inside = rw (get_or_default text k d 0 inside) (false_from_ne_true _ (none k (omega arith) inside))

-- the text is cut at its first line feed
pub cut_at : (text : List ℕ) (at : ℕ) → at < length text → get_or text at 0 ≡ 10 → text ≡ take at text ++ 10 ∷ drop (at + 1) text
cut_at text at inside feed = grind (arith, common_steps)
