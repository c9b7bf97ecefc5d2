-- Removals joined into spans.
use Rattle.std.proofs.Common.{◌≡◌, ℕ, zero, suc, ◌+◌, ◌-◌, ◌≤◌, Bool, true, false, cond, List, [], ◌∷◌, ◌++◌, map, Option, None, Some, is_some, Result, Ok, Err, IfOk, IfErr, refl, sym, ap, ◌∙◌, subst, arith, append_assoc, append-nil}
use Rattle.std.specs.Prelude.{◌==◌, ◌&&◌, nat_le}
use Rattle.std.specs.List.{range_with_len}
use Rattle.std.specs.Option.{option_map}
use Rattle.std.specs.Borrow.{GName}
use Rattle.std.proofs.lemmas.Bool.{and_parts, eqb-true, false≢true}
use Rattle.std.proofs.lemmas.Bool.Decides.{nat_tests}
use Rattle.std.proofs.lemmas.Grind.{flat_map-append}
use Rattle.wfc_outside.specs.Sink.{Taken, SinkView, after_bytes}
use Rattle.wfc_outside.proofs.CallerLemmas.{after_bytes-append, puts_none}
use Rattle.wfc_proof.specs.Heads.{with_line_end}
use Rattle.wfc_proof.specs.Journal.{JournalView, Target, IsWhole, counted_as, after_line, IsRefused}
use Rattle.wfc_proof.specs.Spans.{counted_lines, as_span, span_behind, one_span, join_with, growing_part, settled_part, line_if_any, Joined, nothing_joined, apart, grown_or_apart, join_line, join_on, spans_of, ending, AreJoined, is_span, is_kept, IsSpanning, IsCutApart, PutsApart}
use Rattle.wfc_proof.specs.ProofText.{IsOfFormat}
use Rattle.wfc_proof.specs.Telling.{lines_at_end, text_of, IsAt, IsBare, new_journal, IsCutShort}
use Rattle.wfc_proof.specs.Text.{line_text}
use Rattle.wfc_proof.specs.declared.Line.{Line}
use Rattle.wfc_proof.specs.declared.Line.TheVariants.{Remove, Span, Try, Empty, End, Found, Out}
use Rattle.wfc_proof.specs.declared.heads.Format.TheVariants.{Two}
use Rattle.wfc_proof.specs.declared.spans.CutOff.{CutOff}
use Rattle.wfc_proof.proofs.TellingLemmas.{Grown, put_told, cut_told, bare_before}

-- ---- lists

-- lines joined behind others
pub join_on-append : (joined : Joined) (xs ys : List Line) → join_on joined (xs ++ ys) ≡ join_on (join_on joined xs) ys
join_on-append joined [] ys = refl
join_on-append joined (x ∷ xs) ys = join_on-append (join_line joined x) xs ys

-- the removals of a span, told one by one
abbrev removals : ℕ → ℕ → ℕ → ℕ → List Line
removals c d v n = map (λ w. Remove c w d) (range_with_len v n)

-- the next value goes into the span
behind_next : (c first last d v : ℕ) → v ≡ last + 1 → span_behind c first last d (Span c v v d) ≡ Some (Span c first v d)
behind_next c first last d v next =
    let same : (c == c && (d == d && v == last + 1)) ≡ true = grind (arith, nat_tests) in ap (λ b. cond b (Some (Span c first v d)) None) same

-- removals whose values follow grow the span
grows : (done : List Line) (c first last d v n : ℕ) → v ≡ last + 1
    → join_on (record { done = done; kept = Some (Span c first last d) }) (removals c d v n) ≡ record { done = done; kept = Some (Span c first (last + n) d) }
grows done c first last d v zero next = ap (λ k. let j : Joined = record { done = done; kept = Some (Span c first k d) } in j) (omega arith)
grows done c first last d v (suc n) next =
    ap (λ o. join_on (grown_or_apart (record { done = done; kept = Some (Span c first last d) }) (Span c v v d) o) (removals c d (v + 1) n)) (behind_next c first last d v next)
    ∙ grows done c first v d (v + 1) n refl
    ∙ ap (λ k. let j : Joined = record { done = done; kept = Some (Span c first k d) } in j) (omega arith)

-- a span is its first removal, and those behind it
first_removal : (c first last d : ℕ) → first ≤ last → counted_as (Span c first last d) ≡ Remove c first d ∷ removals c d (first + 1) (last - first)
first_removal c first last d low =
    let more : last + 1 - first ≡ suc (last - first) = omega arith in ap (λ (k : ℕ). map (λ w. Remove c w d) (range_with_len first k)) more

-- with another kept span
abbrev with_kept : Joined → Option Line → Joined
with_kept joined o = record { done = joined.done; kept = o }

-- told at once or value by value, a span is joined to the same
span_at_once : (joined : Joined) (c first last d : ℕ) → first ≤ last → join_on joined (counted_as (Span c first last d)) ≡ join_line joined (Span c first last d)
span_at_once joined c first last d low =
    ap (join_on joined) (first_removal c first last d low) ∙ by joined.kept
  where
    -- with a first value that isn't joined
    alone : (o : Option Line) → join_on (apart (with_kept joined o) (Span c first first d)) (removals c d (first + 1) (last - first)) ≡ apart (with_kept joined o) (Span c first last d)
    alone o =
        grows (joined.done ++ (line_if_any o ++ [])) c first first d (first + 1) (last - first) refl
        ∙ ap (λ k. let j : Joined = record { done = joined.done ++ (line_if_any o ++ []); kept = Some (Span c first k d) } in j) (omega arith)

    -- with one that is or isn't
    test : (b : Bool) (x a e z : ℕ) → (c == x && (d == z && first == e + 1)) ≡ b
        → join_on (grown_or_apart (with_kept joined (Some (Span x a e z))) (Span c first first d) (cond b (Some (Span x a first z)) None)) (removals c d (first + 1) (last - first))
        ≡ grown_or_apart (with_kept joined (Some (Span x a e z))) (Span c first last d) (cond b (Some (Span x a last z)) None)
    test false x a e z is = alone (Some (Span x a e z))
    test true x a e z is =
        let outer = and_parts (c == x) (d == z && first == e + 1) is in
        let inner = and_parts (d == z) (first == e + 1) outer.1 in
        let cell : c ≡ x = eqb-true c x outer.0 in
        let dir : d ≡ z = eqb-true d z inner.0 in
        ap (λ y. join_on (with_kept joined (Some (Span y a first z))) (removals c d (first + 1) (last - first))) (sym cell)
        ∙ ap (λ y. join_on (with_kept joined (Some (Span c a first y))) (removals c d (first + 1) (last - first))) (sym dir)
        ∙ grows joined.done c a first d (first + 1) (last - first) refl
        ∙ (λ i. let j : Joined = record { done = joined.done; kept = Some (Span (cell i) a (let e : first + (last - first) ≡ last = omega arith in e i) (dir i)) } in j)

    by : (o : Option Line) → join_on (join_line (with_kept joined o) (Remove c first d)) (removals c d (first + 1) (last - first)) ≡ join_line (with_kept joined o) (Span c first last d)
    by None = alone None
    by (Some (Remove x v z)) = alone (Some (Remove x v z))
    by (Some (Span x a e z)) = test (c == x && (d == z && first == e + 1)) x a e z refl
    by (Some (Try x v)) = alone (Some (Try x v))
    by (Some (Empty x)) = alone (Some (Empty x))
    by (Some End) = alone (Some End)
    by (Some Found) = alone (Some Found)
    by (Some Out) = alone (Some Out)

-- a line of format 2, told as what it counts as
pub line_at_once : (joined : Joined) (line : Line) → IsWhole line → as_span line ≡ line → join_on joined (counted_as line) ≡ join_line joined line
line_at_once joined (Remove c v d) whole is = cc
line_at_once joined (Span c first last d) whole is = span_at_once joined c first last d whole
line_at_once joined (Try c v) whole is = refl
line_at_once joined (Empty c) whole is = refl
line_at_once joined End whole is = refl
line_at_once joined Found whole is = refl
line_at_once joined Out whole is = refl

-- a line is what can't grow of it and what may
pub settled_growing : (line : Line) → settled_part line ++ line_if_any (growing_part line) ≡ line ∷ []
settled_growing (Remove c v d) = refl
settled_growing (Span c first last d) = refl
settled_growing (Try c v) = refl
settled_growing (Empty c) = refl
settled_growing End = refl
settled_growing Found = refl
settled_growing Out = refl

-- a removal counts as its span does
pub span_counts : (line : Line) → counted_as (as_span line) ≡ counted_as line
span_counts (Remove c v d) = let one : v + 1 - v ≡ 1 = omega arith in ap (λ (k : ℕ). map (λ w. Remove c w d) (range_with_len v k)) one
span_counts (Span c first last d) = refl
span_counts (Try c v) = refl
span_counts (Empty c) = refl
span_counts End = refl
span_counts Found = refl
span_counts Out = refl

-- a line that was joined to what was kept: all is joined so with it
joined_apart : (lines : List Line) (kept : Option Line) (line : Line) → IsWhole line → as_span line ≡ line → join_with kept line ≡ None
    → join_on nothing_joined (counted_lines (lines ++ line_if_any kept)) ≡ record { done = lines; kept = kept }
    → join_on nothing_joined (counted_lines ((lines ++ line_if_any kept) ++ line ∷ [])) ≡ apart (record { done = lines; kept = kept }) line
joined_apart lines kept line whole is none before =
    let here : Joined = record { done = lines; kept = kept } in
    ap (join_on nothing_joined) (flat_map-append counted_as (lines ++ line_if_any kept) (line ∷ []))
    ∙ join_on-append nothing_joined (counted_lines (lines ++ line_if_any kept)) (counted_lines (line ∷ []))
    ∙ ap (λ j. join_on j (counted_lines (line ∷ []))) before
    ∙ ap (join_on here) (append-nil (counted_as line))
    ∙ line_at_once here line whole is
    ∙ ap (λ l. grown_or_apart here l (join_with kept l)) is
    ∙ ap (grown_or_apart here line) none

joined_grown : (lines : List Line) (kept : Option Line) (line span : Line) → IsWhole line → as_span line ≡ line → join_with kept line ≡ Some span
    → join_on nothing_joined (counted_lines (lines ++ line_if_any kept)) ≡ record { done = lines; kept = kept }
    → join_on nothing_joined (counted_lines ((lines ++ line_if_any kept) ++ line ∷ [])) ≡ record { done = lines; kept = Some span }
joined_grown lines kept line span whole is some before =
    let here : Joined = record { done = lines; kept = kept } in
    ap (join_on nothing_joined) (flat_map-append counted_as (lines ++ line_if_any kept) (line ∷ []))
    ∙ join_on-append nothing_joined (counted_lines (lines ++ line_if_any kept)) (counted_lines (line ∷ []))
    ∙ ap (λ j. join_on j (counted_lines (line ∷ []))) before
    ∙ ap (join_on here) (append-nil (counted_as line))
    ∙ line_at_once here line whole is
    ∙ ap (λ l. grown_or_apart here l (join_with kept l)) is
    ∙ ap (grown_or_apart here line) some

-- ---- what is kept grows

removals-append : (c d v n m : ℕ) → removals c d v (n + m) ≡ removals c d v n ++ removals c d (v + n) m
removals-append c d v zero m = λ i. removals c d (let e : v ≡ v + 0 = omega arith in e i) (let e : 0 + m ≡ m = omega arith in e i)
removals-append c d v (suc n) m =
    ap (λ k. removals c d v k) (let e : suc n + m ≡ suc (n + m) = omega arith in e)
    ∙ ap (λ ls. Remove c v d ∷ ls) (removals-append c d (v + 1) n m)
    ∙ ap (λ k. Remove c v d ∷ (removals c d (v + 1) n ++ removals c d k m)) (let e : v + 1 + n ≡ v + suc n = omega arith in e)

-- two spans that are one count as it, and it doesn't end before it begins
grown_test : (b : Bool) (c first last d x from to z : ℕ) (span : Line) → (x == c && (z == d && from == last + 1)) ≡ b → nat_le first last ≡ true → from ≤ to
    → cond b (Some (Span c first to d)) None ≡ Some span
    → (counted_as span ≡ counted_as (Span c first last d) ++ counted_as (Span x from to z)) × (is_span span ≡ true)
grown_test false c first last d x from to z span is low high e = cc
grown_test true c first last d x from to z span is low high e =
    let outer = and_parts (x == c) (z == d && from == last + 1) is in
    let inner = and_parts (z == d) (from == last + 1) outer.1 in
    let cell : x ≡ c = eqb-true x c outer.0 in
    let dir : z ≡ d = eqb-true z d inner.0 in
    let next : from ≡ last + 1 = eqb-true from (last + 1) inner.1 in
    let same : Span c first to d ≡ span = cc in
    let order : first ≤ last = grind (arith, nat_tests) in
    let whole : nat_le first to ≡ true = grind (arith, nat_tests) in
    let n : to + 1 - first ≡ (last + 1 - first) + (to + 1 - from) = omega arith in
    let place : first + (last + 1 - first) ≡ from = omega arith in
    subst (λ (l : Line). (counted_as l ≡ counted_as (Span c first last d) ++ counted_as (Span x from to z)) × (is_span l ≡ true)) same (
      ap (λ k. removals c d first k) n ∙ removals-append c d first (last + 1 - first) (to + 1 - from)
          ∙ ap (λ k. removals c d first (last + 1 - first) ++ removals c d k (to + 1 - from)) place
          ∙ (λ i. removals c d first (last + 1 - first) ++ removals (sym cell i) (sym dir i) from (to + 1 - from)),
      whole,
    )

pub grown_counts : (kept line span : Line) → is_span kept ≡ true → IsWhole line → one_span kept line ≡ Some span → (counted_as span ≡ counted_as kept ++ counted_as line) × (is_span span ≡ true)
grown_counts (Remove c v d) line span spans whole e = cc
grown_counts (Try c v) line span spans whole e = cc
grown_counts (Empty c) line span spans whole e = cc
grown_counts End line span spans whole e = cc
grown_counts Found line span spans whole e = cc
grown_counts Out line span spans whole e = cc
grown_counts (Span c first last d) (Span x from to z) span spans whole e = grown_test (x == c && (z == d && from == last + 1)) c first last d x from to z span refl spans whole e
grown_counts (Span c first last d) (Remove x v z) span spans whole e = cc
grown_counts (Span c first last d) (Try x v) span spans whole e = cc
grown_counts (Span c first last d) (Empty x) span spans whole e = cc
grown_counts (Span c first last d) End span spans whole e = cc
grown_counts (Span c first last d) Found span spans whole e = cc
grown_counts (Span c first last d) Out span spans whole e = cc

-- a span that doesn't end before it begins is whole
pub span_whole : (line : Line) → is_span line ≡ true → IsWhole line
span_whole (Remove c v d) is = absurd (false≢true is)
span_whole (Span c first last d) is = grind (arith, nat_tests)
span_whole (Try c v) is = absurd (false≢true is)
span_whole (Empty c) is = absurd (false≢true is)
span_whole End is = absurd (false≢true is)
span_whole Found is = absurd (false≢true is)
span_whole Out is = absurd (false≢true is)

-- what may grow of a whole line is a span
pub growing_kept : (line : Line) → IsWhole line → is_kept (growing_part line) ≡ true
growing_kept (Remove c v d) whole = refl
growing_kept (Span c first last d) whole = grind (arith, nat_tests)
growing_kept (Try c v) whole = refl
growing_kept (Empty c) whole = refl
growing_kept End whole = refl
growing_kept Found whole = refl
growing_kept Out whole = refl

-- ---- what is told

counted_more : (xs ys : List Line) → counted_lines (xs ++ ys) ≡ counted_lines xs ++ counted_lines ys
counted_more xs ys = flat_map-append counted_as xs ys

-- a line that was joined to the kept one is told
pub joined_told : (told : Option (List Line)) (kept : Option Line) (line span : Line) → IsWhole line → as_span line ≡ line → is_kept kept ≡ true → join_with kept line ≡ Some span
    → AreJoined told kept None
    → AreJoined told (Some span) None × (is_span span ≡ true)
    × (option_map (λ (lines : List Line). counted_lines (lines ++ (span ∷ [] ++ []))) told
    ≡ option_map (λ (xs : List Line). xs ++ counted_as line) (option_map (λ (lines : List Line). counted_lines (lines ++ (line_if_any kept ++ []))) told))
joined_told told None line span whole is spans join joined = cc
joined_told told (Some kept) line span whole is spans join joined =
    let counts = grown_counts kept line span spans whole join in (by told joined counts.0, counts.1, lines told counts.0)
  where
    -- the span counts as both
    both : (xs : List Line) → counted_as span ≡ counted_as kept ++ counted_as line → counted_lines (xs ++ span ∷ []) ≡ counted_lines ((xs ++ kept ∷ []) ++ line ∷ [])
    both xs e =
        counted_more xs (span ∷ []) ∙ ap (λ ls. counted_lines xs ++ (ls ++ [])) e
        ∙ ap (λ ls. counted_lines xs ++ ls) (append_assoc (counted_as kept) (counted_as line) [])
        ∙ sym (append_assoc (counted_lines xs) (counted_as kept) (counted_as line ++ []))
        ∙ ap (λ ls. (counted_lines xs ++ ls) ++ (counted_as line ++ [])) (sym (append-nil (counted_as kept)))
        ∙ ap (λ ls. ls ++ (counted_as line ++ [])) (sym (counted_more xs (kept ∷ [])))
        ∙ sym (counted_more (xs ++ kept ∷ []) (line ∷ []))

    by : (o : Option (List Line)) → AreJoined o (Some kept) None → counted_as span ≡ counted_as kept ++ counted_as line → AreJoined o (Some span) None
    by None all e = refl
    by (Some xs) all e =
        let before : join_on nothing_joined (counted_lines (xs ++ kept ∷ [])) ≡ record { done = xs; kept = Some kept } = cc all in
        ap Some (ap (join_on nothing_joined) (both xs e) ∙ joined_grown xs (Some kept) line span whole is join before)

    lines : (o : Option (List Line)) → counted_as span ≡ counted_as kept ++ counted_as line
        → option_map (λ (ls : List Line). counted_lines (ls ++ (span ∷ [] ++ []))) o ≡ option_map (λ (xs : List Line). xs ++ counted_as line) (option_map (λ (ls : List Line). counted_lines (ls ++ (kept ∷ [] ++ []))) o)
    lines None e = refl
    lines (Some xs) e = ap Some (both xs e ∙ counted_more (xs ++ kept ∷ []) (line ∷ []) ∙ ap (λ ls. counted_lines (xs ++ kept ∷ []) ++ ls) (append-nil (counted_as line)))

-- a line that wasn't is told, where what can't grow was put
pub apart_told : (told : Option (List Line)) (kept : Option Line) (line : Line) → IsWhole line → as_span line ≡ line → join_with kept line ≡ None → AreJoined told kept None
    → let new = option_map (λ (lines : List Line). lines ++ (line_if_any kept ++ settled_part line)) told in
    AreJoined new (growing_part line) None
    × (option_map (λ (lines : List Line). counted_lines (lines ++ (line_if_any (growing_part line) ++ []))) new
    ≡ option_map (λ (xs : List Line). xs ++ counted_as line) (option_map (λ (lines : List Line). counted_lines (lines ++ (line_if_any kept ++ []))) told))
apart_told None kept line whole is none joined = (refl, refl)
apart_told (Some xs) kept line whole is none joined =
    let before : join_on nothing_joined (counted_lines (xs ++ (line_if_any kept ++ []))) ≡ record { done = xs; kept = kept } = cc joined in
    let plain : join_on nothing_joined (counted_lines (xs ++ line_if_any kept)) ≡ record { done = xs; kept = kept } =
    ap (λ ls. join_on nothing_joined (counted_lines (xs ++ ls))) (sym (append-nil (line_if_any kept))) ∙ before in
    let all : (xs ++ (line_if_any kept ++ settled_part line)) ++ (line_if_any (growing_part line) ++ []) ≡ (xs ++ line_if_any kept) ++ line ∷ [] =
    ap (λ ls. (xs ++ (line_if_any kept ++ settled_part line)) ++ ls) (append-nil (line_if_any (growing_part line)))
    ∙ ap (λ ls. ls ++ line_if_any (growing_part line)) (sym (append_assoc xs (line_if_any kept) (settled_part line)))
    ∙ append_assoc (xs ++ line_if_any kept) (settled_part line) (line_if_any (growing_part line))
    ∙ ap (λ ls. (xs ++ line_if_any kept) ++ ls) (settled_growing line) in (
      ap Some (ap (λ ls. join_on nothing_joined (counted_lines ls)) all ∙ joined_apart xs kept line whole is none plain),
      ap Some (ap counted_lines all ∙ counted_more (xs ++ line_if_any kept) (line ∷ []) ∙ ap (λ ls. counted_lines (xs ++ line_if_any kept) ++ ls) (append-nil (counted_as line))
          ∙ ap (λ ls. counted_lines (xs ++ ls) ++ counted_as line) (sym (append-nil (line_if_any kept)))),
    )

-- and where it was cut off, it is told too
pub cut_lines : (told : Option (List Line)) (kept left : Option Line) (line : Line) (done : List Line) → IsWhole line → as_span line ≡ line → join_with kept line ≡ None
    → line_if_any kept ≡ done ++ line_if_any left → AreJoined told kept None
    → let new = option_map (λ (lines : List Line). lines ++ done) told in
    AreJoined new left (Some line)
    × (option_map (λ (lines : List Line). counted_lines (lines ++ (line_if_any left ++ line ∷ []))) new
    ≡ option_map (λ (xs : List Line). xs ++ counted_as line) (option_map (λ (lines : List Line). counted_lines (lines ++ (line_if_any kept ++ []))) told))
cut_lines None kept left line done whole is none split joined = (refl, refl)
cut_lines (Some xs) kept left line done whole is none split joined =
    let before : join_on nothing_joined (counted_lines (xs ++ (line_if_any kept ++ []))) ≡ record { done = xs; kept = kept } = cc joined in
    let plain : join_on nothing_joined (counted_lines (xs ++ line_if_any kept)) ≡ record { done = xs; kept = kept } =
    ap (λ ls. join_on nothing_joined (counted_lines (xs ++ ls))) (sym (append-nil (line_if_any kept))) ∙ before in
    let behind : (ls : List Line) → (xs ++ done) ++ (line_if_any left ++ ls) ≡ (xs ++ line_if_any kept) ++ ls =
    λ ls. sym (append_assoc (xs ++ done) (line_if_any left) ls) ∙ ap (λ k. k ++ ls) (append_assoc xs done (line_if_any left) ∙ ap (λ k. xs ++ k) (sym split)) in
    let all : (xs ++ done) ++ (line_if_any left ++ line ∷ []) ≡ (xs ++ line_if_any kept) ++ line ∷ [] = behind (line ∷ []) in (
      ap Some (ap (λ ls. join_on nothing_joined (counted_lines ls)) all ∙ joined_apart xs kept line whole is none plain
          ∙ ap (λ ls. let j : Joined = record { done = ls; kept = growing_part line } in j) (sym (append_assoc xs (line_if_any kept) (settled_part line)) ∙ sym (behind (settled_part line)))),
      ap Some (ap counted_lines all ∙ counted_more (xs ++ line_if_any kept) (line ∷ []) ∙ ap (λ ls. counted_lines (xs ++ line_if_any kept) ++ ls) (append-nil (counted_as line))
          ∙ ap (λ ls. counted_lines (xs ++ ls) ++ counted_as line) (sym (append-nil (line_if_any kept)))),
    )

-- the lines at the end, where more came
ending_grown : (old new : Option Taken) (more rest : List Line) → Grown Two old new more rest → ending new ≡ option_map (λ (lines : List Line). lines ++ more) (ending old)
ending_grown old new more rest grown = grown.lines ∙ both old
  where
    both : (o : Option Taken) → option_map (λ (taken : Taken). lines_at_end Two taken ++ more) o ≡ option_map (λ (lines : List Line). lines ++ more) (ending o)
    both None = refl
    both (Some taken) = refl

-- ---- a journal of format 2

-- a line that was joined to the kept one
pub span_joined : (name : GName) (sink : SinkView) (kept refused : Option Line) (line told span : Line) → IsWhole line → as_span line ≡ line → counted_as line ≡ counted_as told
    → IsSpanning sink kept refused → is_some refused ≡ false → join_with kept line ≡ Some span
    → IsSpanning sink (Some span) refused × (spans_of name sink (Some span) refused ≡ after_line (spans_of name sink kept refused) told)
span_joined name sink kept (Some refused) line told span whole is same was going join = absurd (false≢true (sym going))
span_joined name sink kept None line told span whole is same was going join =
    let all = joined_told (ending sink.told) kept line span whole is was.spans join was.joined in (
      record { at = was.at; joined = all.0; spans = all.1 },
      ap (λ (ls : Option (List Line)). record (spans_of name sink kept None) { lines = ls }) (all.2 ∙ ap (λ ls. option_map (λ (xs : List Line). xs ++ ls) (spans_of name sink kept None).lines) same),
    )

-- one that wasn't, where what can't grow was put
pub span_apart : (name : GName) (old new : SinkView) (kept refused after : Option Line) (line told : Line) → IsWhole line → as_span line ≡ line → counted_as line ≡ counted_as told
    → IsSpanning old kept refused → is_some refused ≡ false → join_with kept line ≡ None → PutsApart old new kept line after
    → IsSpanning new after refused × (spans_of name new after refused ≡ after_line (spans_of name old kept refused) told)
span_apart name old new kept (Some refused) after line told whole is same was going none puts = absurd (false≢true (sym going))
span_apart name old new kept None after line told whole is same was going none puts =
    subst (λ (o : Option Line). IsSpanning new o None × (spans_of name new o None ≡ after_line (spans_of name old kept None) told)) (sym puts.kept) made
  where
    made : IsSpanning new (growing_part line) None × (spans_of name new (growing_part line) None ≡ after_line (spans_of name old kept None) told)
    made =
        let grown = subst (λ (s : SinkView). Grown Two old.told s.told (line_if_any kept ++ settled_part line) []) (sym puts.put) (put_told Two old.told (line_if_any kept ++ settled_part line) was.at puts.formed) in
        let lines = ending_grown old.told new.told (line_if_any kept ++ settled_part line) [] grown in
        let all = apart_told (ending old.told) kept line whole is none was.joined in
        let shown = ap (option_map (λ (ls : List Line). counted_lines (ls ++ (line_if_any (growing_part line) ++ [])))) lines ∙ all.1
        ∙ ap (λ ls. option_map (λ (xs : List Line). xs ++ ls) (spans_of name old kept None).lines) same in
        let faults : new.faults ≡ old.faults = ap (λ (s : SinkView). s.faults) puts.put in (
          record { at = grown.at; joined = subst (λ (o : Option (List Line)). AreJoined o (growing_part line) None) (sym lines) all.0; spans = growing_kept line whole },
          λ i. let target : Target = record { name = name; before = grown.before i } in
              let j : JournalView = record { lines = shown i; failed = false; faults = faults i; target = Some target } in j,
        )

-- one that was cut off
pub span_cut : (name : GName) (old new : SinkView) (kept refused left : Option Line) (line told : Line) → IsWhole line → as_span line ≡ line → counted_as line ≡ counted_as told
    → IsSpanning old kept refused → is_some refused ≡ false → join_with kept line ≡ None → IsCutApart old new kept line left
    → IsSpanning new left (Some line) × IsRefused (spans_of name old kept refused) (spans_of name new left (Some line)) told
span_cut name old new kept (Some refused) left line told whole is same was going none cut = absurd (false≢true (sym going))
span_cut name old new kept None left line told whole is same was going none cut =
    let grown = subst (λ (o : Option Taken). Grown Two old.told o cut.done (cut.first ∷ cut.rest)) (sym cut.cut.front)
    (cut_told Two old.told cut.done cut.first cut.rest cut.cut.n was.at cut.formed cut.format cut.cut.less) in
    let lines = ending_grown old.told new.told cut.done (cut.first ∷ cut.rest) grown in
    let all = cut_lines (ending old.told) kept left line cut.done whole is none cut.split was.joined in (
      record {
        at = subst (IsAt Two new.told) (sym cut.left) grown.at;
        joined = subst (λ (o : Option (List Line)). AreJoined o left (Some line)) (sym lines) all.0;
        spans = cut.spans;
      },
      record {
        handed = ap (option_map (λ (ls : List Line). counted_lines (ls ++ (line_if_any left ++ line ∷ [])))) lines ∙ all.1
            ∙ ap (λ ls. option_map (λ (xs : List Line). xs ++ ls) (spans_of name old kept None).lines) same;
        failed = refl;
        counted = cut.cut.counted;
        target = ap (λ b. let t : Target = record { name = name; before = b } in Some t) grown.before;
      },
    )

-- no lines, where anything is told
abbrev nothing_told : Option Taken → Option (List Line)
nothing_told o = option_map (λ (taken : Taken). let none : List Line = [] in none) o

-- a journal over a bare sink has begun
pub bare_spans : (name : GName) (sink : SinkView) → IsBare Two sink.told → IsSpanning sink None None × (spans_of name sink None None ≡ new_journal name sink)
bare_spans name sink bare =
    let before = bare_before Two sink.told bare in
    let lines = none sink.told bare.0 in (
      record { at = bare.1; joined = all sink.told bare.0; spans = refl },
      λ i. let target : Target = record { name = name; before = before i } in
          let j : JournalView = record { lines = lines i; failed = false; faults = sink.faults; target = Some target } in j,
    )
  where
    none : (o : Option Taken) → option_map (lines_at_end Two) o ≡ nothing_told o → option_map (λ (ls : List Line). counted_lines (ls ++ [])) (ending o) ≡ nothing_told o
    none o is = ap (option_map (λ (ls : List Line). counted_lines (ls ++ []))) is ∙ nothing o
      where
        nothing : (o : Option Taken) → option_map (λ (ls : List Line). counted_lines (ls ++ [])) (nothing_told o) ≡ nothing_told o
        nothing None = refl
        nothing (Some taken) = refl

    all : (o : Option Taken) → option_map (lines_at_end Two) o ≡ nothing_told o → AreJoined (ending o) None None
    all o is = subst (λ (t : Option (List Line)). AreJoined t None None) (sym is) (nothing o)
      where
        nothing : (o : Option Taken) → AreJoined (nothing_told o) None None
        nothing None = refl
        nothing (Some taken) = refl

-- ---- what was put of a kept span and a line

-- with nothing kept
pub settled_cut : (old new : SinkView) (line : Line) → as_span line ≡ line → ((c first last d : ℕ) → line ≡ Span c first last d → ⊥) → IsOfFormat Two line → IsCutShort old new (with_line_end (line_text line)) → IsCutApart old new None line None
settled_cut old new line is other format cut = record {
  done = [];
  first = line;
  rest = [];
  split = refl;
  left = refl;
  most = [];
  firm = firm line is other;
  spans = refl;
  formed = record {};
  format = format;
  cut = subst (λ (s : SinkView). IsCutShort s new (with_line_end (line_text line))) (puts_none old) cut;
}
  where
    firm : (l : Line) → as_span l ≡ l → ((c first last d : ℕ) → l ≡ Span c first last d → ⊥) → settled_part l ≡ l ∷ []
    firm (Remove c v d) is other = cc
    firm (Span c first last d) is other = absurd (other c first last d refl)
    firm (Try c v) is other = refl
    firm (Empty c) is other = refl
    firm End is other = refl
    firm Found is other = refl
    firm Out is other = refl

-- with a kept span that was cut off
pub kept_cut : (old new : SinkView) (kept line : Line) → is_span kept ≡ true → IsOfFormat Two kept → IsCutShort old new (with_line_end (line_text kept)) → IsCutApart old new (Some kept) line (Some kept)
kept_cut old new kept line spans format cut = record {
  done = [];
  first = kept;
  rest = line ∷ [];
  split = refl;
  left = refl;
  most = settled_part line;
  firm = refl;
  spans = spans;
  formed = record {};
  format = format;
  cut = subst (λ (s : SinkView). IsCutShort s new (with_line_end (line_text kept))) (puts_none old) cut;
}

-- with one that was put before
pub kept_put : (old mid new : SinkView) (kept line : Line) (after : Option Line) → IsOfFormat Two kept → mid ≡ after_bytes old (with_line_end (line_text kept))
    → PutsApart mid new None line after → PutsApart old new (Some kept) line after
kept_put old mid new kept line after format put puts = record {
  kept = puts.kept;
  formed = (format, puts.formed);
  put = puts.put ∙ ap (λ (s : SinkView). after_bytes s (text_of (settled_part line))) put ∙ after_bytes-append old (with_line_end (line_text kept)) (text_of (settled_part line));
}

pub kept_put_cut : (old mid new : SinkView) (kept line : Line) (after : Option Line) → IsOfFormat Two kept → mid ≡ after_bytes old (with_line_end (line_text kept))
    → IsCutApart mid new None line after → IsCutApart old new (Some kept) line after
kept_put_cut old mid new kept line after format put cut = by cut.done refl
  where
    by : (done : List Line) → cut.done ≡ done → IsCutApart old new (Some kept) line after
    by (x ∷ xs) is = let e : [] ≡ (x ∷ xs) ++ line_if_any after = cut.split ∙ ap (λ ls. ls ++ line_if_any after) is in cc
    by [] is = record {
      done = kept ∷ [];
      first = cut.first;
      rest = cut.rest;
      split = ap (λ ls. kept ∷ ls) (cut.split ∙ ap (λ ls. ls ++ line_if_any after) is);
      left = cut.left;
      most = cut.most;
      firm = ap (λ ls. kept ∷ ls) (cut.firm ∙ ap (λ ls. ls ++ cut.first ∷ cut.most) is);
      spans = cut.spans;
      formed = (format, record {});
      format = cut.format;
      cut = subst (λ (s : SinkView). IsCutShort s new (with_line_end (line_text cut.first)))
          (ap (λ ls. after_bytes mid (text_of ls)) is ∙ sym (puts_none mid) ∙ put ∙ ap (after_bytes old) (sym (append-nil (with_line_end (line_text kept))))) cut.cut;
    }

-- so whatever was answered
pub kept_put_ok : (old mid new : SinkView) (kept line : Line) (result : Result (Option Line) CutOff) → IsOfFormat Two kept → mid ≡ after_bytes old (with_line_end (line_text kept))
    → IfOk result (PutsApart mid new None line) → IfOk result (PutsApart old new (Some kept) line)
kept_put_ok old mid new kept line (Ok after) format put puts = kept_put old mid new kept line after format put puts
kept_put_ok old mid new kept line (Err left) format put puts = record {}

pub kept_put_err : (old mid new : SinkView) (kept line : Line) (result : Result (Option Line) CutOff) → IsOfFormat Two kept → mid ≡ after_bytes old (with_line_end (line_text kept))
    → IfErr result (λ (cut : CutOff). IsCutApart mid new None line cut.kept) → IfErr result (λ (cut : CutOff). IsCutApart old new (Some kept) line cut.kept)
kept_put_err old mid new kept line (Ok after) format put cut = record {}
kept_put_err old mid new kept line (Err left) format put cut = kept_put_cut old mid new kept line left.kept format put cut

-- a span is spelled as format 2 does
pub span_spelled : (line : Line) → is_span line ≡ true → as_span line ≡ line
span_spelled (Remove c v d) is = absurd (false≢true is)
span_spelled (Span c first last d) is = refl
span_spelled (Try c v) is = refl
span_spelled (Empty c) is = refl
span_spelled End is = refl
span_spelled Found is = refl
span_spelled Out is = refl
