-- Lines whose removals are joined into spans: what they spell, that none could still be joined, and one line more.
use Rattle.std.proofs.Common.{◌≡◌, ℕ, ◌+◌, ◌-◌, ◌<◌, Bool, true, false, cond, List, [], ◌∷◌, ◌++◌, map, refl, sym, ◌∙◌, ap, subst, arith, append_assoc, append-nil, length, length-append, Option, Some, None, inl, inr}
use Rattle.std.specs.Prelude.{◌==◌, ◌&&◌, ⊤}
use Rattle.std.specs.List.{AllByRecursion, range_with_len}
use Rattle.wfc_proof.specs.Journal.{IsWhole, counted_as}
use Rattle.wfc_proof.specs.Lines.{nodes_of, nodes_of_lines}
use Rattle.wfc_proof.specs.Proof.Node.{removes}
use Rattle.wfc_proof.specs.Spans.{as_span, one_span, join_with, growing_part, settled_part, line_if_any, Joined, nothing_joined, apart, grown_or_apart, join_line, join_on, all_joined, in_spans, is_kept, AreWithOneMore}
use Rattle.wfc_proof.specs.declared.Line.{Line}
use Rattle.wfc_proof.specs.declared.Line.TheVariants.{Remove, Span, Try, Empty, End, Found, Out}
use Rattle.wfc_proof.proofs.SpanLemmas.{join_on-append, settled_growing, grown_counts, growing_kept}
use Rattle.wfc_proof.proofs.UpgradeLemmas.{counted_spells, spelled-append}

-- a line that isn't joined stands behind all
pub apart_all : (joined : Joined) (line : Line) → all_joined (apart joined line) ≡ all_joined joined ++ line ∷ []
apart_all joined line =
    ap (λ ls. ls ++ line_if_any (growing_part line)) (sym (append_assoc joined.done (line_if_any joined.kept) (settled_part line)))
    ∙ append_assoc (all_joined joined) (settled_part line) (line_if_any (growing_part line))
    ∙ ap (λ ls. all_joined joined ++ ls) (settled_growing line)

-- a line as a span is as its span is
span_again : (line : Line) → as_span (as_span line) ≡ as_span line
span_again (Remove c v d) = refl
span_again (Span c first last d) = refl
span_again (Try c v) = refl
span_again (Empty c) = refl
span_again End = refl
span_again Found = refl
span_again Out = refl

-- ---- the nodes

span_whole : (line : Line) → IsWhole line → IsWhole (as_span line)
span_whole (Remove c v d) whole = omega arith
span_whole (Span c first last d) whole = whole
span_whole (Try c v) whole = whole
span_whole (Empty c) whole = whole
span_whole End whole = whole
span_whole Found whole = whole
span_whole Out whole = whole

span_nodes : (line : Line) → nodes_of (as_span line) ≡ nodes_of line
span_nodes (Remove c v d) = let one : v + 1 - v ≡ 1 = omega arith in ap (λ (k : ℕ). map (λ w. removes c w d) (range_with_len v k)) one
span_nodes (Span c first last d) = refl
span_nodes (Try c v) = refl
span_nodes (Empty c) = refl
span_nodes End = refl
span_nodes Found = refl
span_nodes Out = refl

-- what counts as two lines has the nodes of both
both_nodes : (span kept line : Line) → counted_as span ≡ counted_as kept ++ counted_as line → nodes_of span ≡ nodes_of kept ++ nodes_of line
both_nodes span kept line counts =
    sym (counted_spells span).1 ∙ ap nodes_of_lines counts ∙ spelled-append (counted_as kept) (counted_as line)
    ∙ (λ i. (counted_spells kept).1 i ++ (counted_spells line).1 i)

-- one line spells its nodes
one_spelled : (line : Line) → nodes_of_lines (line ∷ []) ≡ nodes_of line
one_spelled line = append-nil (nodes_of line)

-- one more line
pub record IsSpelledOn (joined after : Joined) (line : Line) : Type 0 where
  pub kept : is_kept after.kept ≡ true
  pub spells : nodes_of_lines (all_joined after) ≡ nodes_of_lines (all_joined joined) ++ nodes_of line

spelled_on : (joined : Joined) (line : Line) → is_kept joined.kept ≡ true → IsWhole line → IsSpelledOn joined (join_line joined line) line
spelled_on joined line spans whole = by (join_with joined.kept (as_span line)) refl
  where
    grown : (kept : Option Line) (span : Line) → joined.kept ≡ kept → join_with kept (as_span line) ≡ Some span → IsSpelledOn joined (record { done = joined.done; kept = Some span }) line
    grown None span k e = cc
    grown (Some kept) span k e =
        let counts = grown_counts kept (as_span line) span (sym (ap is_kept k) ∙ spans) (span_whole line whole) e in
        record {
          kept = counts.1;
          spells = spelled-append joined.done (span ∷ [])
              ∙ ap (λ ns. nodes_of_lines joined.done ++ ns) (one_spelled span ∙ both_nodes span kept (as_span line) counts.0 ∙ ap (λ ns. nodes_of kept ++ ns) (span_nodes line))
              ∙ sym (append_assoc (nodes_of_lines joined.done) (nodes_of kept) (nodes_of line))
              ∙ ap (λ ns. (nodes_of_lines joined.done ++ ns) ++ nodes_of line) (sym (one_spelled kept))
              ∙ ap (λ ns. ns ++ nodes_of line) (sym (spelled-append joined.done (kept ∷ [])))
              ∙ ap (λ o. nodes_of_lines (joined.done ++ line_if_any o) ++ nodes_of line) (sym k);
        }

    by : (o : Option Line) → join_with joined.kept (as_span line) ≡ o → IsSpelledOn joined (grown_or_apart joined (as_span line) o) line
    by None e = record {
      kept = growing_kept (as_span line) (span_whole line whole);
      spells = ap nodes_of_lines (apart_all joined (as_span line))
          ∙ spelled-append (all_joined joined) (as_span line ∷ [])
          ∙ ap (λ ns. nodes_of_lines (all_joined joined) ++ ns) (one_spelled (as_span line) ∙ span_nodes line);
    }
    by (Some span) e = grown joined.kept span refl e

spelled_all : (joined : Joined) (lines : List Line) → is_kept joined.kept ≡ true → AllByRecursion IsWhole lines → nodes_of_lines (all_joined (join_on joined lines)) ≡ nodes_of_lines (all_joined joined) ++ nodes_of_lines lines
spelled_all joined [] spans whole = sym (append-nil (nodes_of_lines (all_joined joined)))
spelled_all joined (line ∷ lines) spans whole =
    let here = spelled_on joined line spans whole.0 in
    spelled_all (join_line joined line) lines here.kept whole.1
    ∙ ap (λ ns. ns ++ nodes_of_lines lines) here.spells
    ∙ append_assoc (nodes_of_lines (all_joined joined)) (nodes_of line) (nodes_of_lines lines)

pub spans_spelled : (lines : List Line) → AllByRecursion IsWhole lines → nodes_of_lines (in_spans lines) ≡ nodes_of_lines lines
spans_spelled lines whole = spelled_all nothing_joined lines refl whole

-- ---- no two could still be joined

-- no line could still be joined to the one before it
abbrev pub AreApart : List Line → Type 0
AreApart [] = ⊤
AreApart (line ∷ []) = ⊤
AreApart (line ∷ next ∷ lines) = (one_span (as_span line) (as_span next) ≡ None) × AreApart (next ∷ lines)

-- one that can't be joined to the last
apart_push : (lines : List Line) (last line : Line) → AreApart (lines ++ last ∷ []) → one_span (as_span last) (as_span line) ≡ None → AreApart ((lines ++ last ∷ []) ++ line ∷ [])
apart_push [] last line a e = (e, record {})
apart_push (x ∷ []) last line a e = (a.0, (e, record {}))
apart_push (x ∷ y ∷ lines) last line a e = (a.0, apart_push (y ∷ lines) last line a.1 e)

-- another last one, to which the lines before can't be joined either
apart_last : (lines : List Line) (last other : Line) → AreApart (lines ++ last ∷ []) → ((x : Line) → one_span (as_span x) (as_span last) ≡ None → one_span (as_span x) (as_span other) ≡ None)
    → AreApart (lines ++ other ∷ [])
apart_last [] last other a same = record {}
apart_last (x ∷ []) last other a same = (same x a.0, record {})
apart_last (x ∷ y ∷ lines) last other a same = (a.0, apart_last (y ∷ lines) last other a.1 same)

-- whether two are one depends on where the second begins alone
same_begin : (b : Bool) (c first l e d : ℕ) → cond b (Some (Span c first l d)) None ≡ None → cond b (Some (Span c first e d)) None ≡ None
same_begin true c first l e d is = cc
same_begin false c first l e d is = refl

begins_alike : (x : Line) (c first last to d : ℕ) → one_span x (Span c first last d) ≡ None → one_span x (Span c first to d) ≡ None
begins_alike (Remove y v z) c first last to d e = refl
begins_alike (Span y from up z) c first last to d e = same_begin (c == y && (d == z && first == up + 1)) y from last to z e
begins_alike (Try y v) c first last to d e = refl
begins_alike (Empty y) c first last to d e = refl
begins_alike End c first last to d e = refl
begins_alike Found c first last to d e = refl
begins_alike Out c first last to d e = refl

-- two that are one span: the first was a span, and so is the one, which begins where the first did
pub record IsGrown (kept span : Line) : Type 0 where
  pub kept_span : as_span kept ≡ kept
  pub span_span : as_span span ≡ span
  pub alike : (x : Line) → one_span x kept ≡ None → one_span x span ≡ None

grown_is : (kept line span : Line) → one_span kept line ≡ Some span → IsGrown kept span
grown_is (Remove c v d) line span e = cc
grown_is (Try c v) line span e = cc
grown_is (Empty c) line span e = cc
grown_is End line span e = cc
grown_is Found line span e = cc
grown_is Out line span e = cc
grown_is (Span c first last d) (Remove x v z) span e = cc
grown_is (Span c first last d) (Try x v) span e = cc
grown_is (Span c first last d) (Empty x) span e = cc
grown_is (Span c first last d) End span e = cc
grown_is (Span c first last d) Found span e = cc
grown_is (Span c first last d) Out span e = cc
grown_is (Span c first last d) (Span x from to z) span e = by (x == c && (z == d && from == last + 1)) e
  where
    by : (b : Bool) → cond b (Some (Span c first to d)) None ≡ Some span → IsGrown (Span c first last d) span
    by false e = cc
    by true e =
        let same : Span c first to d ≡ span = cc in
        subst (IsGrown (Span c first last d)) same (record { kept_span = refl; span_span = refl; alike = λ x none. begins_alike x c first last to d none })

-- what can't be joined to what may grow of a line can't be joined to the line
growing_apart : (line next : Line) → join_with (growing_part line) next ≡ None → one_span line next ≡ None
growing_apart (Remove c v d) next e = refl
growing_apart (Span c first last d) next e = e
growing_apart (Try c v) next e = refl
growing_apart (Empty c) next e = refl
growing_apart End next e = refl
growing_apart Found next e = refl
growing_apart Out next e = refl

-- joined lines are apart, also with one more behind them that can't be joined to what is kept
pub record EndsApart (joined : Joined) : Type 0 where
  pub all : AreApart (all_joined joined)
  pub more : (line : Line) → as_span line ≡ line → join_with joined.kept line ≡ None → AreApart (all_joined joined ++ line ∷ [])

apart_on : (joined : Joined) (line : Line) → EndsApart joined → EndsApart (join_line joined line)
apart_on joined line a = by (join_with joined.kept (as_span line)) refl
  where
    grown : (kept : Option Line) (span : Line) → AreApart (joined.done ++ line_if_any kept) → join_with kept (as_span line) ≡ Some span → EndsApart (record { done = joined.done; kept = Some span })
    grown None span all e = cc
    grown (Some kept) span all e =
        let is = grown_is kept (as_span line) span e in
        let alike : (x : Line) → one_span (as_span x) (as_span kept) ≡ None → one_span (as_span x) (as_span span) ≡ None =
        λ x none. ap (one_span (as_span x)) is.span_span ∙ is.alike (as_span x) (sym (ap (one_span (as_span x)) is.kept_span) ∙ none) in
        let here = apart_last joined.done kept span all alike in
        record {
          all = here;
          more = λ next one none. apart_push joined.done span next here ((λ i. one_span (is.span_span i) (one i)) ∙ none);
        }

    by : (o : Option Line) → join_with joined.kept (as_span line) ≡ o → EndsApart (grown_or_apart joined (as_span line) o)
    by None e =
        let whole = apart_all joined (as_span line) in
        let here = a.more (as_span line) (span_again line) e in
        record {
          all = subst AreApart (sym whole) here;
          more = λ next one none.
              subst (λ ls. AreApart (ls ++ next ∷ [])) (sym whole)
              (apart_push (all_joined joined) (as_span line) next here ((λ i. one_span (span_again line i) (one i)) ∙ growing_apart (as_span line) next none));
        }
    by (Some span) e = grown joined.kept span a.all e

apart_lines : (joined : Joined) (lines : List Line) → EndsApart joined → EndsApart (join_on joined lines)
apart_lines joined [] a = a
apart_lines joined (line ∷ lines) a = apart_lines (join_line joined line) lines (apart_on joined line a)

-- two of them side by side
apart_two : (lines front back : List Line) (a b : Line) → lines ≡ front ++ a ∷ b ∷ back → AreApart lines → one_span (as_span a) (as_span b) ≡ None
apart_two lines front back a b e all = from front (subst AreApart e all)
  where
    from : (xs : List Line) → AreApart (xs ++ a ∷ b ∷ back) → one_span (as_span a) (as_span b) ≡ None
    from [] h = h.0
    from (x ∷ []) h = h.1.0
    from (x ∷ y ∷ xs) h = from (y ∷ xs) h.1

pub spans_apart : (lines front back : List Line) (a b : Line) → in_spans lines ≡ front ++ a ∷ b ∷ back → one_span (as_span a) (as_span b) ≡ None
spans_apart lines front back a b e =
    let start : EndsApart nothing_joined = record { all = record {}; more = λ line one none. record {} } in
    apart_two (in_spans lines) front back a b e (apart_lines nothing_joined lines start).all

-- ---- one line more

one_more : (joined : Joined) (line : Line) (o : Option Line) → join_with joined.kept line ≡ o → AreWithOneMore (all_joined joined) line (all_joined (grown_or_apart joined line o))
one_more joined line None e = inl (apart_all joined line)
one_more joined line (Some span) e = inr (by joined.kept refl e)
  where
    by : (kept : Option Line) → joined.kept ≡ kept → join_with kept line ≡ Some span
        → (front : List Line) × (last : Line) × (s : Line) × (all_joined joined ≡ front ++ last ∷ []) × (one_span last line ≡ Some s) × (joined.done ++ span ∷ [] ≡ front ++ s ∷ [])
    by None k e = cc
    by (Some kept) k e = (joined.done, kept, span, ap (λ o. joined.done ++ line_if_any o) k, e, refl)

pub spans_more : (lines : List Line) (line : Line) → AreWithOneMore (in_spans lines) (as_span line) (in_spans (lines ++ line ∷ []))
spans_more lines line =
    let joined : Joined = join_on nothing_joined lines in
    subst (AreWithOneMore (in_spans lines) (as_span line)) (sym (ap all_joined (join_on-append nothing_joined lines (line ∷ []))))
    (one_more joined (as_span line) (join_with joined.kept (as_span line)) refl)

-- so some line stands there
step_some : (joined : Joined) (line : Line) → 0 < length (all_joined (join_line joined line))
step_some joined line = elim (one_more joined (as_span line) (join_with joined.kept (as_span line)) refl) [
  | inl e ↦ omega (arith, ap length e, length-append (all_joined joined) (as_span line ∷ []))
  | inr h ↦ omega (arith, ap length h.5, length-append h.0 (h.2 ∷ []))
]

on_some : (joined : Joined) (lines : List Line) → 0 < length (all_joined joined) → 0 < length (all_joined (join_on joined lines))
on_some joined [] some = some
on_some joined (line ∷ lines) some = on_some (join_line joined line) lines (step_some joined line)

-- where there are lines, some are left when they are joined
pub spans_some : (lines : List Line) → 0 < length lines → 0 < length (in_spans lines)
spans_some [] some = absurd (omega (arith, some))
spans_some (line ∷ lines) some = on_some (join_line nothing_joined line) lines (step_some nothing_joined line)

-- ---- no removal is left

-- each is as its span is
map_push : (xs ys : List Line) → map as_span xs ≡ xs → map as_span ys ≡ ys → map as_span (xs ++ ys) ≡ xs ++ ys
map_push [] ys a b = b
map_push (x ∷ xs) ys a b =
    let first : as_span x ≡ x = cc in
    let rest : map as_span xs ≡ xs = cc in
    λ i. first i ∷ map_push xs ys rest b i

map_front : (xs ys : List Line) → map as_span (xs ++ ys) ≡ xs ++ ys → map as_span xs ≡ xs
map_front [] ys a = refl
map_front (x ∷ xs) ys a =
    let first : as_span x ≡ x = cc in
    let rest : map as_span (xs ++ ys) ≡ xs ++ ys = cc in
    λ i. first i ∷ map_front xs ys rest i

spans_on : (joined : Joined) (line : Line) → map as_span (all_joined joined) ≡ all_joined joined → map as_span (all_joined (join_line joined line)) ≡ all_joined (join_line joined line)
spans_on joined line a = by (join_with joined.kept (as_span line)) refl
  where
    grown : (kept : Option Line) (span : Line) → join_with kept (as_span line) ≡ Some span → map as_span (joined.done ++ span ∷ []) ≡ joined.done ++ span ∷ []
    grown None span e = cc
    grown (Some kept) span e =
        let is = grown_is kept (as_span line) span e in
        map_push joined.done (span ∷ []) (map_front joined.done (line_if_any joined.kept) a) (ap (λ l. l ∷ []) is.span_span)

    by : (o : Option Line) → join_with joined.kept (as_span line) ≡ o → map as_span (all_joined (grown_or_apart joined (as_span line) o)) ≡ all_joined (grown_or_apart joined (as_span line) o)
    by None e =
        let both = map_push (all_joined joined) (as_span line ∷ []) a (ap (λ l. l ∷ []) (span_again line)) in
        subst (λ ls. map as_span ls ≡ ls) (sym (apart_all joined (as_span line))) both
    by (Some span) e = grown joined.kept span e

spans_in : (joined : Joined) (lines : List Line) → map as_span (all_joined joined) ≡ all_joined joined → map as_span (all_joined (join_on joined lines)) ≡ all_joined (join_on joined lines)
spans_in joined [] a = a
spans_in joined (line ∷ lines) a = spans_in (join_line joined line) lines (spans_on joined line a)

pub spans_as_spans : (lines : List Line) → map as_span (in_spans lines) ≡ in_spans lines
spans_as_spans lines = spans_in nothing_joined lines refl
