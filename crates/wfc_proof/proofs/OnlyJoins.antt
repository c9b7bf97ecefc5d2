-- Lines whose removals are joined into spans are the only ones that count as the lines do and are apart.
use Rattle.std.proofs.Common.{◌≡◌, Bool, true, false, List, [], ◌∷◌, ◌++◌, map, drop, get_or, refl, sym, ◌∙◌, ap, subst, arith, append_assoc, append-nil, Option, Some, None}
use Rattle.std.specs.List.{AllByRecursion}
use Rattle.std.proofs.lemmas.Grind.{flat_map-append}
use Rattle.wfc_proof.specs.Joins.{AreSpansOf}
use Rattle.wfc_proof.specs.Journal.{IsWhole, counted_as}
use Rattle.wfc_proof.specs.Spans.{as_span, counted_lines, one_span, join_with, growing_part, line_if_any, Joined, nothing_joined, apart, grown_or_apart, join_line, join_on, all_joined, in_spans, is_kept}
use Rattle.wfc_proof.specs.declared.Line.{Line}
use Rattle.wfc_proof.specs.declared.Line.TheVariants.{Remove, Span, Try, Empty, End, Found, Out}
use Rattle.wfc_proof.proofs.Joins.{AreApart, apart_all, spans_apart, spans_as_spans}
use Rattle.wfc_proof.proofs.SpanLemmas.{growing_kept, grown_counts, join_on-append, line_at_once, span_counts, span_whole}

-- ---- what lines count as is joined as they are

line_counted : (joined : Joined) (line : Line) → IsWhole line → join_on joined (counted_as line) ≡ join_line joined line
line_counted joined (Remove c v d) whole = refl
line_counted joined (Span c first last d) whole = line_at_once joined (Span c first last d) whole refl
line_counted joined (Try c v) whole = refl
line_counted joined (Empty c) whole = refl
line_counted joined End whole = refl
line_counted joined Found whole = refl
line_counted joined Out whole = refl

lines_counted : (joined : Joined) (lines : List Line) → AllByRecursion IsWhole lines → join_on joined (counted_lines lines) ≡ join_on joined lines
lines_counted joined [] whole = refl
lines_counted joined (line ∷ lines) whole =
    join_on-append joined (counted_as line) (counted_lines lines)
    ∙ ap (λ j. join_on j (counted_lines lines)) (line_counted joined line whole.0)
    ∙ lines_counted (join_line joined line) lines whole.1

-- ---- spans that are apart stay as they are

settles : (line next : Line) → one_span line next ≡ None → join_with (growing_part line) next ≡ None
settles (Remove c v d) next e = refl
settles (Span c first last d) next e = e
settles (Try c v) next e = refl
settles (Empty c) next e = refl
settles End next e = refl
settles Found next e = refl
settles Out next e = refl

stand : (joined : Joined) (line : Line) (lines : List Line) → join_with joined.kept (as_span line) ≡ None → map as_span (line ∷ lines) ≡ line ∷ lines → AreApart (line ∷ lines)
    → all_joined (join_on joined (line ∷ lines)) ≡ all_joined joined ++ line ∷ lines
stand joined line [] none same all =
    ap (λ o. all_joined (grown_or_apart joined (as_span line) o)) none
    ∙ apart_all joined (as_span line)
    ∙ ap (λ l. all_joined joined ++ l ∷ []) (ap (λ ls. get_or ls 0 line) same)
stand joined line (next ∷ lines) none same all =
    ap (λ o. all_joined (join_on (grown_or_apart joined (as_span line) o) (next ∷ lines))) none
    ∙ stand (apart joined (as_span line)) next lines (settles (as_span line) (as_span next) all.0) (ap (drop 1) same) all.1
    ∙ ap (λ ls. ls ++ next ∷ lines) (apart_all joined (as_span line) ∙ ap (λ l. all_joined joined ++ l ∷ []) (ap (λ ls. get_or ls 0 line) same))
    ∙ append_assoc (all_joined joined) (line ∷ []) (next ∷ lines)

spans_stand : (spans : List Line) → map as_span spans ≡ spans → AreApart spans → in_spans spans ≡ spans
spans_stand [] same all = refl
spans_stand (line ∷ lines) same all = stand nothing_joined line lines refl same all

-- no two side by side could be joined
all_apart : (spans : List Line) → map as_span spans ≡ spans → ((front back : List Line) (a b : Line) → spans ≡ front ++ a ∷ b ∷ back → one_span a b ≡ None) → AreApart spans
all_apart [] same each = record {}
all_apart (line ∷ []) same each = record {}
all_apart (line ∷ next ∷ lines) same each = (
  subst (λ l. one_span l (as_span next) ≡ None) (sym (ap (λ ls. get_or ls 0 line) same))
      (subst (λ l. one_span line l ≡ None) (sym (ap (λ ls. get_or ls 1 line) same)) (each [] lines line next refl)),
  all_apart (next ∷ lines) (ap (drop 1) same) (λ front back a b e. each (line ∷ front) back a b (ap (λ ls. line ∷ ls) e)),
)

-- they are the joined lines
pub only_spans : (lines spans : List Line) → AllByRecursion IsWhole lines → AreSpansOf lines spans → spans ≡ in_spans lines
only_spans lines spans whole are =
    sym (spans_stand spans are.as_spans (all_apart spans are.as_spans are.apart))
    ∙ sym (ap all_joined (lines_counted nothing_joined spans are.whole))
    ∙ ap in_spans are.counts
    ∙ ap all_joined (lines_counted nothing_joined lines whole)

-- ---- the joined lines are such

one_counted : (line : Line) → counted_lines (line ∷ []) ≡ counted_as line
one_counted line = append-nil (counted_as line)

as_span_whole : (line : Line) → IsWhole line → IsWhole (as_span line)
as_span_whole (Remove c v d) whole = omega arith
as_span_whole (Span c first last d) whole = whole
as_span_whole (Try c v) whole = whole
as_span_whole (Empty c) whole = whole
as_span_whole End whole = whole
as_span_whole Found whole = whole
as_span_whole Out whole = whole

-- one more line
record IsCountedOn (joined after : Joined) (line : Line) : Type 0 where
  kept : is_kept after.kept ≡ true
  counts : counted_lines (all_joined after) ≡ counted_lines (all_joined joined) ++ counted_as line

counted_on : (joined : Joined) (line : Line) → is_kept joined.kept ≡ true → IsWhole line → IsCountedOn joined (join_line joined line) line
counted_on joined line spans whole = by (join_with joined.kept (as_span line)) refl
  where
    grown : (kept : Option Line) (span : Line) → joined.kept ≡ kept → join_with kept (as_span line) ≡ Some span → IsCountedOn joined (record { done = joined.done; kept = Some span }) line
    grown None span k e = cc
    grown (Some kept) span k e =
        let counts = grown_counts kept (as_span line) span (sym (ap is_kept k) ∙ spans) (as_span_whole line whole) e in
        record {
          kept = counts.1;
          counts = flat_map-append counted_as joined.done (span ∷ [])
              ∙ ap (λ ls. counted_lines joined.done ++ ls) (one_counted span ∙ counts.0 ∙ ap (λ ls. counted_as kept ++ ls) (span_counts line))
              ∙ sym (append_assoc (counted_lines joined.done) (counted_as kept) (counted_as line))
              ∙ ap (λ ls. (counted_lines joined.done ++ ls) ++ counted_as line) (sym (one_counted kept))
              ∙ ap (λ ls. ls ++ counted_as line) (sym (flat_map-append counted_as joined.done (kept ∷ [])))
              ∙ ap (λ o. counted_lines (joined.done ++ line_if_any o) ++ counted_as line) (sym k);
        }

    by : (o : Option Line) → join_with joined.kept (as_span line) ≡ o → IsCountedOn joined (grown_or_apart joined (as_span line) o) line
    by None e = record {
      kept = growing_kept (as_span line) (as_span_whole line whole);
      counts = ap counted_lines (apart_all joined (as_span line))
          ∙ flat_map-append counted_as (all_joined joined) (as_span line ∷ [])
          ∙ ap (λ ls. counted_lines (all_joined joined) ++ ls) (one_counted (as_span line) ∙ span_counts line);
    }
    by (Some span) e = grown joined.kept span refl e

counted_all : (joined : Joined) (lines : List Line) → is_kept joined.kept ≡ true → AllByRecursion IsWhole lines → counted_lines (all_joined (join_on joined lines)) ≡ counted_lines (all_joined joined) ++ counted_lines lines
counted_all joined [] spans whole = sym (append-nil (counted_lines (all_joined joined)))
counted_all joined (line ∷ lines) spans whole =
    let here = counted_on joined line spans whole.0 in
    counted_all (join_line joined line) lines here.kept whole.1
    ∙ ap (λ ls. ls ++ counted_lines lines) here.counts
    ∙ append_assoc (counted_lines (all_joined joined)) (counted_as line) (counted_lines lines)

-- all of them are whole
whole_push : (lines : List Line) (line : Line) → AllByRecursion IsWhole lines → IsWhole line → AllByRecursion IsWhole (lines ++ line ∷ [])
whole_push [] line all whole = (whole, record {})
whole_push (x ∷ lines) line all whole = (all.0, whole_push lines line all.1 whole)

whole_last : (lines : List Line) (last other : Line) → AllByRecursion IsWhole (lines ++ last ∷ []) → IsWhole other → AllByRecursion IsWhole (lines ++ other ∷ [])
whole_last [] last other all whole = (whole, record {})
whole_last (x ∷ lines) last other all whole = (all.0, whole_last lines last other all.1 whole)

whole_on : (joined : Joined) (line : Line) → is_kept joined.kept ≡ true → IsWhole line → AllByRecursion IsWhole (all_joined joined) → AllByRecursion IsWhole (all_joined (join_line joined line))
whole_on joined line spans whole all = by (join_with joined.kept (as_span line)) refl
  where
    grown : (kept : Option Line) (span : Line) → joined.kept ≡ kept → join_with kept (as_span line) ≡ Some span → AllByRecursion IsWhole (joined.done ++ span ∷ [])
    grown None span k e = cc
    grown (Some kept) span k e =
        let counts = grown_counts kept (as_span line) span (sym (ap is_kept k) ∙ spans) (as_span_whole line whole) e in
        whole_last joined.done kept span (subst (λ o. AllByRecursion IsWhole (joined.done ++ line_if_any o)) k all) (span_whole span counts.1)

    by : (o : Option Line) → join_with joined.kept (as_span line) ≡ o → AllByRecursion IsWhole (all_joined (grown_or_apart joined (as_span line) o))
    by None e = subst (AllByRecursion IsWhole) (sym (apart_all joined (as_span line))) (whole_push (all_joined joined) (as_span line) all (as_span_whole line whole))
    by (Some span) e = grown joined.kept span refl e

whole_all : (joined : Joined) (lines : List Line) → is_kept joined.kept ≡ true → AllByRecursion IsWhole lines → AllByRecursion IsWhole (all_joined joined) → AllByRecursion IsWhole (all_joined (join_on joined lines))
whole_all joined [] spans whole all = all
whole_all joined (line ∷ lines) spans whole all =
    whole_all (join_line joined line) lines (counted_on joined line spans whole.0).kept whole.1 (whole_on joined line spans whole.0 all)

pub joined_spans : (lines : List Line) → AllByRecursion IsWhole lines → AreSpansOf lines (in_spans lines)
joined_spans lines whole = record {
  whole = whole_all nothing_joined lines refl whole (record {});
  as_spans = spans_as_spans lines;
  counts = counted_all nothing_joined lines refl whole;
  apart = λ front back a b e. one front back a b e;
}
  where
    -- the lines are spans, so that what can't be joined as spans can't be joined
    spans_of_all : (xs front back : List Line) (a b : Line) → xs ≡ front ++ a ∷ b ∷ back → map as_span xs ≡ xs → (as_span a ≡ a) × (as_span b ≡ b)
    spans_of_all xs front back a b e same = from front (subst (λ ls. map as_span ls ≡ ls) e same)
      where
        from : (front : List Line) → map as_span (front ++ a ∷ b ∷ back) ≡ front ++ a ∷ b ∷ back → (as_span a ≡ a) × (as_span b ≡ b)
        from [] all = (ap (λ ls. get_or ls 0 a) all, ap (λ ls. get_or ls 1 b) all)
        from (x ∷ front) all = from front (ap (drop 1) all)

    one : (front back : List Line) (a b : Line) → in_spans lines ≡ front ++ a ∷ b ∷ back → one_span a b ≡ None
    one front back a b e =
        let both = spans_of_all (in_spans lines) front back a b e (spans_as_spans lines) in
        (λ i. one_span (sym both.0 i) (sym both.1 i)) ∙ spans_apart lines front back a b e
