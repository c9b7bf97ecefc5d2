-- What lines whose removals are joined into spans are, as a relation.
use Rattle.std.specs.Prelude.{◌≡◌, List, ◌∷◌, ◌++◌, map, None}
use Rattle.std.specs.List.{AllByRecursion}
use Rattle.wfc_proof.specs.Journal.{IsWhole}
use Rattle.wfc_proof.specs.Spans.{as_span, counted_lines, one_span}
use Rattle.wfc_proof.specs.declared.Line.{Line}

-- whole spans, and lines that are no removals, which count as the lines do, and of which no two side by side could still be joined
pub record AreSpansOf (lines spans : List Line) : Type 0 where
  pub whole : AllByRecursion IsWhole spans
  pub as_spans : map as_span spans ≡ spans
  pub counts : counted_lines spans ≡ counted_lines lines
  pub apart : (front back : List Line) (a b : Line) → spans ≡ front ++ a ∷ b ∷ back → one_span a b ≡ None
