use Rattle.std.proofs.Common.{◌≡◌, ℕ, List, [], ◌∷◌, ◌++◌, length, length-append, refl, ap, ◌∙◌, arith, Some, inl, inr}
use Rattle.wfc_proof.specs.Spans.{one_span, AreWithOneMore}
use Rattle.wfc_proof.specs.declared.Line.{Line}
use Rattle.wfc_proof.specs.declared.Line.TheVariants.{Span, Try}
use Rattle.wfc_proof.proofs.span_laws.one_more_by_example.Goals as goal

-- the first value of a span
abbrev begins : Line → ℕ
begins (Span c first last d) = first
begins _ = 0

differ : Span 1 4 6 2 ≡ Span 1 6 6 2 → ⊥
differ e = let n = ap begins e in omega arith

-- the last alone isn't what both make
none : AreWithOneMore (Span 1 4 5 2 ∷ []) (Span 1 6 6 2) (Span 1 6 6 2 ∷ []) → ⊥
none (inl e) = let l = ap length e in omega arith
none (inr (front, last, span, whole, joined, more)) = by front whole more
  where
    by : (xs : List Line) → Span 1 4 5 2 ∷ [] ≡ xs ++ last ∷ [] → Span 1 6 6 2 ∷ [] ≡ xs ++ span ∷ [] → ⊥
    by [] a b =
        let first : Span 1 4 5 2 ≡ last = cc in
        let made : Some (Span 1 4 6 2) ≡ Some span = ap (λ l. one_span l (Span 1 6 6 2)) first ∙ joined in
        let second : Span 1 6 6 2 ≡ span = cc in
        let both : Span 1 4 6 2 ≡ Span 1 6 6 2 = cc in
        differ both
    by (x ∷ xs) a b = let l = ap length a in omega (arith, length-append xs (last ∷ []))

pub returns : goal.returns
returns c = record {
  behind = inl refl;
  longer = inr (Try 1 5 ∷ [], Span 1 4 5 2, Span 1 4 6 2, refl, refl, refl);
  alone = none;
}
