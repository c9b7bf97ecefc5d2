-- What callers cite: lines that are told one after another, and lines that are cut off.
use Rattle.std.proofs.Common.{◌≡◌, ◌+◌, ℕ, suc, List, [], ◌∷◌, ◌++◌, length, take, refl, sym, ◌∙◌, ap, subst, arith, append_assoc, append-nil, length-append, Option, Some, None}
use Rattle.std.specs.Option.{option_map}
use Rattle.std.proofs.lemmas.List.{take-append-le}
use Rattle.wfc_outside.specs.Count.{HasRisen}
use Rattle.wfc_proof.specs.Journal.{JournalView, after_lines, counted_as, IsRefused, IsCutOff}
use Rattle.wfc_proof.specs.declared.Line.{Line}

-- no lines change nothing
pub after_no_lines : (journal : JournalView) → after_lines journal [] ≡ journal
after_no_lines journal = ap (λ (lines : Option (List Line)). record journal { lines = lines }) (none journal.lines)
  where
    none : (told : Option (List Line)) → option_map (λ (lines : List Line). lines ++ []) told ≡ told
    none None = refl
    none (Some lines) = ap (λ (xs : List Line). Some xs) (append-nil lines)

-- lines behind others
pub after_more_lines : (journal : JournalView) (lines more : List Line) → after_lines (after_lines journal lines) more ≡ after_lines journal (lines ++ more)
after_more_lines journal lines more = ap (λ (xs : Option (List Line)). record journal { lines = xs }) (both journal.lines)
  where
    both : (told : Option (List Line)) → option_map (λ (xs : List Line). xs ++ more) (option_map (λ (xs : List Line). xs ++ lines) told) ≡ option_map (λ (xs : List Line). xs ++ (lines ++ more)) told
    both None = refl
    both (Some xs) = ap (λ (ys : List Line). Some ys) (append_assoc xs lines more)

-- a refused line that is no span is cut off
pub refused_cut_off : (old new : JournalView) (line : Line) → counted_as line ≡ line ∷ [] → IsRefused old new line → IsCutOff old new (line ∷ [])
refused_cut_off old new line one refused = record {
  count = 1;
  some = omega arith;
  within = omega arith;
  handed = refused.handed ∙ ap (λ (lines : List Line). (after_lines old lines).lines) one;
  failed = refused.failed;
  counted = refused.counted;
  target = refused.target;
}

-- what is cut off is cut off of more lines
pub cut_off_front : (old new : JournalView) (lines more : List Line) → IsCutOff old new lines → IsCutOff old new (lines ++ more)
cut_off_front old new lines more cut = record {
  count = cut.count;
  some = cut.some;
  within = omega (arith, cut.within, length-append lines more);
  handed = cut.handed ∙ ap (λ (xs : List Line). (after_lines old xs).lines) (sym (take-append-le cut.count lines more cut.within));
  failed = cut.failed;
  counted = cut.counted;
  target = cut.target;
}

-- what is cut off behind lines that were told
pub cut_off_behind : (old mid new : JournalView) (lines more : List Line) → mid ≡ after_lines old lines → IsCutOff mid new more → IsCutOff old new (lines ++ more)
cut_off_behind old mid new lines more told cut = record {
  count = length lines + cut.count;
  some = omega (arith, cut.some);
  within = omega (arith, cut.within, length-append lines more);
  handed = cut.handed
      ∙ ap (λ (j : JournalView). (after_lines j (take cut.count more)).lines) told
      ∙ ap (λ (j : JournalView). j.lines) (after_more_lines old lines (take cut.count more))
      ∙ ap (λ (xs : List Line). (after_lines old xs).lines) (sym (front lines));
  failed = cut.failed;
  counted = subst (λ (j : JournalView). HasRisen j.faults new.faults) told cut.counted;
  target = cut.target ∙ ap (λ (j : JournalView). j.target) told;
}
  where
    front : (xs : List Line) → take (length xs + cut.count) (xs ++ more) ≡ xs ++ take cut.count more
    front [] = ap (λ (n : ℕ). take n more) (omega arith)
    front (x ∷ xs) =
        let one_more : length (x ∷ xs) + cut.count ≡ suc (length xs + cut.count) = omega arith in
        ap (λ (n : ℕ). take n (x ∷ (xs ++ more))) one_more ∙ ap (λ (ys : List Line). x ∷ ys) (front xs)
