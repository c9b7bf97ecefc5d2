-- The lines that a line counts as, put one after another.
use Rattle.std.proofs.Common.{◌≡◌, ℕ, zero, suc, ◌+◌, ◌-◌, ◌^◌, ◌≤◌, ◌<◌, [], ◌∷◌, map, Result, Ok, Err, sym, ap, ◌∙◌, subst, arith, append-nil}
use Rattle.std.specs.List.{range_with_len}
use Rattle.wfc_outside.specs.Sink.{SinkView, after_bytes}
use Rattle.wfc_outside.proofs.CallerLemmas.{after_bytes-append, puts_none}
use Rattle.wfc_proof.specs.Heads.{with_line_end}
use Rattle.wfc_proof.specs.Journal.{counted_as}
use Rattle.wfc_proof.specs.ProofText.{AreOfFormat}
use Rattle.wfc_proof.specs.Telling.{text_of, IsCutShort, IsCutAt, PutsCounted}
use Rattle.wfc_proof.specs.Text.{line_text}
use Rattle.wfc_proof.specs.declared.Line.{Line}
use Rattle.wfc_proof.specs.declared.Line.TheVariants.{Remove, Span}
use Rattle.wfc_proof.specs.declared.heads.Format.TheVariants.{One}

-- the first removal of a span, and the others
pub span_step : (c v last d : ℕ) → v ≤ last → counted_as (Span c v last d) ≡ Remove c v d ∷ counted_as (Span c (v + 1) last d)
span_step c v last d low =
    let more : last + 1 - v ≡ suc (last + 1 - (v + 1)) = omega arith in
    ap (λ (k : ℕ). map (λ w. Remove c w d) (range_with_len v k)) more

-- a span that is behind itself has none
pub span_done : (c last d : ℕ) → counted_as (Span c (last + 1) last d) ≡ []
span_done c last d = let none : last + 1 - (last + 1) ≡ 0 = omega arith in ap (λ (k : ℕ). map (λ w. Remove c w d) (range_with_len (last + 1) k)) none

-- where none is left, all are put
pub counted_none : {T : Type 0} (sink : SinkView) (c last d : ℕ) (done : T) → PutsCounted sink sink (Span c (last + 1) last d) (let r : Result T Line = Ok done in r)
counted_none sink c last d done = puts_none sink ∙ ap (λ lines. after_bytes sink (text_of lines)) (sym (span_done c last d))

-- a removal was put, and what becomes of the others becomes of all
pub counted_on : {T : Type 0} (old mid new : SinkView) (c v last d : ℕ) (result : Result T Line) → v ≤ last → mid ≡ after_bytes old (with_line_end (line_text (Remove c v d)))
    → PutsCounted mid new (Span c (v + 1) last d) result → PutsCounted old new (Span c v last d) result
counted_on old mid new c v last d (Ok done) low put rest =
    rest ∙ ap (λ s. after_bytes s (text_of (counted_as (Span c (v + 1) last d)))) put
    ∙ after_bytes-append old (with_line_end (line_text (Remove c v d))) (text_of (counted_as (Span c (v + 1) last d)))
    ∙ ap (λ lines. after_bytes old (text_of lines)) (sym (span_step c v last d low))
counted_on old mid new c v last d (Err refused) low put cut = record {
  done = Remove c v d ∷ cut.done;
  first = cut.first;
  rest = cut.rest;
  split = span_step c v last d low ∙ ap (λ lines. Remove c v d ∷ lines) cut.split;
  left = cut.left;
  cut = subst (λ s. IsCutShort s new (with_line_end (line_text cut.first)))
      (ap (λ s. after_bytes s (text_of cut.done)) put ∙ after_bytes-append old (with_line_end (line_text (Remove c v d))) (text_of cut.done)) cut.cut;
}

-- a removal was cut off, and with it those behind it
pub counted_cut : (old new : SinkView) (c v last d : ℕ) → v ≤ last → IsCutShort old new (with_line_end (line_text (Remove c v d))) → IsCutAt old new (Span c v last d) (Span c v last d)
counted_cut old new c v last d low cut = record {
  done = [];
  first = Remove c v d;
  rest = counted_as (Span c (v + 1) last d);
  split = span_step c v last d low;
  left = span_step c v last d low;
  cut = subst (λ s. IsCutShort s new (with_line_end (line_text (Remove c v d)))) (puts_none old) cut;
}

-- a line that counts as itself was put
pub alone_put : (old new : SinkView) (line : Line) → counted_as line ≡ line ∷ [] → new ≡ after_bytes old (with_line_end (line_text line)) → new ≡ after_bytes old (text_of (counted_as line))
alone_put old new line alone put = put ∙ ap (after_bytes old) (sym (append-nil (with_line_end (line_text line)))) ∙ ap (λ lines. after_bytes old (text_of lines)) (sym alone)

-- or was cut off
pub alone_cut : (old new : SinkView) (line : Line) → counted_as line ≡ line ∷ [] → IsCutShort old new (with_line_end (line_text line)) → IsCutAt old new line line
alone_cut old new line alone cut = record {
  done = [];
  first = line;
  rest = [];
  split = alone;
  left = alone;
  cut = subst (λ s. IsCutShort s new (with_line_end (line_text line))) (puts_none old) cut;
}

-- the removals of a span are of format 1
pub removals_keep : (c d : ℕ) → c < 2 ^ 32 → d < 2 ^ 8 → (v n : ℕ) → v + n ≤ 2 ^ 16 → AreOfFormat One (map (λ w. Remove c w d) (range_with_len v n))
removals_keep c d cell dir v zero low = record {}
removals_keep c d cell dir v (suc n) low = ((cell, omega arith, dir), removals_keep c d cell dir (v + 1) n (omega arith))
