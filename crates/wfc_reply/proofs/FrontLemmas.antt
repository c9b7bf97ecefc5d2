-- The first lines of a run are a front of the text of a proof, or of one that is left open.
use Rattle.rand_core.specs.Stream.{Stream}
use Rattle.std.proofs.Common.{Bool, List, [], ap, append-nil, append_assoc, arith, drop, inl, inr, length, length-append, refl, subst, sym, take, take-append-drop, take_all, true, ℕ, ◌++◌, ◌+◌, ◌<◌, ◌≤◌, ◌∙◌, ◌∷◌, ◌≡◌, ◌⊎◌}
use Rattle.std.specs.List.{list_all}
use Rattle.std.proofs.lemmas.Bool.{cases_lt}
use Rattle.std.proofs.lemmas.List.{take-append-le}
use Rattle.wfc_choose.specs.Pick.{Rule}
use Rattle.wfc_domains.specs.Store.{StoreView}
use Rattle.wfc_problem.specs.Network.{IsProblem, Network}
use Rattle.wfc_proof.proofs.Formed.{is_single}
use Rattle.wfc_proof.proofs.TellingLemmas.{text_of-append}
use Rattle.wfc_proof.specs.Telling.{text_of}
use Rattle.wfc_proof.specs.declared.Line.{Line}
use Rattle.wfc_proof.specs.declared.heads.Format.{Format}
use Rattle.wfc_proof.specs.declared.heads.Format.TheVariants.{One, Two}
use Rattle.wfc_reply.proofs.RunTextLemmas.{end_single, opening_single, run_single, run_text, single_both, single_front, spans_ended, turns_single}
use Rattle.wfc_reply.proofs.ToldRunLemmas.{run_is_proof}
use Rattle.wfc_reply.specs.RunText.{IsBegunBy, IsFrontOfText, IsToldBy, format_lines, writing_head, writing_text, written_format}
use Rattle.wfc_reply.specs.declared.putting.RunWriting.{RunWriting}
use Rattle.wfc_search.proofs.CallerLemmas.{ended_same}
use Rattle.wfc_search.proofs.Proved.{front_proved, tells_more}
use Rattle.wfc_search.specs.Proved.{AreProof}
use Rattle.wfc_search.specs.Run.{LeadsTo, State, start, turn_of}
use Rattle.wfc_search.specs.Telling.{IsStoreAt, TellsRun, TellsTo, end_line, opening_lines, turn_lines}
use Rattle.wfc_search.specs.declared.Outcome.{Outcome}
use Rattle.wfc_search.specs.declared.Outcome.TheVariants as outcome
use Rattle.wfc_search.specs.declared.Turn.{Turn}
use Rattle.wfc_search.specs.declared.Turn.TheVariants.{Chose, Ended, Retracted}

-- the text of lines is a front of it with the line of an end behind them
ended_text : (writing : RunWriting) (P : Network) (lines : List Line) (o : Outcome) → writing_text writing P (lines ++ end_line o ∷ []) ≡ writing_text writing P lines ++ text_of (end_line o ∷ [])
ended_text writing P lines o =
    ap (λ (ls : List Line). writing_head writing P ++ text_of ls) (by_format (written_format writing.format))
    ∙ ap (λ (xs : List ℕ). writing_head writing P ++ xs) (text_of-append (format_lines (written_format writing.format) lines) (end_line o ∷ []))
    ∙ sym (append_assoc (writing_head writing P) (text_of (format_lines (written_format writing.format) lines)) (text_of (end_line o ∷ [])))
  where
    by_format : (format : Format) → format_lines format (lines ++ end_line o ∷ []) ≡ format_lines format lines ++ end_line o ∷ []
    by_format One = refl
    by_format Two = spans_ended lines o

-- so is the text of lines that an end makes a proof
proved_front : (writing : RunWriting) (P : Network) (lines : List Line) (o : Outcome) → IsProblem P → list_all is_single lines ≡ true → AreProof P o (lines ++ end_line o ∷ [])
    → IsFrontOfText P writing.shape (writing_text writing P lines)
proved_front writing P lines o p single proof = record {
  outcome = o;
  text = writing_text writing P (lines ++ end_line o ∷ []);
  is = run_text writing P o (lines ++ end_line o ∷ []) p proof (single_both lines (end_line o ∷ []) single (end_single o));
  more = text_of (end_line o ∷ []);
  whole = ended_text writing P lines o;
}

-- the first lines of an opening and some turns
turns_front : (writing : RunWriting) (P : Network) (rule : Rule) (budget : ℕ) (words : Stream) (last : State) (first : StoreView) (stores : List StoreView) (before : List Line) (count : ℕ)
    → IsProblem P → IsStoreAt P (start words) first → TellsTo P rule budget (start words) stores last before
    → IsFrontOfText P writing.shape (writing_text writing P (take count (opening_lines first ++ before)))
turns_front writing P rule budget words last first stores before count p opened turns =
    let lines : List Line = opening_lines first ++ before in
    let whole : take count lines ++ drop count lines ≡ lines = take-append-drop count lines in
    let all : list_all is_single lines ≡ true = single_both (opening_lines first) before (opening_single first) (turns_single P rule budget (start words) last stores before turns) in
    let single : list_all is_single (take count lines) ≡ true = single_front (take count lines) (drop count lines) (ap (list_all is_single) whole ∙ all) in
    elim (front_proved P rule budget (start words) last first stores before (take count lines) (drop count lines) refl opened turns (sym whole)) [
      | inl proof ↦ proved_front writing P (take count lines) outcome.Map p single proof
      | inr proof ↦ proved_front writing P (take count lines) outcome.NoMap p single proof
    ]

-- the first lines of a run
pub front_text : (writing : RunWriting) (P : Network) (rule : Rule) (budget : ℕ) (words : Stream) (lines : List Line) (count : ℕ) → IsProblem P → IsBegunBy rule budget P (start words) lines
    → IsFrontOfText P writing.shape (writing_text writing P (take count lines))
front_text writing P rule budget words lines count p begun = by_lines begun.lines_are
  where
    Front : List Line → Type 0
    Front ls = IsFrontOfText P writing.shape (writing_text writing P (take count ls))

    -- behind a turn that leads on
    led : (turn : Turn × State) → turn_of P rule budget begun.last ≡ turn → LeadsTo turn turn.1 → IsStoreAt P turn.1 begun.store
        → Front (opening_lines begun.first ++ (begun.before ++ turn_lines (turn_of P rule budget begun.last).0 begun.store))
    led turn is leads at =
        let more = tells_more P rule budget (start words) begun.last turn.1 begun.stores begun.store begun.before begun.turns (subst (λ (t : Turn × State). LeadsTo t turn.1) (sym is) leads) at in
        turns_front writing P rule budget words turn.1 begun.first more.0 (begun.before ++ turn_lines (turn_of P rule budget begun.last).0 begun.store) count p begun.opened more.1

    -- all lines of a run that has ended, or some of those before the last
    ended_front : (o : Outcome) (u : State) → turn_of P rule budget begun.last ≡ (Ended o, u) → Front (opening_lines begun.first ++ (begun.before ++ end_line o ∷ []))
    ended_front o u is =
        let told : List Line = opening_lines begun.first ++ begun.before in
        let all : List Line = opening_lines begun.first ++ (begun.before ++ end_line o ∷ []) in
        let joined : all ≡ told ++ end_line o ∷ [] = sym (append_assoc (opening_lines begun.first) begun.before (end_line o ∷ [])) in
        elim (cases_lt (length told) count) [
          | inl long ↦
              let same : take count all ≡ all = take_all count all (omega (arith, long, ap length joined, length-append told (end_line o ∷ []))) in
              let run : TellsRun P rule budget (start words) begun.first o all =
              record { stores = begun.stores; last = begun.last; before = begun.before; turns = begun.turns; ended = ended_same P rule budget begun.last u o is; lines_are = refl } in
              let proof = run_is_proof rule budget P words o all (record { first = begun.first; opened = begun.opened; tells = run }) in
              subst (λ (ls : List Line). IsFrontOfText P writing.shape (writing_text writing P ls)) (sym same)
              (record {
                outcome = o;
                text = writing_text writing P all;
                is = run_text writing P o all p proof (run_single P rule budget (start words) begun.first o all run);
                more = [];
                whole = sym (append-nil (writing_text writing P all));
              })
          | inr short ↦
              subst (λ (ls : List Line). IsFrontOfText P writing.shape (writing_text writing P ls))
              (sym (ap (take count) joined ∙ take-append-le count told (end_line o ∷ []) short))
              (turns_front writing P rule budget words begun.last begun.first begun.stores begun.before count p begun.opened begun.turns)
        ]

    by_turn : (turn : Turn × State) → turn_of P rule budget begun.last ≡ turn → IsStoreAt P turn.1 begun.store
        → Front (opening_lines begun.first ++ (begun.before ++ turn_lines (turn_of P rule budget begun.last).0 begun.store))
    by_turn (Chose cell value, next) is at = led (Chose cell value, next) is refl at
    by_turn (Retracted cell value, next) is at = led (Retracted cell value, next) is refl at
    by_turn (Ended o, u) is at =
        subst (λ (t : Turn × State). Front (opening_lines begun.first ++ (begun.before ++ turn_lines t.0 begun.store))) (sym is) (ended_front o u is)

    by_lines : (lines ≡ opening_lines begun.first ++ begun.before)
        ⊎ (IsStoreAt P (turn_of P rule budget begun.last).1 begun.store
        × (lines ≡ opening_lines begun.first ++ (begun.before ++ turn_lines (turn_of P rule budget begun.last).0 begun.store)))
        → Front lines
    by_lines (inl e) = subst Front (sym e) (turns_front writing P rule budget words begun.last begun.first begun.stores begun.before count p begun.opened begun.turns)
    by_lines (inr (left, e)) = subst Front (sym e) (by_turn (turn_of P rule budget begun.last) refl left)
