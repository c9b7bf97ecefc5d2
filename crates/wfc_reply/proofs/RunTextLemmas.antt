-- The text of the lines of a run is the text of a proof, or of one that is left open.
use Rattle.std.proofs.Common.{Bool, List, None, Option, Some, [], ap, append-nil, append_assoc, false, length, refl, sym, true, ℕ, ◌++◌, ◌∙◌, ◌∷◌, ◌≡◌}
use Rattle.std.proofs.lemmas.Bool.{and_from, and_parts}
use Rattle.std.proofs.lemmas.List.Folds.{list_all-append}
use Rattle.std.specs.List.{list_all}
use Rattle.std.specs.Prelude.{if◌then◌else◌, ◌==◌}
use Rattle.wfc_choose.specs.Pick.{Rule}
use Rattle.wfc_domains.specs.Store.{StoreView, added_of}
use Rattle.wfc_log.specs.declared.Cause.{Cause}
use Rattle.wfc_log.specs.declared.Cause.TheVariants.{Arc, Assumed}
use Rattle.wfc_log.specs.declared.Removal.{Removal}
use Rattle.wfc_log.specs.declared.Verdict.{Verdict}
use Rattle.wfc_log.specs.declared.Verdict.TheVariants.{Alive, Dead}
use Rattle.wfc_problem.specs.Network.{IsProblem, Network, in_base}
use Rattle.wfc_proof.proofs.Formed.{AreFormed, closes_follows, is_single, proof_formed}
use Rattle.wfc_proof.specs.JournalText.{IsOpenTextOf}
use Rattle.wfc_proof.specs.ProofText.{IsTextOf, head_in}
use Rattle.wfc_proof.specs.Spans.{Joined, all_joined, apart, as_span, growing_part, grown_or_apart, in_spans, join_line, join_on, join_with, line_if_any, nothing_joined}
use Rattle.wfc_proof.specs.Telling.{text_of}
use Rattle.wfc_proof.specs.declared.Line.{Line}
use Rattle.wfc_proof.specs.declared.Line.TheVariants.{Empty, End, Found, Out, Remove, Span, Try}
use Rattle.wfc_proof.specs.declared.heads.Format.{Format}
use Rattle.wfc_proof.specs.declared.heads.Format.TheVariants.{One, Two}
use Rattle.wfc_proof.specs.declared.heads.Shape.{Shape}
use Rattle.wfc_reply.specs.RunText.{IsRunText, format_lines, writing_text, written_format}
use Rattle.wfc_reply.specs.declared.putting.RunWriting.{RunWriting}
use Rattle.wfc_search.specs.Proved.{AreProof, IsClosedBy, IsLeftOpen}
use Rattle.wfc_search.specs.Run.{State, turn_of}
use Rattle.wfc_search.specs.Telling.{TellsRun, TellsTo, empty_lines, end_line, level_lines, lines_by, opening_lines, removal_lines, turn_lines}
use Rattle.wfc_search.specs.declared.Outcome.{Outcome}
use Rattle.wfc_search.specs.declared.Outcome.TheVariants as outcome
use Rattle.wfc_search.specs.declared.Turn.{Turn}
use Rattle.wfc_search.specs.declared.Turn.TheVariants.{Chose, Ended, Retracted}

-- ---- behind the line of an end no span is kept

pub join_more : (joined : Joined) (xs ys : List Line) → join_on joined (xs ++ ys) ≡ join_on (join_on joined xs) ys
join_more joined [] ys = refl
join_more joined (x ∷ xs) ys = join_more (join_line joined x) xs ys

pub none_joined : (kept : Option Line) (o : Outcome) → join_with kept (as_span (end_line o)) ≡ None
none_joined None o = refl
none_joined (Some (Remove c v d)) o = refl
none_joined (Some (Span c first last d)) outcome.Map = refl
none_joined (Some (Span c first last d)) outcome.NoMap = refl
none_joined (Some (Span c first last d)) outcome.Spent = refl
none_joined (Some (Try c v)) o = refl
none_joined (Some (Empty c)) o = refl
none_joined (Some End) o = refl
none_joined (Some Found) o = refl
none_joined (Some Out) o = refl

pub none_growing : (o : Outcome) → growing_part (as_span (end_line o)) ≡ None
none_growing outcome.Map = refl
none_growing outcome.NoMap = refl
none_growing outcome.Spent = refl

-- the line comes behind the joined lines
pub spans_ended : (told : List Line) (o : Outcome) → in_spans (told ++ end_line o ∷ []) ≡ in_spans told ++ end_line o ∷ []
spans_ended told o =
    let joined : Joined = join_on nothing_joined told in
    ap all_joined (join_more nothing_joined told (end_line o ∷ []))
    ∙ ap (λ (m : Option Line). all_joined (grown_or_apart joined (as_span (end_line o)) m)) (none_joined joined.kept o)
    ∙ by_end joined o
  where
    behind : (joined : Joined) (last : Line) → (joined.done ++ (line_if_any joined.kept ++ last ∷ [])) ++ [] ≡ all_joined joined ++ last ∷ []
    behind joined last = append-nil (joined.done ++ (line_if_any joined.kept ++ last ∷ [])) ∙ sym (append_assoc joined.done (line_if_any joined.kept) (last ∷ []))

    by_end : (joined : Joined) (o : Outcome) → all_joined (apart joined (as_span (end_line o))) ≡ all_joined joined ++ end_line o ∷ []
    by_end joined outcome.Map = behind joined Found
    by_end joined outcome.NoMap = behind joined End
    by_end joined outcome.Spent = behind joined Out

-- ---- a run tells no span

-- lines without a span, and more
pub single_both : (xs ys : List Line) → list_all is_single xs ≡ true → list_all is_single ys ≡ true → list_all is_single (xs ++ ys) ≡ true
single_both xs ys first rest = list_all-append is_single xs ys ∙ and_from _ _ first rest

pub single_front : (xs ys : List Line) → list_all is_single (xs ++ ys) ≡ true → list_all is_single xs ≡ true
single_front xs ys all = (and_parts (list_all is_single xs) (list_all is_single ys) (sym (list_all-append is_single xs ys) ∙ all)).0

pub removals_single : (rs : List Removal) → list_all is_single (removal_lines rs) ≡ true
removals_single [] = refl
removals_single (r ∷ rs) = by_cause r.cause (removals_single rs)
  where
    by_cause : (cause : Cause) → list_all is_single (removal_lines rs) ≡ true → list_all is_single (lines_by r.cell r.value cause ++ removal_lines rs) ≡ true
    by_cause Assumed rest = rest
    by_cause (Arc d) rest = rest

pub level_single : (store : StoreView) → list_all is_single (level_lines store) ≡ true
level_single store = single_both (removal_lines (added_of store)) (empty_lines store.verdict) (removals_single (added_of store)) (by_verdict store.verdict)
  where
    by_verdict : (verdict : Verdict) → list_all is_single (empty_lines verdict) ≡ true
    by_verdict Alive = refl
    by_verdict (Dead cell) = refl

pub end_single : (o : Outcome) → list_all is_single (end_line o ∷ []) ≡ true
end_single outcome.Map = refl
end_single outcome.NoMap = refl
end_single outcome.Spent = refl

pub turn_single : (turn : Turn) (store : StoreView) → list_all is_single (turn_lines turn store) ≡ true
turn_single (Chose cell value) store = level_single store
turn_single (Retracted cell value) store = level_single store
turn_single (Ended o) store = end_single o

pub turns_single : (P : Network) (rule : Rule) (budget : ℕ) (s t : State) (stores : List StoreView) (lines : List Line) → TellsTo P rule budget s stores t lines → list_all is_single lines ≡ true
turns_single P rule budget s t [] lines tells = ap (list_all is_single) tells.1
turns_single P rule budget s t (store ∷ stores) lines tells =
    ap (list_all is_single) tells.5
    ∙ single_both (turn_lines (turn_of P rule budget s).0 store) tells.3 (turn_single (turn_of P rule budget s).0 store) (turns_single P rule budget tells.0 t stores tells.3 tells.4)

pub opening_single : (store : StoreView) → list_all is_single (opening_lines store) ≡ true
opening_single store = by_first (length store.standing == 0)
  where
    by_first : (first : Bool) → list_all is_single (if first then level_lines store else []) ≡ true
    by_first true = level_single store
    by_first false = refl

pub run_single : (P : Network) (rule : Rule) (budget : ℕ) (s : State) (first : StoreView) (o : Outcome) (lines : List Line) → TellsRun P rule budget s first o lines → list_all is_single lines ≡ true
run_single P rule budget s first o lines run =
    ap (list_all is_single) run.lines_are
    ∙ single_both (opening_lines first) (run.before ++ end_line o ∷ []) (opening_single first)
    (single_both run.before (end_line o ∷ []) (turns_single P rule budget s run.last run.stores run.before run.turns) (end_single o))

-- ---- the text

pub closed_text : (P : Network) (shape : Shape) (lines : List Line) → IsProblem P → (closed : IsClosedBy P lines) → list_all is_single lines ≡ true → (format : Format)
    → IsTextOf P shape format closed.proof (head_in format P shape ++ text_of (format_lines format lines))
closed_text P shape lines p closed single = by_format
  where
    front : list_all is_single closed.told ≡ true
    front = single_front closed.told (End ∷ []) (ap (list_all is_single) (sym closed.whole) ∙ single)

    formed : AreFormed closed.told closed.proof
    formed = proof_formed P p closed.proof closed.told (closes_follows P (in_base P) closed.proof closed.closes) front closed.spells

    by_format : (format : Format) → IsTextOf P shape format closed.proof (head_in format P shape ++ text_of (format_lines format lines))
    by_format One = record {
      closes = closed.closes;
      lines = closed.told;
      formed = formed.plain;
      spells = closed.spells;
      text = ap (λ (ls : List Line). head_in One P shape ++ text_of ls) closed.whole;
    }
    by_format Two = record {
      closes = closed.closes;
      lines = in_spans closed.told;
      formed = formed.joined;
      spells = formed.spells;
      text = ap (λ (ls : List Line). head_in Two P shape ++ text_of ls) (ap in_spans closed.whole ∙ spans_ended closed.told outcome.NoMap);
    }

pub open_text : (P : Network) (shape : Shape) (lines : List Line) (o : Outcome) → IsProblem P → (left : IsLeftOpen P lines (end_line o)) → list_all is_single lines ≡ true → (format : Format)
    → IsOpenTextOf P shape format left.proof (end_line o) (head_in format P shape ++ text_of (format_lines format lines))
open_text P shape lines o p left single = by_format
  where
    front : list_all is_single left.told ≡ true
    front = single_front left.told (end_line o ∷ []) (ap (list_all is_single) (sym left.whole) ∙ single)

    formed : AreFormed left.told left.proof
    formed = proof_formed P p left.proof left.told left.follows front left.spells

    by_format : (format : Format) → IsOpenTextOf P shape format left.proof (end_line o) (head_in format P shape ++ text_of (format_lines format lines))
    by_format One = record {
      follows = left.follows;
      stops = left.stops;
      lines = left.told;
      formed = formed.plain;
      spells = left.spells;
      text = ap (λ (ls : List Line). head_in One P shape ++ text_of ls) left.whole;
    }
    by_format Two = record {
      follows = left.follows;
      stops = left.stops;
      lines = in_spans left.told;
      formed = formed.joined;
      spells = formed.spells;
      text = ap (λ (ls : List Line). head_in Two P shape ++ text_of ls) (ap in_spans left.whole ∙ spans_ended left.told o);
    }

-- the text of a run is a proof's, or that of one that is left open
pub run_text : (writing : RunWriting) (P : Network) (o : Outcome) (lines : List Line) → IsProblem P → AreProof P o lines → list_all is_single lines ≡ true
    → IsRunText P writing.shape o (writing_text writing P lines)
run_text writing P outcome.NoMap lines p proof single =
    record { format = written_format writing.format; proof = proof.proof; is = closed_text P writing.shape lines p proof single (written_format writing.format) }
run_text writing P outcome.Map lines p proof single =
    record { format = written_format writing.format; proof = proof.proof; is = open_text P writing.shape lines outcome.Map p proof single (written_format writing.format) }
run_text writing P outcome.Spent lines p proof single =
    record { format = written_format writing.format; proof = proof.proof; is = open_text P writing.shape lines outcome.Spent p proof single (written_format writing.format) }
