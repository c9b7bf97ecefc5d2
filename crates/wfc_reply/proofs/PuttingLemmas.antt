-- What the head and the lines of a run leave in the sink.
use Rattle.rand_core.specs.Stream.{Stream}
use Rattle.std.proofs.Common.{Bool, Err, List, Ok, Result, [], ap, arith, false, if◌then◌else◌, inl, inr, length, length-append, refl, subst, sym, take, take_at, true, ℕ, ◌++◌, ◌+◌, ◌==◌, ◌∙◌, ◌≡◌, ◌≢◌}
use Rattle.std.proofs.Math.Seq.{take-append-add}
use Rattle.std.proofs.lemmas.Bool.Decides.{nat_tests}
use Rattle.wfc_choose.specs.Pick.{Rule}
use Rattle.wfc_outside.proofs.CallerLemmas.{after_bytes-append, fault_on}
use Rattle.wfc_outside.specs.Sink.{IsFaultAfterFront, SinkView, after_bytes}
use Rattle.wfc_plan.specs.declared.fault.Fault.{Fault}
use Rattle.wfc_problem.specs.Network.{Network}
use Rattle.wfc_proof.specs.Telling.{text_of}
use Rattle.wfc_proof.specs.declared.Line.{Line}
use Rattle.wfc_proof.specs.declared.heads.Format.{Format}
use Rattle.wfc_proof.specs.declared.heads.Format.TheVariants.{One, Two}
use Rattle.wfc_reply.proofs.JournalLemmas.{store_at}
use Rattle.wfc_reply.specs.Putting.{CutsFrom, CutsWriting, IsBrokenOff, PutsBehind, PutsFrom, PutsOrStops, PutsWriting}
use Rattle.wfc_reply.specs.RunText.{IsBegunBy, IsToldBy, format_lines, writing_head, writing_text, written_format}
use Rattle.wfc_reply.specs.declared.putting.RunWriting.{RunWriting}
use Rattle.wfc_reply.specs.declared.reply.Stop.{Stop}
use Rattle.wfc_reply.specs.declared.reply.Stop.TheVariants.{Cut, Unanswered}
use Rattle.wfc_runs.specs.Words.{words_of_seed}
use Rattle.wfc_search.specs.Run.{State, start}
use Rattle.wfc_search.specs.Search.{IsReady, SearchView, state_at}
use Rattle.wfc_search.specs.Telling.{opening_lines}
use Rattle.wfc_search.specs.declared.Outcome.{Outcome}

-- a format whose number isn't 1 is that of spans
pub spanned_format : (number : ℕ) → (number ≡ 1 → ⊥) → written_format number ≡ Two
spanned_format number other = by_test (number == 1) refl
  where
    by_test : (is : Bool) → (number == 1) ≡ is → (if is then One else Two) ≡ Two
    by_test true test = absurd (other (grind (arith, nat_tests, test)))
    by_test false test = refl

-- a search that was just begun, of which this is to be written
pub record IsBegunFor (rule : Rule) (writing : RunWriting) (P : Network) (s : SearchView) (words : Stream) : Type 0 where
  pub ready : IsReady s
  pub rule_is : s.chooser.rule ≡ rule
  pub budget : s.course.budget ≡ writing.budget
  pub problem : s.problem ≡ P
  pub standing : s.store.standing ≡ []
  pub unmade : s.course.retractions ≡ 0
  pub seed : words ≡ words_of_seed writing.seed

-- it is at the start of its run
at_start : (rule : Rule) (writing : RunWriting) (P : Network) (s : SearchView) (words : Stream) (T : Rule → ℕ → Network → State → Type 0) → IsBegunFor rule writing P s words
    → T s.chooser.rule s.course.budget s.problem (state_at s.store s.course 0 words) → T rule writing.budget P (start (words_of_seed writing.seed))
at_start rule writing P s words T begins holds =
    let state : state_at s.store s.course 0 words ≡ start (words_of_seed writing.seed) = λ i. record { standing = begins.standing i; retractions = begins.unmade i; draws = 0; words = begins.seed i } in
    subst (λ (r : Rule). T r writing.budget P (start (words_of_seed writing.seed))) begins.rule_is
    (subst (λ (b : ℕ). T s.chooser.rule b P (start (words_of_seed writing.seed))) begins.budget
    (subst (λ (Q : Network). T s.chooser.rule s.course.budget Q (start (words_of_seed writing.seed))) begins.problem
    (subst (λ (t : State). T s.chooser.rule s.course.budget s.problem t) state holds)))

-- a front of lines that is broken off is so behind a head
broken_behind : (format : Format) (bytes : ℕ) (head text : List ℕ) → IsBrokenOff format bytes 0 (length text) → IsBrokenOff format (length head + bytes) (length head) (length (head ++ text))
broken_behind One bytes head text broken = tt
broken_behind Two bytes head text (inl none) = inl (omega (arith, none))
broken_behind Two bytes head text (inr less) = inr (omega (arith, less, length-append head text))

-- and so is a head
broken_head : (format : Format) (head text : ℕ) → IsBrokenOff format head head text
broken_head One head text = tt
broken_head Two head text = inl (omega arith)

-- the head and the lines, all of them or a front
pub writing_put : (rule : Rule) (writing : RunWriting) (P : Network) (s : SearchView) (words : Stream) (o : Outcome) (old mid new : SinkView) → IsBegunFor rule writing P s words
    → mid ≡ after_bytes old (writing_head writing P) → PutsFrom (written_format writing.format) s words o mid new → PutsWriting rule writing P o old new
writing_put rule writing P s words o old mid new begins head puts =
    record {
      lines = puts.lines;
      told = at_start rule writing P s words (λ r b Q t. IsToldBy r b Q t o puts.lines) begins puts.told;
      put = puts.put ∙ ap (λ (m : SinkView). after_bytes m (text_of (format_lines (written_format writing.format) puts.lines))) head
          ∙ after_bytes-append old (writing_head writing P) (text_of (format_lines (written_format writing.format) puts.lines));
    }

pub writing_cut : (rule : Rule) (writing : RunWriting) (P : Network) (s : SearchView) (words : Stream) (old mid new : SinkView) → IsBegunFor rule writing P s words
    → mid ≡ after_bytes old (writing_head writing P) → CutsFrom (written_format writing.format) s words mid new → CutsWriting rule writing P old new
writing_cut rule writing P s words old mid new begins head cuts =
    record {
      lines = cuts.lines;
      begun = at_start rule writing P s words (λ r b Q t. IsBegunBy r b Q t cuts.lines) begins cuts.begun;
      count = cuts.count;
      within = cuts.within;
      bytes = length (writing_head writing P) + cuts.bytes;
      broken = broken_behind (written_format writing.format) cuts.bytes (writing_head writing P) (text_of (format_lines (written_format writing.format) (take cuts.count cuts.lines))) cuts.broken;
      fault = subst (λ (xs : List ℕ). IsFaultAfterFront old new xs)
          (sym (take-append-add (writing_head writing P) (text_of (format_lines (written_format writing.format) (take cuts.count cuts.lines))) cuts.bytes))
          (fault_on old mid new (writing_head writing P) (take cuts.bytes (text_of (format_lines (written_format writing.format) (take cuts.count cuts.lines)))) head cuts.fault);
    }

pub head_cut : (rule : Rule) (writing : RunWriting) (P : Network) (s : SearchView) (words : Stream) (old new : SinkView) → IsBegunFor rule writing P s words
    → IsFaultAfterFront old new (writing_head writing P) → CutsWriting rule writing P old new
head_cut rule writing P s words old new begins fault =
    let lines : List Line = opening_lines s.store ++ [] in
    let begun : IsBegunBy s.chooser.rule s.course.budget s.problem (state_at s.store s.course 0 words) lines =
    record { first = s.store; opened = store_at s words begins.ready; stores = []; last = state_at s.store s.course 0 words; before = []; turns = (refl, refl); store = s.store; lines_are = inl refl } in
    record {
      lines = lines;
      begun = at_start rule writing P s words (λ r b Q t. IsBegunBy r b Q t lines) begins begun;
      count = 0;
      within = omega arith;
      bytes = length (writing_head writing P);
      broken = broken_head (written_format writing.format) (length (writing_head writing P)) (length (writing_text writing P (take 0 lines)));
      fault = subst (λ (xs : List ℕ). IsFaultAfterFront old new xs) (sym (take_at (writing_head writing P) (text_of (format_lines (written_format writing.format) (take 0 lines))) (length (writing_head writing P)) refl)) fault;
    }

-- behind another text
pub behind_text : (first : List ℕ) (rule : Rule) (writing : RunWriting) (P : Network) (old mid new : SinkView) (result : Result Outcome Stop) → mid ≡ after_bytes old first
    → ((fault : Fault) → result ≢ Err (Unanswered fault)) → PutsOrStops rule writing P mid new result → PutsBehind first rule writing P old new result
behind_text first rule writing P old mid new (Ok outcome) put answered puts = record { mid = mid; put = put; puts = puts }
behind_text first rule writing P old mid new (Err Cut) put answered cuts = inr (record { mid = mid; put = put; cuts = cuts })
behind_text first rule writing P old mid new (Err (Unanswered fault)) put answered short = absurd (answered fault refl)
