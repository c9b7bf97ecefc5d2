-- What a run leaves in the sink that its lines are put into.
use Rattle.rand_core.specs.Stream.{Stream}
use Rattle.std.proofs.Common.{Err, List, None, Ok, Option, Result, Some, [], ap, append_assoc, arith, inl, inr, length, length-take, refl, subst, sym, take, take_all, ℕ, ◌++◌, ◌+◌, ◌∙◌, ◌∷◌, ◌≡◌, ◌≤◌, ◌⊎◌}
use Rattle.std.specs.Borrow.{GName}
use Rattle.std.specs.Prelude.{IfOk, OnErr}
use Rattle.wfc_choose.specs.Pick.{Rule}
use Rattle.wfc_domains.specs.Store.{StoreView}
use Rattle.wfc_outside.specs.Sink.{IsFaultAfterFront, SinkView, after_bytes}
use Rattle.wfc_problem.specs.Network.{Network}
use Rattle.wfc_proof.proofs.WrittenLemmas.{lines_cut_off, lines_written, spans_cut_off, spans_written}
use Rattle.wfc_proof.specs.Journal.{IsCutOff, JournalView, Target, after_lines}
use Rattle.wfc_proof.specs.Spans.{IsSpanning, Joined, as_span, grown_or_apart, in_spans, join_line, join_on, nothing_joined, spans_of}
use Rattle.wfc_proof.specs.Telling.{IsAt, IsCutShort, new_journal, journal_of, refused_lines, text_of}
use Rattle.wfc_proof.specs.declared.JournalFault.{JournalFault}
use Rattle.wfc_proof.specs.declared.Line.{Line}
use Rattle.wfc_proof.specs.declared.heads.Format.TheVariants.{One, Two}
use Rattle.wfc_reply.proofs.RunTextLemmas.{join_more, none_growing, none_joined}
use Rattle.wfc_reply.specs.Putting.{CutsFrom, PutsFrom}
use Rattle.wfc_search.specs.Run.{State, turn_of}
use Rattle.wfc_search.specs.Search.{IsReady, SearchView, state_at}
use Rattle.wfc_search.specs.Telling.{IsRunCutOff, IsRunTold, IsStoreAt, RunFails, TellsRun, end_line, opening_lines, turn_lines}
use Rattle.wfc_search.specs.declared.Outcome.{Outcome}

-- ---- behind the line of an end no span is kept

pub end_kept : (joined : Joined) (o : Outcome) → (join_line joined (end_line o)).kept ≡ None
end_kept joined o = ap (λ (m : Option Line). (grown_or_apart joined (as_span (end_line o)) m).kept) (none_joined joined.kept o) ∙ none_growing o

pub ended_kept : (before : List Line) (o : Outcome) → (join_on nothing_joined (before ++ end_line o ∷ [])).kept ≡ None
ended_kept before o = ap (λ (j : Joined). j.kept) (join_more nothing_joined before (end_line o ∷ [])) ∙ end_kept (join_on nothing_joined before) o

pub run_kept : (P : Network) (rule : Rule) (budget : ℕ) (s : State) (first : StoreView) (o : Outcome) (lines : List Line) → TellsRun P rule budget s first o lines → (join_on nothing_joined lines).kept ≡ None
run_kept P rule budget s first o lines run =
    ap (λ (ls : List Line). (join_on nothing_joined ls).kept) (run.lines_are ∙ sym (append_assoc (opening_lines first) run.before (end_line o ∷ []))) ∙ ended_kept (opening_lines first ++ run.before) o

-- ---- what a journal over a sink leaves in it

pub store_at : (s : SearchView) (words : Stream) → IsReady s → IsStoreAt s.problem (state_at s.store s.course 0 words) s.store
store_at s words ready = record { problem = ready.problem; standing = refl; sound = ready.keeps.sound }

-- the name of a journal's sink
abbrev pub name_in : GName → Option Target → GName
name_in other None = other
name_in other (Some target) = target.name

pub lines_put : (s : SearchView) (words : Stream) (o : Outcome) (name other : GName) (started sink : SinkView) (refused : Option Line) → IsReady s → IsAt One sink.told (refused_lines refused)
    → IsRunTold s words o (new_journal name started) (journal_of other sink refused) → PutsFrom One s words o started sink
lines_put s words o name other started sink refused ready at told =
    let same : other ≡ name = ap (λ (j : JournalView). name_in name j.target) told.2 in
    record {
      lines = told.0;
      told = record { first = s.store; opened = store_at s words ready; tells = told.1 };
      put = lines_written name started sink refused told.0 at (subst (λ (n : GName). journal_of n sink refused ≡ after_lines (new_journal name started) told.0) same told.2);
    }

pub spans_put : (s : SearchView) (words : Stream) (o : Outcome) (name other : GName) (started sink : SinkView) (kept refused : Option Line) → IsReady s → IsSpanning sink kept refused
    → IsRunTold s words o (new_journal name started) (spans_of other sink kept refused) → PutsFrom Two s words o started sink
spans_put s words o name other started sink kept refused ready at told =
    let same : other ≡ name = ap (λ (j : JournalView). name_in name j.target) told.2 in
    record {
      lines = told.0;
      told = record { first = s.store; opened = store_at s words ready; tells = told.1 };
      put = spans_written name started sink kept refused told.0 at (run_kept s.problem s.chooser.rule s.course.budget (state_at s.store s.course 0 words) s.store o told.0 told.1)
          (subst (λ (n : GName). spans_of n sink kept refused ≡ after_lines (new_journal name started) told.0) same told.2);
    }

-- a front that isn't the whole is a front of itself
cut_front : (old new : SinkView) (text : List ℕ) → (parted : IsCutShort old new text) → IsFaultAfterFront old new (take parted.n text)
cut_front old new text parted =
    let again : take parted.n (take parted.n text) ≡ take parted.n text = take_all parted.n (take parted.n text) (omega (arith, length-take parted.n text)) in
    record { front = (parted.n, parted.front ∙ ap (λ (xs : List ℕ). (after_bytes old xs).told) (sym again)); counted = parted.counted }

pub lines_cut : (s : SearchView) (words : Stream) (name other : GName) (started sink : SinkView) (refused : Option Line) → IsReady s → IsAt One sink.told (refused_lines refused)
    → IsRunCutOff s.problem s.chooser.rule s.course.budget (state_at s.store s.course 0 words) s.store (new_journal name started) (journal_of other sink refused) → CutsFrom One s words started sink
lines_cut s words name other started sink refused ready at run = by_cut run.cut_off
  where
    named : (lines : List Line) → IsCutOff (new_journal name started) (journal_of other sink refused) lines → IsCutOff (new_journal name started) (journal_of name sink refused) lines
    named lines parted = subst (λ (n : GName). IsCutOff (new_journal name started) (journal_of n sink refused) lines) (ap (name_in name) parted.target) parted

    by_cut : IsCutOff (new_journal name started) (journal_of other sink refused) (opening_lines s.store ++ run.before)
        ⊎ (IsStoreAt s.problem (turn_of s.problem s.chooser.rule s.course.budget run.last).1 run.store
        × IsCutOff (new_journal name started) (journal_of other sink refused) (opening_lines s.store ++ (run.before ++ turn_lines (turn_of s.problem s.chooser.rule s.course.budget run.last).0 run.store)))
        → CutsFrom One s words started sink
    by_cut (inl parted) =
        let lines = opening_lines s.store ++ run.before in
        let front = lines_cut_off name started sink refused lines at (named lines parted) in
        record {
          lines = lines;
          begun = record { first = s.store; opened = store_at s words ready; stores = run.stores; last = run.last; before = run.before; turns = run.turns; store = run.store; lines_are = inl refl };
          count = front.0;
          within = front.1;
          bytes = length (text_of (take front.0 lines));
          broken = tt;
          fault = subst (λ (xs : List ℕ). IsFaultAfterFront started sink xs) (sym (take_all (length (text_of (take front.0 lines))) (text_of (take front.0 lines)) (omega arith))) front.2;
        }
    by_cut (inr (left, parted)) =
        let lines = opening_lines s.store ++ (run.before ++ turn_lines (turn_of s.problem s.chooser.rule s.course.budget run.last).0 run.store) in
        let front = lines_cut_off name started sink refused lines at (named lines parted) in
        record {
          lines = lines;
          begun = record { first = s.store; opened = store_at s words ready; stores = run.stores; last = run.last; before = run.before; turns = run.turns; store = run.store; lines_are = inr (left, refl) };
          count = front.0;
          within = front.1;
          bytes = length (text_of (take front.0 lines));
          broken = tt;
          fault = subst (λ (xs : List ℕ). IsFaultAfterFront started sink xs) (sym (take_all (length (text_of (take front.0 lines))) (text_of (take front.0 lines)) (omega arith))) front.2;
        }

pub spans_cut : (s : SearchView) (words : Stream) (name other : GName) (started sink : SinkView) (kept refused : Option Line) → IsReady s → IsSpanning sink kept refused
    → IsRunCutOff s.problem s.chooser.rule s.course.budget (state_at s.store s.course 0 words) s.store (new_journal name started) (spans_of other sink kept refused) → CutsFrom Two s words started sink
spans_cut s words name other started sink kept refused ready at run = by_cut run.cut_off
  where
    named : (lines : List Line) → IsCutOff (new_journal name started) (spans_of other sink kept refused) lines → IsCutOff (new_journal name started) (spans_of name sink kept refused) lines
    named lines parted = subst (λ (n : GName). IsCutOff (new_journal name started) (spans_of n sink kept refused) lines) (ap (name_in name) parted.target) parted

    by_cut : IsCutOff (new_journal name started) (spans_of other sink kept refused) (opening_lines s.store ++ run.before)
        ⊎ (IsStoreAt s.problem (turn_of s.problem s.chooser.rule s.course.budget run.last).1 run.store
        × IsCutOff (new_journal name started) (spans_of other sink kept refused) (opening_lines s.store ++ (run.before ++ turn_lines (turn_of s.problem s.chooser.rule s.course.budget run.last).0 run.store)))
        → CutsFrom Two s words started sink
    by_cut (inl parted) =
        let lines = opening_lines s.store ++ run.before in
        let front = spans_cut_off name started sink kept refused lines at (named lines parted) in
        record {
          lines = lines;
          begun = record { first = s.store; opened = store_at s words ready; stores = run.stores; last = run.last; before = run.before; turns = run.turns; store = run.store; lines_are = inl refl };
          count = front.0;
          within = front.1;
          bytes = front.2.n;
          broken = inr front.2.less;
          fault = cut_front started sink (text_of (in_spans (take front.0 lines))) front.2;
        }
    by_cut (inr (left, parted)) =
        let lines = opening_lines s.store ++ (run.before ++ turn_lines (turn_of s.problem s.chooser.rule s.course.budget run.last).0 run.store) in
        let front = spans_cut_off name started sink kept refused lines at (named lines parted) in
        record {
          lines = lines;
          begun = record { first = s.store; opened = store_at s words ready; stores = run.stores; last = run.last; before = run.before; turns = run.turns; store = run.store; lines_are = inr (left, refl) };
          count = front.0;
          within = front.1;
          bytes = front.2.n;
          broken = inr front.2.less;
          fault = cut_front started sink (text_of (in_spans (take front.0 lines))) front.2;
        }

-- a journal that was cut off writes into the sink that it was begun over
pub cut_name : (s : SearchView) (words : Stream) (name : GName) (started : SinkView) (other : GName) (journal : JournalView) → name_in name journal.target ≡ other
    → IsRunCutOff s.problem s.chooser.rule s.course.budget (state_at s.store s.course 0 words) s.store (new_journal name started) journal → other ≡ name
cut_name s words name started other journal is run = by_cut run.cut_off
  where
    by_cut : IsCutOff (new_journal name started) journal (opening_lines s.store ++ run.before)
        ⊎ (IsStoreAt s.problem (turn_of s.problem s.chooser.rule s.course.budget run.last).1 run.store
        × IsCutOff (new_journal name started) journal (opening_lines s.store ++ (run.before ++ turn_lines (turn_of s.problem s.chooser.rule s.course.budget run.last).0 run.store)))
        → other ≡ name
    by_cut (inl parted) = sym is ∙ ap (name_in name) parted.target
    by_cut (inr (left, parted)) = sym is ∙ ap (name_in name) parted.target

-- what a run answered, where the journal's sink is at last what it wrote into
pub lines_answered : (s : SearchView) (words : Stream) (name other : GName) (started sink last : SinkView) (refused : Option Line) (old : JournalView) (result : Result Outcome JournalFault) → IsReady s → IsAt One sink.told (refused_lines refused)
    → (name ≡ other → last ≡ sink) → old ≡ new_journal name started → IfOk result (λ o. IsRunTold s words o old (journal_of other sink refused)) → IfOk result (λ o. PutsFrom One s words o started last)
lines_answered s words name other started sink last refused old (Ok o) ready at ends is told =
    let of = subst (λ (j : JournalView). IsRunTold s words o j (journal_of other sink refused)) is told in
    let same : other ≡ name = ap (λ (j : JournalView). name_in name j.target) of.2 in
    subst (λ (n : SinkView). PutsFrom One s words o started n) (sym (ends (sym same))) (lines_put s words o name other started sink refused ready at of)
lines_answered s words name other started sink last refused old (Err fault) ready at ends is told = tt

pub spans_answered : (s : SearchView) (words : Stream) (name other : GName) (started sink last : SinkView) (kept refused : Option Line) (old : JournalView) (result : Result Outcome JournalFault) → IsReady s → IsSpanning sink kept refused
    → (name ≡ other → last ≡ sink) → old ≡ new_journal name started → IfOk result (λ o. IsRunTold s words o old (spans_of other sink kept refused)) → IfOk result (λ o. PutsFrom Two s words o started last)
spans_answered s words name other started sink last kept refused old (Ok o) ready at ends is told =
    let of = subst (λ (j : JournalView). IsRunTold s words o j (spans_of other sink kept refused)) is told in
    let same : other ≡ name = ap (λ (j : JournalView). name_in name j.target) of.2 in
    subst (λ (n : SinkView). PutsFrom Two s words o started n) (sym (ends (sym same))) (spans_put s words o name other started sink kept refused ready at of)
spans_answered s words name other started sink last kept refused old (Err fault) ready at ends is told = tt

pub lines_failed : (s : SearchView) (words : Stream) (name other : GName) (started sink last : SinkView) (refused : Option Line) (old : JournalView) (result : Result Outcome JournalFault) → IsReady s → IsAt One sink.told (refused_lines refused)
    → (name ≡ other → last ≡ sink) → old ≡ new_journal name started → RunFails result s words old (journal_of other sink refused) → OnErr result (CutsFrom One s words started last)
lines_failed s words name other started sink last refused old (Ok o) ready at ends is failed = tt
lines_failed s words name other started sink last refused old (Err fault) ready at ends is failed =
    let run = subst (λ (j : JournalView). IsRunCutOff s.problem s.chooser.rule s.course.budget (state_at s.store s.course 0 words) s.store j (journal_of other sink refused)) is failed in
    let same : other ≡ name = cut_name s words name started other (journal_of other sink refused) refl run in
    subst (λ (n : SinkView). CutsFrom One s words started n) (sym (ends (sym same))) (lines_cut s words name other started sink refused ready at run)

pub spans_failed : (s : SearchView) (words : Stream) (name other : GName) (started sink last : SinkView) (kept refused : Option Line) (old : JournalView) (result : Result Outcome JournalFault) → IsReady s → IsSpanning sink kept refused
    → (name ≡ other → last ≡ sink) → old ≡ new_journal name started → RunFails result s words old (spans_of other sink kept refused) → OnErr result (CutsFrom Two s words started last)
spans_failed s words name other started sink last kept refused old (Ok o) ready at ends is failed = tt
spans_failed s words name other started sink last kept refused old (Err fault) ready at ends is failed =
    let run = subst (λ (j : JournalView). IsRunCutOff s.problem s.chooser.rule s.course.budget (state_at s.store s.course 0 words) s.store j (spans_of other sink kept refused)) is failed in
    let same : other ≡ name = cut_name s words name started other (spans_of other sink kept refused) refl run in
    subst (λ (n : SinkView). CutsFrom Two s words started n) (sym (ends (sym same))) (spans_cut s words name other started sink kept refused ready at run)
