-- The lines of removals, one removal after another.
use Rattle.std.proofs.Common.{◌≡◌, ◌+◌, ◌<◌, ℕ, List, [], ◌∷◌, ◌++◌, length, take, drop, get_or, sym, ◌∙◌, ap, subst, append-nil}
use Rattle.std.specs.Prelude.{Result, Ok, Err, OnErr}
use Rattle.std.proofs.lemmas.List.{take_more, take-append-drop}
use Rattle.std.proofs.lemmas.List.Concat.{flat_map-append}
use Rattle.wfc_log.specs.Log.{loss_of}
use Rattle.wfc_log.specs.declared.Loss.{Loss}
use Rattle.wfc_log.specs.declared.Removal.{Removal}
use Rattle.wfc_proof.specs.Journal.{JournalView, after_lines, IsCutOff}
use Rattle.wfc_proof.specs.declared.Line.{Line}
use Rattle.wfc_proof.proofs.CallerLemmas.{after_more_lines, cut_off_front, cut_off_behind}
use Rattle.wfc_search.specs.Telling.{lines_by, removal_lines}
use Rattle.wfc_search.proofs.Removals.{no_removal}

-- the lines of a removal
abbrev pub lines_of_removal : Removal → List Line
lines_of_removal r = lines_by r.cell r.value r.cause

-- one removal more
pub removal_lines_more : (rs : List Removal) (i : ℕ) (d : Removal) → i < length rs → removal_lines (take (i + 1) rs) ≡ removal_lines (take i rs) ++ lines_of_removal (get_or rs i d)
removal_lines_more rs i d inside =
    ap removal_lines (take_more rs i d inside)
    ∙ flat_map-append lines_of_removal (take i rs) (get_or rs i d ∷ [])
    ∙ ap (λ (xs : List Line). removal_lines (take i rs) ++ xs) (append-nil (lines_of_removal (get_or rs i d)))

-- the lines of the first removals come first
pub removal_lines_front : (rs : List Removal) (i : ℕ) → removal_lines (take i rs) ++ removal_lines (drop i rs) ≡ removal_lines rs
removal_lines_front rs i = sym (flat_map-append lines_of_removal (take i rs) (drop i rs)) ∙ ap removal_lines (take-append-drop i rs)

-- the lines of what a removal took away
abbrev pub lines_of_loss : Loss → List Line
lines_of_loss loss = lines_by loss.cell loss.value loss.cause

-- one removal more, by what it took away
pub removal_lines_loss : (rs : List Removal) (i : ℕ) (loss : Loss) → i < length rs → loss ≡ loss_of (get_or rs i no_removal)
    → removal_lines (take i rs) ++ lines_of_loss loss ≡ removal_lines (take (i + 1) rs)
removal_lines_loss rs i loss inside is =
    ap (λ (l : Loss). removal_lines (take i rs) ++ lines_of_loss l) is ∙ sym (removal_lines_more rs i no_removal inside)

-- a journal that was told of the removals before this one, and then of this one
pub told_loss : (rs : List Removal) (i : ℕ) (loss : Loss) (old mid new : JournalView) → i < length rs → loss ≡ loss_of (get_or rs i no_removal)
    → mid ≡ after_lines old (removal_lines (take i rs)) → new ≡ after_lines mid (lines_of_loss loss) → new ≡ after_lines old (removal_lines (take (i + 1) rs))
told_loss rs i loss old mid new inside is before told =
    told
    ∙ ap (λ (j : JournalView). after_lines j (lines_of_loss loss)) before
    ∙ after_more_lines old (removal_lines (take i rs)) (lines_of_loss loss)
    ∙ ap (after_lines old) (removal_lines_loss rs i loss inside is)

-- one that was told of the removals before this one, and then failed
pub cut_off_loss : (rs : List Removal) (i : ℕ) (loss : Loss) (old mid new : JournalView) → i < length rs → loss ≡ loss_of (get_or rs i no_removal)
    → mid ≡ after_lines old (removal_lines (take i rs)) → IsCutOff mid new (lines_of_loss loss) → IsCutOff old new (removal_lines rs)
cut_off_loss rs i loss old mid new inside is before cut =
    let Q : List Line → Type 0 = λ lines. IsCutOff old new lines in
    let here = cut_off_behind old mid new (removal_lines (take i rs)) (lines_of_loss loss) before cut in
    let front = subst Q (removal_lines_loss rs i loss inside is) here in
    subst Q (removal_lines_front rs (i + 1)) (cut_off_front old new _ (removal_lines (drop (i + 1) rs)) front)

-- what holds in any case holds after an error
pub on_err_of : {T E P : Type 0} (r : Result T E) → P → OnErr r P
on_err_of (Ok x) p = tt
on_err_of (Err e) p = p
