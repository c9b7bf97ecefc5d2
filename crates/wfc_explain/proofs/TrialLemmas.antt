-- Lines looked at in turn.
use Rattle.std.proofs.Common.{◌≡◌, ℕ, ◌+◌, Bool, true, false, List, [], ◌∷◌, ◌++◌, length, map, get_or, subst, sym, ap, ◌∙◌, arith, Option, None, Some, Result, Ok, Err, add-one}
use Rattle.std.specs.Prelude.{OnOk}
use Rattle.std.proofs.lemmas.List.{length-append, length-set, map-append, get_or_append_left, set-set}
use Rattle.std.proofs.Math.Seq.{get_or-append_seam}
use Rattle.rand_core.specs.Stream.{Stream}
use Rattle.wfc_outside.specs.declared.NoMemory.{NoMemory}
use Rattle.wfc_choose.specs.Pick.{Rule}
use Rattle.wfc_search.specs.declared.Outcome.{Outcome}
use Rattle.wfc_runs.specs.Alike.{HaveRule, PicksAs}
use Rattle.wfc_explain.specs.Outcomes.{outcome_at, outcome_with}
use Rattle.wfc_explain.specs.Pinned.{PinnedView}
use Rattle.wfc_explain.specs.Trials.{TrialView, all_lines, trial_with, outcome_mark, trial_after, next_trial, lines_without}
use Rattle.wfc_runs.proofs.CallerLemmas.{runs_alike}
use Rattle.wfc_explain.specs.declared.explained.Mark.{Mark}

-- the outcome of the lines that are kept goes by the picks of the rule alone
pub outcome_alike : (v : PinnedView) (r rule : Rule) (budget : ℕ) (words : Stream) (keep : List Bool) → PicksAs r rule → outcome_with v r budget words keep ≡ outcome_with v rule budget words keep
outcome_alike v r rule budget words keep alike = ap outcome_at (runs_alike r rule alike (v.problem_of keep) budget words)

-- a line that was left out before is decided as it would be
redecided : (s : TrialView) (line : ℕ) (mark : Option Mark) → trial_with (record { keep = lines_without s.keep line; core = s.core }) line mark ≡ trial_with s line mark
redecided s line None = ap (λ (keep : List Bool). record { keep = keep; core = s.core }) (set-set s.keep line false false)
redecided s line (Some mark) = ap (λ (keep : List Bool). record { keep = keep; core = (trial_with s line (Some mark)).core }) (set-set s.keep line false true)

-- a line is left out, and decided by the outcome of the run of what is kept then
pub tried_by : (run : List Bool → Outcome) (s left next : TrialView) (line : ℕ) (o : Outcome) (r : Result (Unit {0}) NoMemory)
    → left ≡ record { keep = lines_without s.keep line; core = s.core } → o ≡ run left.keep → OnOk r (next ≡ trial_with left line (outcome_mark o))
    → OnOk r (next ≡ next_trial run s line)
tried_by run s left next line o (Err fault) is said next_is = tt
tried_by run s left next line o (Ok u) is said next_is =
    next_is ∙ ap (λ (t : TrialView). trial_with t line (outcome_mark o)) is
    ∙ ap (λ (x : Outcome). trial_with (record { keep = lines_without s.keep line; core = s.core }) line (outcome_mark x)) (said ∙ ap (λ (t : TrialView). run t.keep) is)
    ∙ redecided s line (outcome_mark (run (lines_without s.keep line)))

-- one entry stands for each line
pub decided_long : (s : TrialView) (line : ℕ) (mark : Option Mark) → length (trial_with s line mark).keep ≡ length s.keep
decided_long s line None = length-set s.keep line false
decided_long s line (Some mark) = length-set s.keep line true

-- one line more is looked at
pub tried_more : (run : List Bool → Outcome) (lines n : ℕ) → trial_after run lines (n + 1) ≡ next_trial run (trial_after run lines n) n
tried_more run lines n = ap (trial_after run lines) (add-one n)

-- ---- choosers of one rule

-- of a list of choosers of one rule the last has it, and the others do
pub rule_last : {X : Type 0} (f : X → Rule) (all xs : List X) (x : X) → all ≡ xs ++ x ∷ [] → (rule : Rule) → HaveRule (map f all) rule → PicksAs (f x) rule × HaveRule (map f xs) rule
rule_last f all xs x is rule have =
    let parts : map f all ≡ map f xs ++ f x ∷ [] = ap (map f) is ∙ map-append f xs (x ∷ []) in
    let long : length (map f all) ≡ length (map f xs) + 1 = ap length parts ∙ length-append (map f xs) (f x ∷ []) in (
      subst (λ (r : Rule). PicksAs r rule) (ap (λ (rs : List Rule). get_or rs (length (map f xs)) rule) parts ∙ get_or-append_seam (map f xs) (f x) [] rule)
          (have (length (map f xs)) rule (omega (arith, long))),
      λ k d h. subst (λ (r : Rule). PicksAs r rule) (ap (λ (rs : List Rule). get_or rs k d) parts ∙ get_or_append_left (map f xs) (f x ∷ []) d k h)
          (have k d (omega (arith, long, h))),
    )

-- one chooser less
pub one_less : {X : Type 0} (all xs : List X) (x : X) → all ≡ xs ++ x ∷ [] → length all ≡ length xs + 1
one_less all xs x is = ap length is ∙ length-append xs (x ∷ [])

-- the outcome of the first run, by the rule of all choosers
pub first_outcome : {X : Type 0} (f : X → Rule) (all xs : List X) (x : X) → all ≡ xs ++ x ∷ [] → (v : PinnedView) (budget : ℕ) (words : Stream) (keep : List Bool) (o : Outcome)
    → keep ≡ all_lines v.lines → o ≡ outcome_with v (f x) budget words keep → (rule : Rule) → HaveRule (map f all) rule → o ≡ outcome_with v rule budget words (all_lines v.lines)
first_outcome f all xs x is v budget words keep o keep_is said rule have =
    said ∙ outcome_alike v (f x) rule budget words keep (rule_last f all xs x is rule have).0 ∙ ap (outcome_with v rule budget words) keep_is

-- a line more is looked at, by the rule of all choosers
pub next_tried : {X : Type 0} (f : X → Rule) (all xs : List X) (x : X) → all ≡ xs ++ x ∷ [] → (v : PinnedView) (budget : ℕ) (words : Stream) (lines line : ℕ) (s next : TrialView)
    → next ≡ next_trial (outcome_with v (f x) budget words) s line → (rule : Rule) → HaveRule (map f all) rule → s ≡ trial_after (outcome_with v rule budget words) lines line
    → HaveRule (map f xs) rule × (next ≡ trial_after (outcome_with v rule budget words) lines (line + 1))
next_tried f all xs x is v budget words lines line s next next_is rule have before =
    let last = rule_last f all xs x is rule have in (
      last.1,
      next_is ∙ ap (λ (o : Outcome). trial_with s line (outcome_mark o)) (outcome_alike v (f x) rule budget words (lines_without s.keep line) last.0)
          ∙ ap (λ (t : TrialView). next_trial (outcome_with v rule budget words) t line) before ∙ sym (tried_more (outcome_with v rule budget words) lines line),
    )
