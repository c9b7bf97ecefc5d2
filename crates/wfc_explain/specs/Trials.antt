-- Which lines stay where they are left out in turn.
use Rattle.std.specs.Prelude.{ℕ, zero, suc, Bool, true, false, List, [], ◌∷◌, ◌++◌, Option, None, Some, replicate, slice_set}
use Rattle.rand_core.specs.Stream.{Stream}
use Rattle.wfc_choose.specs.Pick.{Rule}
use Rattle.wfc_search.specs.declared.Outcome.{Outcome}
use Rattle.wfc_search.specs.declared.Outcome.TheVariants as outcome
use Rattle.wfc_explain.specs.Outcomes.{outcome_with}
use Rattle.wfc_explain.specs.Pinned.{PinnedView}
use Rattle.wfc_explain.specs.declared.explained.Explained.{Explained}
use Rattle.wfc_explain.specs.declared.explained.Explained.TheVariants.{Core, MapExists, Spent}
use Rattle.wfc_explain.specs.declared.explained.Kept.{Kept}
use Rattle.wfc_explain.specs.declared.explained.Mark.{Mark}
use Rattle.wfc_explain.specs.declared.explained.Mark.TheVariants.{Needed, Undecided}

-- which lines are still kept, and those that were looked at and stay
pub record TrialView : Type 0 where
  pub keep : List Bool
  pub core : List Kept

-- all lines are kept
abbrev pub all_lines : ℕ → List Bool
all_lines lines = replicate lines true

-- the lines kept, without one of them
abbrev pub lines_without : List Bool → ℕ → List Bool
lines_without keep line = slice_set keep line false

-- how a line stays, by the outcome of the run without it: it doesn't, where there is no map
abbrev pub outcome_mark : Outcome → Option Mark
outcome_mark outcome.Map = Some Needed
outcome_mark outcome.NoMap = None
outcome_mark outcome.Spent = Some Undecided

-- a line is dropped, or stays with a mark
abbrev pub trial_with : TrialView → ℕ → Option Mark → TrialView
trial_with s line None = record { keep = lines_without s.keep line; core = s.core }
trial_with s line (Some mark) = record {
  keep = slice_set s.keep line true;
  core = s.core ++ record { index = line; mark = mark } ∷ [];
}

-- a line is looked at: the run is that of the lines kept, without it
abbrev pub next_trial : (List Bool → Outcome) → TrialView → ℕ → TrialView
next_trial run s line = trial_with s line (outcome_mark (run (lines_without s.keep line)))

-- the first lines were looked at, in their order, from all lines on
abbrev pub trial_after : (List Bool → Outcome) → ℕ → ℕ → TrialView
trial_after run lines zero = record { keep = all_lines lines; core = [] }
trial_after run lines (suc line) = next_trial run (trial_after run lines line) line

-- the lines that stay once all were looked at
unfoldable pub core_of : PinnedView → Rule → ℕ → Stream → List Kept
core_of v rule budget words = (trial_after (outcome_with v rule budget words) v.lines v.lines).core

-- what an outcome of the run of all lines says, where this is their core
abbrev pub explanation_by : Outcome → List Kept → Explained
explanation_by outcome.Map core = MapExists
explanation_by outcome.NoMap core = Core core
explanation_by outcome.Spent core = Spent

-- which lines are to blame, or why none is
abbrev pub explanation_of : PinnedView → Rule → ℕ → Stream → Explained
explanation_of v rule budget words =
    explanation_by (outcome_with v rule budget words (all_lines v.lines))
    (core_of v rule budget words)
