-- What an explanation says of the maps.
use Rattle.std.specs.Prelude.{◌≡◌, ℕ, ◌<◌, ◌==◌, Bool, List, All, Contains, length, map}
use Rattle.std.specs.List.{list_any, range_with_len}
use Rattle.std.specs.List.Sorted.{IsStrictlyIncreasing}
use Rattle.wfc_problem.specs.Assignment.{IsLegalAssignment}
use Rattle.wfc_problem.specs.Network.{Network}
use Rattle.wfc_explain.specs.Trials.{all_lines, lines_without}
use Rattle.wfc_explain.specs.Pinned.{IsFewer, PinnedView}
use Rattle.wfc_explain.specs.declared.explained.Explained.{Explained}
use Rattle.wfc_explain.specs.declared.explained.Explained.TheVariants.{Core, MapExists, Spent}
use Rattle.wfc_explain.specs.declared.explained.Kept.{Kept}
use Rattle.wfc_explain.specs.declared.explained.Mark.TheVariants.{Needed}

-- a problem has a legal assignment
abbrev pub HasMap : Network → Type 0
HasMap P = (a : List ℕ) × IsLegalAssignment P a

-- whether a core has a line
abbrev pub has_line : List Kept → ℕ → Bool
has_line core line = list_any (λ (kept : Kept). kept.index == line) core

-- the lines of a core alone, of so many lines
abbrev pub core_lines : ℕ → List Kept → List Bool
core_lines lines core = map (has_line core) (range_with_len 0 lines)

-- the lines of a core rise, admit no map by themselves, and without one that is needed the others
-- admit one
pub record IsTrueCore (v : PinnedView) (core : List Kept) : Type 0 where
  pub rises : IsStrictlyIncreasing (map (λ (kept : Kept). kept.index) core)
  pub inside : All (λ (kept : Kept). kept.index < v.lines) core
  pub none : HasMap (v.problem_of (core_lines v.lines core)) → ⊥
  pub needed : (kept : Kept) → Contains core kept → kept.mark ≡ Needed
      → HasMap (v.problem_of (lines_without (core_lines v.lines core) kept.index))

-- what an explanation says is true: of a core, and that a map exists
abbrev pub IsTrueExplained : PinnedView → Explained → Type 0
IsTrueExplained v (Core core) = IsTrueCore v core
IsTrueExplained v MapExists = HasMap (v.problem_of (all_lines v.lines))
IsTrueExplained v Spent = Unit {0}

-- where more of its lines have a map, fewer have it too
abbrev pub KeepsMaps : PinnedView → Type 0
KeepsMaps v =
    (fewer more : List Bool) → length fewer ≡ v.lines → length more ≡ v.lines → IsFewer fewer more
    → HasMap (v.problem_of more) → HasMap (v.problem_of fewer)
