-- Levels after a literal is put on or taken away.
use Rattle.std.specs.Prelude.{ℕ, ◌+◌, ◌-◌, ◌++◌, ◌∷◌, [], length}
use Rattle.wfc_problem.specs.declared.Literal.{Literal}
use Rattle.wfc_domains.specs.Heights.{Heights}
use Rattle.wfc_domains.specs.Store.{all_but_last}

-- the levels with one literal more, put on when there were so many removals
abbrev pub with_level : Heights → Literal → ℕ → Heights
with_level h literal mark = record {
  standing = h.standing ++ literal ∷ [];
  marks = h.marks ++ mark ∷ [];
  spare = h.spare - 1;
}

-- the levels without the last literal
abbrev pub without_level : Heights → Heights
without_level h = record {
  standing = all_but_last h.standing;
  marks = all_but_last h.marks;
  spare = h.spare + 1;
}

-- the levels without a literal
abbrev pub without_levels : Heights → Heights
without_levels h = record { standing = []; marks = []; spare = h.spare + length h.standing }
