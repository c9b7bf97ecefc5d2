-- What a checker remembers: the values that were taken away and the branches that wait, in the
-- order in which they came.
use Rattle.std.specs.Prelude.{◌≡◌, ℕ, IsTrue, Bool, true, ◌&&◌, List, [], ◌∷◌, ◌++◌, if◌then◌else◌}
use Rattle.wfc_problem.specs.Domains.{Test, with_literal}
use Rattle.wfc_problem.specs.Network.{Network, in_base}
use Rattle.wfc_problem.specs.declared.Literal.TheVariants.{Is, Not}
use Rattle.wfc_check.specs.declared.trail.Entry.{Entry}

-- the domains behind an entry: without its value, unless a branch waits there
abbrev pub behind_entry : Test → Entry → Test
behind_entry D e = if e.waits then D else with_literal D (Not e.value e.cell)

-- the domains behind all entries
abbrev pub domains_left : Test → List Entry → Test
domains_left D [] = D
domains_left D (e ∷ es) = domains_left (behind_entry D e) es

-- the branches that wait, with those before the entries behind them: an entry's branch is without its value
abbrev pub put_off : Test → List Test → Entry → List Test
put_off D waits e = if e.waits then with_literal D (Not e.value e.cell) ∷ waits else waits

-- the branches that wait behind all entries, the innermost first
abbrev pub waiting_branches : Test → List Test → List Entry → List Test
waiting_branches D waits [] = waits
waiting_branches D waits (e ∷ es) = waiting_branches (behind_entry D e) (put_off D waits e) es

-- the value of each entry stood when it came
abbrev pub are_stood : Test → List Entry → Bool
are_stood D [] = true
are_stood D (e ∷ es) = D e.cell e.value && are_stood (behind_entry D e) es

-- a trail: its problem, and its entries
pub record TrailView : Type 0 where
  pub problem : Network
  pub entries : List Entry

-- the values that stand
abbrev pub standing : TrailView → Test
standing t = domains_left (in_base t.problem) t.entries

-- the branches that wait, the innermost first
abbrev pub waits_of : TrailView → List Test
waits_of t = waiting_branches (in_base t.problem) [] t.entries

-- one more entry
abbrev pub with_more : TrailView → Entry → TrailView
with_more t e = record t { entries = t.entries ++ e ∷ [] }

-- the branch of this entry waited innermost, and the trail is as it was where the branch was put off
pub record Resumes (old new : TrailView) (entry : Entry) : Type 0 where
  pub stands : IsTrue (standing new entry.cell entry.value)
  pub waited : waits_of old ≡ with_literal (standing new) (Not entry.value entry.cell) ∷ waits_of new

-- the branch with the value came first, and that without it waits
pub record Branches (old new : TrailView) (cell value : ℕ) : Type 0 where
  pub problem : new.problem ≡ old.problem
  pub first : standing new ≡ with_literal (standing old) (Is value cell)
  pub second : waits_of new ≡ with_literal (standing old) (Not value cell) ∷ waits_of old
