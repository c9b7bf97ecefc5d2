-- What a checker is seen as, and what it answers.
use Rattle.std.specs.Prelude.{◌≡◌, ℕ, List, [], ◌∷◌, ◌++◌, Result, Ok, Err}
use Rattle.wfc_problem.specs.Assignment.{IsLegalAssignment}
use Rattle.wfc_problem.specs.Network.{Network, IsProblem, in_base}
use Rattle.wfc_proof.specs.Checker.{Point, line_steps}
use Rattle.wfc_proof.specs.Checker.Point.{going, closed, ended}
use Rattle.wfc_proof.specs.Lines.{SpellsNodes}
use Rattle.wfc_proof.specs.Proof.{Proof, Closes, nodes}
use Rattle.wfc_proof.specs.declared.Line.{Line}
use Rattle.wfc_proof.specs.declared.Line.TheVariants.{End}
use Rattle.wfc_proof.specs.declared.Reject.{Reject}
use Rattle.wfc_check.specs.Entries.{TrailView, standing, waits_of}
use Rattle.wfc_check.specs.declared.progress.Progress.{Progress}
use Rattle.wfc_check.specs.declared.progress.Progress.TheVariants.{Going, Closed, Ended}

-- a checker: what it remembers, and how far the proof has come
pub record CheckerView : Type 0 where
  pub trail : TrailView
  pub progress : Progress

-- where a trail stands, as far as the proof has come
abbrev pub point_at : Progress → TrailView → Point
point_at Going t = going (standing t) (waits_of t)
point_at Closed t = closed
point_at Ended t = ended

-- where the lines that a checker accepted lead
abbrev pub point_of : CheckerView → Point
point_of checker = point_at checker.progress checker.trail

-- the problem of a checker
abbrev pub checker_problem : CheckerView → Network
checker_problem checker = checker.trail.problem

-- the checker is at the base domains of the problem, and no branch waits
pub record IsAtBase (P : Network) (checker : CheckerView) : Type 0 where
  pub problem : checker_problem checker ≡ P
  pub point : point_of checker ≡ going (in_base P) []

-- how far the proof has come at a point
abbrev pub progress_of : Point → Progress
progress_of (going D waiting) = Going
progress_of closed = Closed
progress_of ended = Ended

-- the answer to a line
abbrev pub line_answer : Result Point Reject → Result Progress Reject
line_answer (Ok point) = Ok (progress_of point)
line_answer (Err reject) = Err reject

-- where a line leads: nowhere else if it is refused
abbrev pub led_to : Point → Result Point Reject → Point
led_to old (Ok point) = point
led_to old (Err reject) = old

-- a trail did what is defined: it stands at the point, or it refused and is as before
abbrev pub IsTaken : Result Point Reject → TrailView → TrailView → Result Progress Reject → Type 0
IsTaken (Ok point) old new (Ok progress) = (new.problem ≡ old.problem) × (point_at progress new ≡ point)
IsTaken (Ok point) old new (Err r) = ⊥
IsTaken (Err reject) old new (Ok progress) = ⊥
IsTaken (Err reject) old new (Err r) = (r ≡ reject) × (new ≡ old)

-- some lines lead from the base domains to the point
pub record IsReached (P : Network) (point : Point) : Type 0 where
  pub problem : IsProblem P
  pub lines : List Line
  pub lead : line_steps P (going (in_base P) []) lines ≡ Ok point

-- the lines are accepted from the base domains on, and the last of them ends the proof
abbrev pub AreEnded : Network → List Line → Type 0
AreEnded P lines = line_steps P (going (in_base P) []) lines ≡ Ok ended

-- the lines spell the nodes of a proof that closes the base domains, with its end behind them
pub record SpellClosing (P : Network) (lines : List Line) : Type 0 where
  pub before : List Line
  pub last : lines ≡ before ++ End ∷ []
  pub proof : Proof
  pub closes : Closes P (in_base P) proof
  pub spells : SpellsNodes before (nodes proof)

-- there is no legal assignment
abbrev pub HasNone : Network → Type 0
HasNone P = (a : List ℕ) → IsLegalAssignment P a → ⊥
