-- Lines that a checker took one after another, and what they prove.
use Rattle.std.proofs.Common.{◌≡◌, ℕ, ◌+◌, Bool, List, [], ◌∷◌, drop, refl, sym, ◌∙◌, ap}
use Rattle.std.specs.Prelude.{Result, Ok, Err, ◌↔◌, IsTrue, IfOk}
use Rattle.wfc_problem.specs.Network.{Network, IsProblem, in_base}
use Rattle.wfc_proof.specs.Checker.{Point, and_on, line_step, line_steps}
use Rattle.wfc_proof.specs.Checker.Point.{going, closed, ended}
use Rattle.wfc_proof.specs.declared.Line.{Line}
use Rattle.wfc_proof.specs.declared.Reject.{Reject}
use Rattle.wfc_proof.proofs.Told.{lines_ended}
use Rattle.wfc_proof.proofs.Sound.{closed_none}
use Rattle.wfc_check.specs.Checker.{CheckerView, point_of, checker_problem, progress_of, line_answer, led_to, IsAtBase, AreEnded, SpellClosing, HasNone}
use Rattle.wfc_check.specs.declared.progress.Progress.{Progress}
use Rattle.wfc_check.specs.declared.progress.Progress.TheVariants.{Going, Ended}

-- a checker that took some of the lines: those that are left lead from its point where all lead from the base
pub record IsFollowing (P : Network) (checker : CheckerView) (progress : Progress) (lines : List Line) (index : ℕ) : Type 0 where
  pub problem : checker_problem checker ≡ P
  pub progress_is : progress ≡ progress_of (point_of checker)
  pub ahead : line_steps P (going (in_base P) []) lines ≡ line_steps P (point_of checker) (drop index lines)

pub follows_first : (P : Network) (checker : CheckerView) (lines : List Line) → IsAtBase P checker → IsFollowing P checker Going lines 0
follows_first P checker lines h = record {
  problem = h.problem;
  progress_is = sym (ap progress_of h.point);
  ahead = ap (λ q. line_steps P q lines) (sym h.point);
}

-- what an answer says of the definition's result
told_ok : (s : Result Point Reject) (progress : Progress) (q : Point) → Ok progress ≡ line_answer s → (s ≡ Ok (led_to q s)) × (progress ≡ progress_of (led_to q s))
told_ok (Ok point) progress q e = (refl, let p : progress ≡ progress_of point = cc in p)
told_ok (Err r) progress q e = cc

told_err : (s : Result Point Reject) (r : Reject) → Err r ≡ line_answer s → s ≡ Err r
told_err (Ok point) r e = cc
told_err (Err x) r e = let same : x ≡ r = cc in ap (λ y. Err y) same

pub follows_next : (P : Network) (old new : CheckerView) (progress next : Progress) (lines : List Line) (index : ℕ) (line : Line) → IsFollowing P old progress lines index
    → drop index lines ≡ line ∷ drop (index + 1) lines → checker_problem new ≡ checker_problem old
    → Ok next ≡ line_answer (line_step (checker_problem old) (point_of old) line) → point_of new ≡ led_to (point_of old) (line_step (checker_problem old) (point_of old) line)
    → IsFollowing P new next lines (index + 1)
follows_next P old new progress next lines index line h at same answer led =
    let t = told_ok (line_step (checker_problem old) (point_of old) line) next (point_of old) answer in
    record {
      problem = same ∙ h.problem;
      progress_is = t.1 ∙ sym (ap progress_of led);
      ahead = h.ahead ∙ ap (line_steps P (point_of old)) at
          ∙ ap (λ (Q : Network). and_on (line_step Q (point_of old) line) (λ m. line_steps P m (drop (index + 1) lines))) (sym h.problem)
          ∙ ap (λ (s : Result Point Reject). and_on s (λ m. line_steps P m (drop (index + 1) lines))) (t.0 ∙ ap (λ (q : Point). Ok q) (sym led));
    }

-- a refused line ends it
pub refused_none : (P : Network) (old : CheckerView) (progress : Progress) (lines : List Line) (index : ℕ) (line : Line) (r : Reject) → IsFollowing P old progress lines index
    → drop index lines ≡ line ∷ drop (index + 1) lines → Err r ≡ line_answer (line_step (checker_problem old) (point_of old) line) → AreEnded P lines → ⊥
refused_none P old progress lines index line r h at answer all =
    let e = told_err (line_step (checker_problem old) (point_of old) line) r answer in
    let none : line_steps P (going (in_base P) []) lines ≡ Err r =
    h.ahead ∙ ap (line_steps P (point_of old)) at
    ∙ ap (λ (Q : Network). and_on (line_step Q (point_of old) line) (λ m. line_steps P m (drop (index + 1) lines))) (sym h.problem)
    ∙ ap (λ (s : Result Point Reject). and_on s (λ m. line_steps P m (drop (index + 1) lines))) e in
    cc

-- the end is where the proof ended
ended_point : (q : Point) → progress_of q ≡ Ended → q ≡ ended
ended_point (going D waiting) e = cc
ended_point closed e = cc
ended_point ended e = refl

pub follows_all : (P : Network) (checker : CheckerView) (progress : Progress) (lines : List Line) (index : ℕ) → IsFollowing P checker progress lines index
    → drop index lines ≡ [] → (progress ≡ Ended) ↔ AreEnded P lines
follows_all P checker progress lines index h over =
    let all = h.ahead ∙ ap (line_steps P (point_of checker)) over in (
      (λ e. all ∙ ap (λ (q : Point). Ok q) (ended_point (point_of checker) (sym h.progress_is ∙ e))),
      (λ a. let same : point_of checker ≡ ended = (let b = sym all ∙ a in cc) in h.progress_is ∙ ap progress_of same),
    )

-- what the lines spell
pub ended_spells : (P : Network) → IsProblem P → (lines : List Line) → AreEnded P lines ↔ SpellClosing P lines
ended_spells P p lines =
    let both = lines_ended P p (in_base P) (λ c v t. t) lines in (
      (λ a. let r = both.0 a in record { before = r.0; last = r.1; proof = r.2; closes = r.3; spells = r.4 }),
      (λ s. both.1 (s.before, s.last, s.proof, s.closes, s.spells)),
    )

pub spelled_none : (P : Network) → IsProblem P → (lines : List Line) → SpellClosing P lines → HasNone P
spelled_none P p lines s = closed_none P p s.proof s.closes

-- ---- answers

pub answer_spelled : {E : Type 0} → (P : Network) → IsProblem P → (lines : List Line) (r : Result Bool E) → IfOk r (λ yes. IsTrue yes ↔ AreEnded P lines)
    → IfOk r (λ yes. IsTrue yes ↔ SpellClosing P lines)
answer_spelled P p lines (Ok b) h = let both = ended_spells P p lines in ((λ t. both.0 (h.0 t)), (λ s. h.1 (both.1 s)))
answer_spelled P p lines (Err e) h = h

pub answer_sound : {E : Type 0} → (P : Network) → IsProblem P → (lines : List Line) (r : Result Bool E) → IfOk r (λ yes. IsTrue yes ↔ AreEnded P lines)
    → IfOk r (λ yes. IsTrue yes → HasNone P)
answer_sound P p lines (Ok b) h = λ t. spelled_none P p lines ((ended_spells P p lines).0 (h.0 t))
answer_sound P p lines (Err e) h = h
