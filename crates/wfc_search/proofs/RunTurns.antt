-- One turn in the middle of a run, and the last one.
use Rattle.std.proofs.Common.{◌≡◌, ◌≢◌, ℕ, ◌<◌, ◌≤◌, ◌++◌, false, refl, ◌∙◌, ap, subst, arith, None}
use Rattle.std.specs.Prelude.{IsTrue}
use Rattle.std.proofs.lemmas.Bool.{false_from_ne_true}
use Rattle.rand_core.specs.Stream.{Stream}
use Rattle.wfc_choose.specs.Pick.{Rule}
use Rattle.wfc_domains.specs.Store.{StoreView}
use Rattle.wfc_problem.specs.Network.{Network, IsProblem}
use Rattle.wfc_proof.specs.Journal.{JournalView, after_lines}
use Rattle.wfc_search.specs.Between.{IsBetween, work_left}
use Rattle.wfc_search.specs.Run.{State, turn_of, end_from, LeadsTo}
use Rattle.wfc_search.specs.Search.{SearchView, state_at, draws_after, outcome_after, IsTurnFrom, HoldsBetween, IsReady, IsTurn, IsEnd, IsGoing}
use Rattle.wfc_search.specs.Telling.{opening_lines, turn_lines, IsCutOffFrom, IsRunCutOff, IsRunTold}
use Rattle.wfc_search.specs.Volume.{volume_of}
use Rattle.wfc_search.specs.declared.Outcome.{Outcome}
use Rattle.wfc_search.specs.declared.Outcome.TheVariants.{Spent}
use Rattle.wfc_search.specs.declared.Turn.{Turn}
use Rattle.wfc_search.specs.declared.Turn.TheVariants.{Chose, Retracted, Ended}
use Rattle.wfc_search.proofs.Runs.{work_falls, from_next, from_ended, spent_volume}
use Rattle.wfc_search.proofs.Searches.{ready_problem}
use Rattle.wfc_search.proofs.Tellings.{Came, came_first, came_next, came_end, came_cut_off}
use Rattle.wfc_search.proofs.Turns.{leads_on}

-- the state that a search is at, after so many draws
abbrev pub at : SearchView → ℕ → Stream → State
at s draws words = state_at s.store s.course draws words

-- the turn from a state, by the problem, the rule and the budget of a search
abbrev pub turn_by : SearchView → State → Turn × State
turn_by first s = turn_of first.problem first.chooser.rule first.course.budget s

-- a search in the midst of a run: it is of the problem, the rule and the budget at first, the end from here is that from
-- there, and the turns up to here were told
pub record IsMidway (first now : SearchView) (words here : Stream) (old mid : JournalView) : Type 0 where
  pub same_problem : now.problem ≡ first.problem
  pub same_rule : now.chooser.rule ≡ first.chooser.rule
  pub same_budget : now.course.budget ≡ first.course.budget
  pub ready : IsReady now
  pub going : IsGoing now.course
  pub unfailed : mid.failed ≡ false
  pub ends : (draws : ℕ) → (more : ℕ) × (end_from first.problem first.chooser.rule first.course.budget (at first draws words) ≡ end_from first.problem first.chooser.rule first.course.budget (at now more here))
  pub came : Came first.problem first.chooser.rule first.course.budget (at first 0 words) first.store now.store now.course here old mid

-- at first it is
pub midway_first : (first : SearchView) (words : Stream) (old : JournalView) → IsReady first → IsGoing first.course → old.failed ≡ false → IsMidway first first words words old old
midway_first first words old ready going unfailed = record {
  same_problem = refl;
  same_rule = refl;
  same_budget = refl;
  ready = ready;
  going = going;
  unfailed = unfailed;
  ends = λ draws. (draws, refl);
  came = came_first first.problem first.chooser.rule first.course.budget first.store first.course words old;
}

-- what holds between turns, of the problem and the budget at first
midway_between : (first now : SearchView) (words here : Stream) (old mid : JournalView) → IsMidway first now words here old mid
    → IsProblem first.problem × IsBetween first.problem first.course.budget now.store.standing now.course.retractions
midway_between first now words here old mid m =
    let ready : HoldsBetween first.problem now.store now.chooser now.course = subst (λ (X : Network). HoldsBetween X now.store now.chooser now.course) m.same_problem m.ready in
    (ready_problem first.problem now.store now.chooser now.course ready, subst (λ (b : ℕ). IsBetween first.problem b now.store.standing now.course.retractions) m.same_budget ready.between)

-- its turn, of the problem and the rule at first
midway_turn : (first now next : SearchView) (words here left : Stream) (old mid : JournalView) (turn : Turn) → IsMidway first now words here old mid → IsTurn now here turn next left
    → IsTurnFrom first.problem first.chooser.rule now.store now.course here turn next.store next.course left
midway_turn first now next words here left old mid turn m is =
    subst (λ (x : Rule). IsTurnFrom first.problem x now.store now.course here turn next.store next.course left) m.same_rule
    (subst (λ (X : Network). IsTurnFrom X now.chooser.rule now.store now.course here turn next.store next.course left) m.same_problem is)

-- and of the budget
midway_made : (first now next : SearchView) (words here left : Stream) (old mid : JournalView) (turn : Turn) → IsMidway first now words here old mid → IsTurn now here turn next left
    → (draws : ℕ) → turn_by first (at now draws here) ≡ (turn, at next (draws_after turn draws) left)
midway_made first now next words here left old mid turn m is draws =
    subst (λ (b : ℕ). turn_of first.problem first.chooser.rule b (at now draws here) ≡ (turn, at next (draws_after turn draws) left)) m.same_budget
    (midway_turn first now next words here left old mid turn m is draws)

-- ---- a turn that is no end

-- it leads on
midway_leads : (first now next : SearchView) (words here left : Stream) (old mid : JournalView) (turn : Turn) → IsMidway first now words here old mid → IsTurn now here turn next left
    → ((outcome : Outcome) → turn ≡ Ended outcome → ⊥) → (draws : ℕ) → LeadsTo (turn_by first (at now draws here)) (at next (draws_after turn draws) left)
midway_leads first now next words here left old mid turn m is goes draws =
    leads_on (turn_by first (at now draws here)) turn (at next (draws_after turn draws) left) (midway_made first now next words here left old mid turn m is draws) goes

-- less work is left
pub midway_falls : (first now next : SearchView) (words here left : Stream) (old mid : JournalView) (turn : Turn) → IsMidway first now words here old mid → IsTurn now here turn next left
    → ((outcome : Outcome) → turn ≡ Ended outcome → ⊥)
    → work_left first.problem first.course.budget next.store.standing next.course.retractions < work_left first.problem first.course.budget now.store.standing now.course.retractions
midway_falls first now next words here left old mid turn m is goes =
    let b = midway_between first now words here old mid m in
    work_falls first.problem b.0 first.chooser.rule first.course.budget (at now 0 here) (at next (draws_after turn 0) left) b.1 (midway_leads first now next words here left old mid turn m is goes 0)

-- after a turn that is no end there is no outcome
none_after : (turn : Turn) → ((outcome : Outcome) → turn ≡ Ended outcome → ⊥) → outcome_after turn ≡ None
none_after (Chose cell value) goes = refl
none_after (Retracted cell value) goes = refl
none_after (Ended outcome) goes = absurd (goes outcome refl)

-- what a call of `step` ensures that answers a turn
pub record IsStep (now next : SearchView) (here left : Stream) (mid new : JournalView) (turn : Turn) : Type 0 where
  pub turn_is : IsTurn now here turn next left
  pub outcome_is : next.course.outcome ≡ outcome_after turn
  pub ready : IsReady next
  pub told : new ≡ after_lines mid (opening_lines now.store ++ turn_lines turn next.store)
  pub whole : IsTrue next.course.broken → ⊥
  pub problem : next.problem ≡ now.problem
  pub rule : next.chooser.rule ≡ now.chooser.rule
  pub budget : next.course.budget ≡ now.course.budget

-- the run goes on
pub midway_next : (first now next : SearchView) (words here left : Stream) (old mid new : JournalView) (turn : Turn) → IsMidway first now words here old mid
    → IsStep now next here left mid new turn → ((outcome : Outcome) → turn ≡ Ended outcome → ⊥) → IsMidway first next words left old new
midway_next first now next words here left old mid new turn m step goes =
    let b = midway_between first now words here old mid m in
    record {
      same_problem = step.problem ∙ m.same_problem;
      same_rule = step.rule ∙ m.same_rule;
      same_budget = step.budget ∙ m.same_budget;
      ready = step.ready;
      going = record { outcome = step.outcome_is ∙ none_after turn goes; whole = false_from_ne_true next.course.broken step.whole };
      unfailed = ap (λ (j : JournalView). j.failed) step.told ∙ m.unfailed;
      ends = λ draws. (
        draws_after turn (m.ends draws).0,
        (m.ends draws).1
            ∙ from_next first.problem b.0 first.chooser.rule first.course.budget (at now (m.ends draws).0 here) (at next (draws_after turn (m.ends draws).0) left) b.1
            (midway_leads first now next words here left old mid turn m step.turn_is goes (m.ends draws).0),
      );
      came = came_next first.problem first.chooser.rule first.course.budget (at first 0 words) first.store now.store next.store next.chooser now.course next.course here left old mid new turn m.came m.same_budget
          (midway_turn first now next words here left old mid turn m step.turn_is)
          (subst (λ (X : Network). HoldsBetween X next.store next.chooser next.course) (step.problem ∙ m.same_problem) step.ready) goes step.told;
    }

-- ---- the last turn

-- what it says of the whole run
pub record IsLastTurn (first next : SearchView) (words left : Stream) (old new : JournalView) (outcome : Outcome) : Type 0 where
  pub end : IsEnd first words outcome next left
  pub enough : volume_of first.problem ≤ first.course.budget → outcome ≢ Spent
  pub told : IsRunTold first words outcome old new

-- so it is
pub midway_last : (first now next : SearchView) (words here left : Stream) (old mid new : JournalView) (turn : Turn) (outcome : Outcome) → IsMidway first now words here old mid
    → IsTurn now here turn next left → new ≡ after_lines mid (opening_lines now.store ++ turn_lines turn next.store) → turn ≡ Ended outcome → IsLastTurn first next words left old new outcome
midway_last first now next words here left old mid new turn outcome m is told ended =
    let b = midway_between first now words here old mid m in
    let last : IsTurn now here (Ended outcome) next left = subst (λ (t : Turn). IsTurn now here t next left) ended is in
    let made : (draws : ℕ) → turn_by first (at now draws here) ≡ (Ended outcome, at next draws left) = midway_made first now next words here left old mid (Ended outcome) m last in
    record {
      end = λ draws. (
        (m.ends draws).0,
        (m.ends draws).1
            ∙ from_ended first.problem b.0 first.chooser.rule first.course.budget (at now (m.ends draws).0 here) (at next (m.ends draws).0 left) outcome b.1 (made (m.ends draws).0),
      );
      enough = λ le spent.
          let v = spent_volume first.problem b.0 first.chooser.rule first.course.budget (at now 0 here) (at next 0 left) b.1
          (subst (λ (o : Outcome). turn_by first (at now 0 here) ≡ (Ended o, at next 0 left)) spent (made 0)) in
          omega (arith, v.1);
      told = came_end first.problem first.chooser.rule first.course.budget (at first 0 words) first.store now.store next.store now.course next.course here left old mid new outcome m.came m.same_budget
          (midway_turn first now next words here left old mid (Ended outcome) m last)
          (told ∙ ap (λ (t : Turn). after_lines mid (opening_lines now.store ++ turn_lines t next.store)) ended);
    }

-- ---- a turn that was cut off

-- what was told of the run then
pub midway_cut_off : (first now : SearchView) (next : StoreView) (words here : Stream) (old mid new : JournalView) → IsMidway first now words here old mid
    → IsCutOffFrom now.problem now.chooser.rule now.store now.course here next mid new
    → IsRunCutOff first.problem first.chooser.rule first.course.budget (at first 0 words) first.store old new
midway_cut_off first now next words here old mid new m cut =
    came_cut_off first.problem first.chooser.rule first.course.budget (at first 0 words) first.store now.store next now.course here old mid new m.came m.same_budget
    (subst (λ (x : Rule). IsCutOffFrom first.problem x now.store now.course here next mid new) m.same_rule
    (subst (λ (X : Network). IsCutOffFrom X now.chooser.rule now.store now.course here next mid new) m.same_problem cut))
