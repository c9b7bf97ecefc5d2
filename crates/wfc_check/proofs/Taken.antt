-- Nodes and lines that a trail took or refused.
use Rattle.std.proofs.Common.{◌≡◌, ℕ, ◌+◌, ◌-◌, ◌<◌, ◌≤◌, List, [], ◌∷◌, ◌++◌, length, take, map, true, refl, sym, ◌∙◌, ap, subst, arith, Option, Some, None}
use Rattle.std.specs.Prelude.{Result, Ok, Err}
use Rattle.std.specs.List.{range_with_len}
use Rattle.std.proofs.lemmas.List.{take-append-le, length-append, take_all}
use Rattle.wfc_problem.specs.Domains.{Test}
use Rattle.wfc_problem.specs.Network.{Network, IsProblem, in_base}
use Rattle.wfc_problem.specs.Rounds.{pairs, depth_of}
use Rattle.wfc_proof.specs.Checker.{Point, after_close, after_node, node_fault, node_step, node_steps, or_else, and_on, closed_step, line_step, line_steps}
use Rattle.wfc_proof.specs.Checker.Point.{going}
use Rattle.wfc_proof.specs.Proof.{Node}
use Rattle.wfc_proof.specs.Proof.Node.{removes, splits, empties}
use Rattle.wfc_proof.specs.declared.Line.{Line}
use Rattle.wfc_proof.specs.declared.Line.TheVariants.{Remove, Span, Try, Empty, End, Found, Out}
use Rattle.wfc_proof.specs.declared.Reject.{Reject}
use Rattle.wfc_proof.proofs.Nodes.{accepted_removal, accepted_split}
use Rattle.wfc_proof.proofs.Waiting.{waiting_few}
use Rattle.wfc_check.specs.Entries.{TrailView, standing, waits_of, with_more, Resumes, Branches}
use Rattle.wfc_check.specs.Checker.{point_at, progress_of, line_answer, led_to, IsTaken, IsReached}
use Rattle.wfc_check.specs.declared.progress.Progress.{Progress}
use Rattle.wfc_check.specs.declared.progress.Progress.TheVariants.{Going, Closed, Ended}
use Rattle.wfc_check.specs.declared.trail.Entry.{Entry}
use Rattle.wfc_check.proofs.Branches.{standing_more, waits_more}
use Rattle.wfc_check.proofs.Entries.{some_pair}
use Rattle.wfc_check.proofs.Kept.{taken}
use Rattle.wfc_check.proofs.Scans.{range_next, range_over}

-- ---- taken, or refused

pub taken_ok : (s : Result Point Reject) (old new : TrailView) (progress : Progress) → s ≡ Ok (point_at progress new) → new.problem ≡ old.problem → IsTaken s old new (Ok progress)
taken_ok s old new progress e same = subst (λ (r : Result Point Reject). IsTaken r old new (Ok progress)) (sym e) (same, refl)

pub taken_err : (s : Result Point Reject) (old new : TrailView) (r : Reject) → s ≡ Err r → new ≡ old → IsTaken s old new (Err r)
taken_err s old new r e same = subst (λ (t : Result Point Reject). IsTaken t old new (Err r)) (sym e) (refl, same)

-- how far a point is
pub progress_at : (progress : Progress) (t : TrailView) → progress_of (point_at progress t) ≡ progress
progress_at Going t = refl
progress_at Closed t = refl
progress_at Ended t = refl

-- what was taken is the answer
pub taken_told : (s : Result Point Reject) (r : Result Progress Reject) (old new : TrailView) → IsTaken s old new r → r ≡ line_answer s
taken_told (Ok point) (Ok progress) old new h = ap (λ (p : Progress). Ok p) (sym (progress_at progress new) ∙ ap progress_of h.1)
taken_told (Ok point) (Err r) old new h = absurd h
taken_told (Err reject) (Ok progress) old new h = absurd h
taken_told (Err reject) (Err r) old new h = ap (λ (x : Reject). Err x) h.0

pub taken_led : (s : Result Point Reject) (progress : Progress) (old new : TrailView) (q : Point) → IsTaken s old new (Ok progress)
    → (new.problem ≡ old.problem) × (point_at progress new ≡ led_to q s)
taken_led (Ok point) progress old new q h = h
taken_led (Err reject) progress old new q h = absurd h

pub taken_stays : (s : Result Point Reject) (r : Reject) (old new : TrailView) (q : Point) → IsTaken s old new (Err r) → (new ≡ old) × (q ≡ led_to q s)
taken_stays (Ok point) r old new q h = absurd h
taken_stays (Err reject) r old new q h = (h.1, refl)

-- ---- nodes

-- a refused node
pub refused : (P : Network) (t : TrailView) (node : Node) (r : Reject) → node_fault P (standing t) node ≡ Some r → node_step P (point_at Going t) node ≡ Err r
refused P t node r e = ap (λ (o : Option Reject). or_else o (after_node (standing t) (waits_of t) node)) e

-- and one that leads on
pub accepted : (P : Network) (t : TrailView) (node : Node) → node_fault P (standing t) node ≡ None
    → node_step P (point_at Going t) node ≡ Ok (after_node (standing t) (waits_of t) node)
accepted P t node e = ap (λ (o : Option Reject). or_else o (after_node (standing t) (waits_of t) node)) e

-- a value that is taken away
pub removed_point : (old new : TrailView) (c v d : ℕ) → new ≡ with_more old (taken c v) → point_at Going new ≡ after_node (standing old) (waits_of old) (removes c v d)
removed_point old new c v d is = ap (point_at Going) is ∙ (λ i. going (standing_more old (taken c v) i) (waits_more old (taken c v) i))

pub took_removal : (old new : TrailView) (c v d : ℕ) → node_fault old.problem (standing old) (removes c v d) ≡ None → new ≡ with_more old (taken c v)
    → IsTaken (node_step old.problem (point_at Going old) (removes c v d)) old new (Ok Going)
took_removal old new c v d e is =
    taken_ok _ old new Going (accepted old.problem old (removes c v d) e ∙ ap (λ (q : Point). Ok q) (sym (removed_point old new c v d is))) (ap (λ t. t.problem) is)

-- a value whose removal is accepted stands
pub removal_stands : (P : Network) (D : Test) (c v d : ℕ) → node_fault P D (removes c v d) ≡ None → D c v ≡ true
removal_stands P D c v d e = (accepted_removal P D c v d e).stands

-- a branch
pub split_stands : (P : Network) (D : Test) (c v : ℕ) → node_fault P D (splits c v) ≡ None → D c v ≡ true
split_stands P D c v e = (accepted_split P D c v e).stands

pub split_few : (t : TrailView) → IsProblem t.problem → (c v : ℕ) → node_fault t.problem (standing t) (splits c v) ≡ None
    → pairs t.problem (standing t) + length (waits_of t) ≤ depth_of t.problem → length (waits_of t) < depth_of t.problem
split_few t p c v e few = omega (arith, few, some_pair t.problem p t.entries c v (split_stands t.problem (standing t) c v e))

pub took_split : (old new : TrailView) (c v : ℕ) → node_fault old.problem (standing old) (splits c v) ≡ None → Branches old new c v
    → IsTaken (node_step old.problem (point_at Going old) (splits c v)) old new (Ok Going)
took_split old new c v e b =
    taken_ok _ old new Going (accepted old.problem old (splits c v) e ∙ ap (λ (q : Point). Ok q) (λ i. going (sym b.first i) (sym b.second i))) b.problem

-- a branch that closes, with another one that waits
pub took_close : (old mid new : TrailView) (c : ℕ) (e : Entry) → node_fault old.problem (standing old) (empties c) ≡ None → mid.problem ≡ old.problem → Resumes old mid e
    → new ≡ with_more mid (taken e.cell e.value) → IsTaken (node_step old.problem (point_at Going old) (empties c)) old new (Ok Going)
took_close old mid new c e f same r is =
    taken_ok _ old new Going
    (accepted old.problem old (empties c) f ∙ ap (λ (W : List Test). Ok (after_close W)) r.waited
    ∙ ap (λ (q : Point). Ok q) (sym (removed_point mid new e.cell e.value 0 is)))
    (ap (λ t. t.problem) is ∙ same)

-- and with none
pub took_last : (old new : TrailView) (c : ℕ) → node_fault old.problem (standing old) (empties c) ≡ None → new.problem ≡ old.problem → waits_of old ≡ []
    → IsTaken (node_step old.problem (point_at Going old) (empties c)) old new (Ok Closed)
took_last old new c f same none =
    taken_ok _ old new Closed (accepted old.problem old (empties c) f ∙ ap (λ (W : List Test). Ok (after_close W)) none) same

-- ---- spans

abbrev pub removals : ℕ → ℕ → ℕ → ℕ → List Node
removals c v n d = map (λ w. removes c w d) (range_with_len v n)

-- the trail while a span is taken: what is left leads where the whole leads, and the entries before it are kept
pub record IsSpanning (start here : TrailView) (c first v last d : ℕ) : Type 0 where
  pub same : here.problem ≡ start.problem
  pub kept : take (length start.entries) here.entries ≡ start.entries
  pub more : length start.entries ≤ length here.entries
  pub ahead : node_steps start.problem (point_at Going start) (removals c first (last + 1 - first) d)
      ≡ node_steps start.problem (point_at Going here) (removals c v (last + 1 - v) d)

pub spanning_begins : (start : TrailView) (c first last d : ℕ) → IsSpanning start start c first first last d
spanning_begins start c first last d = record { same = refl; kept = take_all (length start.entries) start.entries (omega arith); more = omega arith; ahead = refl }

next_is : (c v last d : ℕ) → v < last + 1 → removals c v (last + 1 - v) d ≡ removes c v d ∷ removals c (v + 1) (last + 1 - (v + 1)) d
next_is c v last d l = ap (map (λ w. removes c w d)) (range_next v (last + 1) l)

first_step : (P : Network) (q : Point) (c v last d : ℕ) (s : Result Point Reject) → v < last + 1 → node_step P q (removes c v d) ≡ s
    → node_steps P q (removals c v (last + 1 - v) d) ≡ and_on s (λ next. node_steps P next (removals c (v + 1) (last + 1 - (v + 1)) d))
first_step P q c v last d s l e =
    ap (node_steps P q) (next_is c v last d l) ∙ ap (λ (r : Result Point Reject). and_on r (λ next. node_steps P next (removals c (v + 1) (last + 1 - (v + 1)) d))) e

pub spanning_on : (start here new : TrailView) (c first v last d : ℕ) → IsSpanning start here c first v last d → v < last + 1
    → node_fault here.problem (standing here) (removes c v d) ≡ None → new ≡ with_more here (taken c v) → IsSpanning start new c first (v + 1) last d
spanning_on start here new c first v last d h l e is =
    let e' = ap (λ P. node_fault P (standing here) (removes c v d)) (sym h.same) ∙ e in
    record {
      same = ap (λ t. t.problem) is ∙ h.same;
      kept = ap (λ t. take (length start.entries) t.entries) is ∙ take-append-le (length start.entries) here.entries (taken c v ∷ []) h.more ∙ h.kept;
      more = omega (arith, h.more, ap (λ t. length t.entries) is, length-append here.entries (taken c v ∷ []));
      ahead = h.ahead ∙ first_step start.problem (point_at Going here) c v last d _ l (accepted start.problem here (removes c v d) e')
          ∙ ap (λ q. node_steps start.problem q (removals c (v + 1) (last + 1 - (v + 1)) d)) (sym (removed_point here new c v d is));
    }

pub spanning_refused : (start here new : TrailView) (c first v last d : ℕ) (r : Reject) → IsSpanning start here c first v last d → v < last + 1
    → node_fault here.problem (standing here) (removes c v d) ≡ Some r → new ≡ record here { entries = take (length start.entries) here.entries }
    → IsTaken (node_steps start.problem (point_at Going start) (removals c first (last + 1 - first) d)) start new (Err r)
spanning_refused start here new c first v last d r h l e is =
    let e' = ap (λ P. node_fault P (standing here) (removes c v d)) (sym h.same) ∙ e in
    taken_err _ start new r
    (h.ahead ∙ first_step start.problem (point_at Going here) c v last d _ l (refused start.problem here (removes c v d) r e'))
    (is ∙ (λ i. record { problem = h.same i; entries = h.kept i }))

pub spanning_ends : (start here : TrailView) (c first v last d : ℕ) → IsSpanning start here c first v last d → last + 1 ≤ v
    → IsTaken (node_steps start.problem (point_at Going start) (removals c first (last + 1 - first) d)) start here (Ok Going)
spanning_ends start here c first v last d h l =
    taken_ok _ start here Going (h.ahead ∙ ap (λ xs. node_steps start.problem (point_at Going here) (map (λ w. removes c w d) xs)) (range_over v (last + 1) l)) h.same

-- ---- lines

steps_more : (P : Network) (q : Point) (lines : List Line) (line : Line) → line_steps P q (lines ++ line ∷ []) ≡ and_on (line_steps P q lines) (λ m. line_step P m line)
steps_more P q [] line = one (line_step P q line)
  where
    one : (r : Result Point Reject) → and_on r (λ next. Ok next) ≡ r
    one (Ok m) = refl
    one (Err r) = refl
steps_more P q (x ∷ lines) line = both (λ m. steps_more P m lines line) (line_step P q x)
  where
    both : ((m : Point) → line_steps P m (lines ++ line ∷ []) ≡ and_on (line_steps P m lines) (λ m. line_step P m line)) → (r : Result Point Reject)
        → and_on r (λ next. line_steps P next (lines ++ line ∷ [])) ≡ and_on (and_on r (λ next. line_steps P next lines)) (λ m. line_step P m line)
    both more (Ok m) = more m
    both more (Err r) = refl

-- an accepted line leads on
pub reached_next : (P : Network) (q next : Point) (line : Line) → IsReached P q → line_step P q line ≡ Ok next → IsReached P next
reached_next P q next line h e = record {
  problem = h.problem;
  lines = h.lines ++ line ∷ [];
  lead = steps_more P (going (in_base P) []) h.lines line ∙ ap (λ (r : Result Point Reject). and_on r (λ m. line_step P m line)) h.lead ∙ e;
}

pub reached_led : (P : Network) (q : Point) (line : Line) (s : Result Point Reject) → IsReached P q → line_step P q line ≡ s → IsReached P (led_to q s)
reached_led P q line (Ok next) h e = reached_next P q next line h e
reached_led P q line (Err r) h e = h

-- few branches wait
pub reached_few : (P : Network) (D : Test) (waiting : List Test) → IsReached P (going D waiting) → pairs P D + length waiting ≤ depth_of P
reached_few P D waiting h = (waiting_few P h.problem h.lines D waiting h.lead).1

-- ---- lines as nodes

-- one node, and no more
pub taken_alone : (s : Result Point Reject) (old new : TrailView) (r : Result Progress Reject) → IsTaken s old new r → IsTaken (and_on s (λ next. Ok next)) old new r
taken_alone (Ok point) old new r h = h
taken_alone (Err reject) old new r h = h

-- where the proof is closed
pub taken_closed : (t : TrailView) (line : Line) (r : Result Progress Reject) → r ≡ line_answer (closed_step line) → IsTaken (closed_step line) t t r
taken_closed t line r e = subst (λ (x : Result Progress Reject). IsTaken (closed_step line) t t x) (sym e) (each line)
  where
    each : (l : Line) → IsTaken (closed_step l) t t (line_answer (closed_step l))
    each (Remove c v d) = (refl, refl)
    each (Span c first last d) = (refl, refl)
    each (Try c v) = (refl, refl)
    each (Empty c) = (refl, refl)
    each End = (refl, refl)
    each Found = (refl, refl)
    each Out = (refl, refl)
