-- Accepted lines spell nodes.
use Rattle.std.proofs.Common.{◌≡◌, ◌≢◌, ℕ, suc, ◌+◌, ◌-◌, Bool, true, false, List, [], ◌∷◌, ◌++◌, map, refl, sym, ◌∙◌, ap, subst, arith, Option, Some, None, append-nil}
use Rattle.std.specs.Prelude.{Result, Ok, ◌↔◌, nat_le}
use Rattle.std.specs.List.{list_all, range_with_len}
use Rattle.std.proofs.lemmas.Bool.{and_parts, and_from}
use Rattle.wfc_problem.specs.Domains.{Test, Within, with_literal}
use Rattle.wfc_problem.specs.Network.{Network, IsProblem, in_base}
use Rattle.wfc_problem.specs.declared.Literal.TheVariants.{Is, Not}
use Rattle.wfc_proof.specs.Checker.{Point, after_close, reject_unless, and_on, form_fault, nodes_unless, node_steps, line_step, line_steps}
use Rattle.wfc_proof.specs.Checker.Point.{going, closed, ended}
use Rattle.wfc_proof.specs.Lines.{nodes_of, has_nodes, nodes_of_lines, SpellsNodes}
use Rattle.wfc_proof.specs.Proof.{Proof, Closes, FollowsFrom, StopsThere, is_left_off, Node, nodes}
use Rattle.wfc_proof.specs.Proof.Node.{empties, removes, splits}
use Rattle.wfc_proof.specs.declared.Line.{Line}
use Rattle.wfc_proof.specs.declared.Line.TheVariants.{Remove, Span, Try, Empty, End, Found, Out}
use Rattle.wfc_proof.specs.declared.Reject.{Reject}
use Rattle.wfc_proof.specs.declared.Reject.TheVariants.{IndexRange}
use Rattle.wfc_proof.proofs.Forests.{and_ok, step_cases, steps_append, closed_proof, going_iff, proof_accepted}

-- a line without a fault of form has nodes
formed : (line : Line) → form_fault line ≡ None → has_nodes line ≡ true
formed (Remove c v d) e = refl
formed (Span c first last d) e = from (nat_le first last) e
  where
    from : (b : Bool) → reject_unless b IndexRange ≡ None → b ≡ true
    from true e = refl
    from false e = cc
formed (Try c v) e = refl
formed (Empty c) e = refl
formed End e = cc
formed Found e = cc
formed Out e = cc

-- and the other way
has_form : (line : Line) → has_nodes line ≡ true → form_fault line ≡ None
has_form (Remove c v d) e = refl
has_form (Span c first last d) e = ap (λ b. reject_unless b IndexRange) e
has_form (Try c v) e = refl
has_form (Empty c) e = refl
has_form End e = cc
has_form Found e = cc
has_form Out e = cc

-- a line that is accepted where a branch is open has nodes that are
unless_ok : (P : Network) (m : Point) (ns : List Node) (o : Option Reject) (q : Point) → nodes_unless P m ns o ≡ Ok q → (o ≡ None) × (node_steps P m ns ≡ Ok q)
unless_ok P m ns None q e = (refl, e)
unless_ok P m ns (Some r) q e = cc

-- after the end nothing is accepted
ended_stays : (P : Network) (lines : List Line) (q : Point) → line_steps P ended lines ≡ Ok q → q ≡ ended
ended_stays P [] q e = cc
ended_stays P (line ∷ lines) q e = cc

-- lines after a line that is accepted with its nodes
behind : (P : Network) (m : Point) (line : Line) (ns : List Node) (q k : Point) → node_steps P m (nodes_of line) ≡ Ok k → node_steps P k ns ≡ Ok q
    → node_steps P m (nodes_of line ++ ns) ≡ Ok q
behind P m line ns q k here rest =
    steps_append P m (nodes_of line) ns ∙ ap (λ (r : Result Point Reject). and_on r (λ x. node_steps P x ns)) here ∙ rest

-- accepted lines that don't end the proof have nodes, and these are accepted
pub lines_nodes : (P : Network) (m : Point) (lines : List Line) (q : Point) → q ≢ ended → line_steps P m lines ≡ Ok q
    → (list_all has_nodes lines ≡ true) × (node_steps P m (nodes_of_lines lines) ≡ Ok q)
lines_nodes P m [] q goes e = (refl, e)
lines_nodes P (going D waiting) (line ∷ lines) q goes e =
    let on = and_ok (line_step P (going D waiting) line) (λ next. line_steps P next lines) q e in
    let here = unless_ok P (going D waiting) (nodes_of line) (form_fault line) on.0 on.1 in
    let rest = lines_nodes P on.0 lines q goes on.2 in
    (and_from _ _ (formed line here.0) rest.0, behind P (going D waiting) line (nodes_of_lines lines) q on.0 here.1 rest.1)
lines_nodes P closed (End ∷ lines) q goes e = absurd (goes (ended_stays P lines q e))
lines_nodes P closed (Remove c v d ∷ lines) q goes e = cc
lines_nodes P closed (Span c first last d ∷ lines) q goes e = cc
lines_nodes P closed (Try c v ∷ lines) q goes e = cc
lines_nodes P closed (Empty c ∷ lines) q goes e = cc
lines_nodes P closed (Found ∷ lines) q goes e = cc
lines_nodes P closed (Out ∷ lines) q goes e = cc
lines_nodes P ended (line ∷ lines) q goes e = cc

-- a line with nodes has a first one
first_node : (line : Line) → has_nodes line ≡ true → (n : Node) × (ns : List Node) × (nodes_of line ≡ n ∷ ns)
first_node (Remove c v d) e = (removes c v d, [], refl)
first_node (Span c first last d) e =
    let one : last + 1 - first ≡ suc (last - first) = grind arith in (
      removes c first d,
      map (λ v. removes c v d) (range_with_len (first + 1) (last - first)),
      ap (λ (k : ℕ). map (λ v. removes c v d) (range_with_len first k)) one,
    )
first_node (Try c v) e = (splits c v, [], refl)
first_node (Empty c) e = (empties c, [], refl)
first_node End e = cc
first_node Found e = cc
first_node Out e = cc

-- what is closed or has ended takes no node
closed_none : (P : Network) (line : Line) (ns : List Node) (q : Point) → has_nodes line ≡ true → node_steps P closed (nodes_of line ++ ns) ≡ Ok q → ⊥
closed_none P line ns q has e =
    let f = first_node line has in
    let g : node_steps P closed ((f.0 ∷ f.1) ++ ns) ≡ Ok q = subst (λ (xs : List Node). node_steps P closed (xs ++ ns) ≡ Ok q) f.2 e in
    cc

ended_none : (P : Network) (line : Line) (ns : List Node) (q : Point) → has_nodes line ≡ true → node_steps P ended (nodes_of line ++ ns) ≡ Ok q → ⊥
ended_none P line ns q has e =
    let f = first_node line has in
    let g : node_steps P ended ((f.0 ∷ f.1) ++ ns) ≡ Ok q = subst (λ (xs : List Node). node_steps P ended (xs ++ ns) ≡ Ok q) f.2 e in
    cc

-- and the other way
pub nodes_lines : (P : Network) (m : Point) (lines : List Line) (q : Point) → list_all has_nodes lines ≡ true → node_steps P m (nodes_of_lines lines) ≡ Ok q
    → line_steps P m lines ≡ Ok q
nodes_lines P m [] q all e = e
nodes_lines P (going D waiting) (line ∷ lines) q all e =
    let parts = and_parts (has_nodes line) (list_all has_nodes lines) all in
    let split : and_on (node_steps P (going D waiting) (nodes_of line)) (λ x. node_steps P x (nodes_of_lines lines)) ≡ Ok q =
    sym (steps_append P (going D waiting) (nodes_of line) (nodes_of_lines lines)) ∙ e in
    let on = and_ok (node_steps P (going D waiting) (nodes_of line)) (λ x. node_steps P x (nodes_of_lines lines)) q split in
    ap (λ (o : Option Reject). and_on (nodes_unless P (going D waiting) (nodes_of line) o) (λ next. line_steps P next lines)) (has_form line parts.0)
    ∙ ap (λ (r : Result Point Reject). and_on r (λ next. line_steps P next lines)) on.1
    ∙ nodes_lines P on.0 lines q parts.1 on.2
nodes_lines P closed (line ∷ lines) q all e =
    absurd (closed_none P line (nodes_of_lines lines) q (and_parts (has_nodes line) (list_all has_nodes lines) all).0 e)
nodes_lines P ended (line ∷ lines) q all e =
    absurd (ended_none P line (nodes_of_lines lines) q (and_parts (has_nodes line) (list_all has_nodes lines) all).0 e)

-- lines are all accepted and close the proof exactly where they spell one
pub lines_close : (P : Network) → IsProblem P → (D : Test) → Within D (in_base P) → (lines : List Line)
    → (line_steps P (going D []) lines ≡ Ok closed) ↔ ((proof : Proof) × Closes P D proof × SpellsNodes lines (nodes proof))
lines_close P p D within lines = (
  (λ e.
      let told = lines_nodes P (going D []) lines closed (λ f. cc) e in
      let f = closed_proof P p D within (nodes_of_lines lines) told.1 in
      (f.0, f.1, (told.0, f.2))),
  (λ h.
      let same : nodes_of_lines lines ≡ nodes h.0 ++ [] = h.2.1 ∙ sym (append-nil (nodes h.0)) in
      nodes_lines P (going D []) lines closed h.2.0
      (ap (λ (xs : List Node). node_steps P (going D []) xs) same ∙ proof_accepted P p D [] within h.0 h.1 [])),
)

-- and they leave a branch open exactly where they spell one that follows, of which a branch was left off
pub lines_go : (P : Network) → IsProblem P → (D : Test) → Within D (in_base P) → (lines : List Line)
    → ((E : Test) × (waiting : List Test) × (line_steps P (going D []) lines ≡ Ok (going E waiting)))
    ↔ ((proof : Proof) × FollowsFrom P D proof × StopsThere proof × (is_left_off proof ≡ true) × SpellsNodes lines (nodes proof))
lines_go P p D within lines = (
  (λ h.
      let told = lines_nodes P (going D []) lines (going h.0 h.1) (λ f. cc) h.2 in
      let f = (going_iff P p D within (nodes_of_lines lines)).0 (h.0, h.1, told.1) in
      (f.0, f.1, f.2, f.3, (told.0, f.4))),
  (λ h.
      let r = (going_iff P p D within (nodes_of_lines lines)).1 (h.0, h.1, h.2, h.3, h.4.1) in
      (r.0, r.1, nodes_lines P (going D []) lines (going r.0 r.1) h.4.0 r.2)),
)

-- ---- the end

-- where nodes lead the proof hasn't ended
after_goes : (waiting : List Test) → after_close waiting ≡ ended → ⊥
after_goes [] e = cc
after_goes (D ∷ waiting) e = cc

nodes_go : (P : Network) (ns : List Node) (m : Point) → m ≢ ended → node_steps P m ns ≡ Ok ended → ⊥
nodes_go P [] m goes e = goes cc
nodes_go P (n ∷ ns) closed goes e = cc
nodes_go P (n ∷ ns) ended goes e = goes refl
nodes_go P (empties c ∷ ns) (going D waiting) goes e =
    nodes_go P ns (after_close waiting) (after_goes waiting) (step_cases P D waiting (empties c) ns ended e).1
nodes_go P (removes c v d ∷ ns) (going D waiting) goes e =
    nodes_go P ns (going (with_literal D (Not v c)) waiting) (λ f. cc) (step_cases P D waiting (removes c v d) ns ended e).1
nodes_go P (splits c v ∷ ns) (going D waiting) goes e =
    nodes_go P ns (going (with_literal D (Is v c)) (with_literal D (Not v c) ∷ waiting)) (λ f. cc) (step_cases P D waiting (splits c v) ns ended e).1

-- an end follows lines that close the proof
pub lines_end : (P : Network) (m : Point) (lines : List Line) → m ≢ ended → line_steps P m lines ≡ Ok ended
    → (before : List Line) × (lines ≡ before ++ End ∷ []) × (line_steps P m before ≡ Ok closed)
lines_end P m [] goes e = absurd (goes cc)
lines_end P (going D waiting) (line ∷ lines) goes e =
    let on = and_ok (line_step P (going D waiting) line) (λ next. line_steps P next lines) ended e in
    let here = unless_ok P (going D waiting) (nodes_of line) (form_fault line) on.0 on.1 in
    let r = lines_end P on.0 lines (λ f. nodes_go P (nodes_of line) (going D waiting) (λ g. cc)
    (subst (λ (k : Point). node_steps P (going D waiting) (nodes_of line) ≡ Ok k) f here.1)) on.2 in
    (line ∷ r.0, ap (λ (xs : List Line). line ∷ xs) r.1, ap (λ (x : Result Point Reject). and_on x (λ next. line_steps P next r.0)) on.1 ∙ r.2)
lines_end P closed (End ∷ []) goes e = ([], refl, refl)
lines_end P closed (End ∷ (line ∷ lines)) goes e = cc
lines_end P closed (Remove c v d ∷ lines) goes e = cc
lines_end P closed (Span c first last d ∷ lines) goes e = cc
lines_end P closed (Try c v ∷ lines) goes e = cc
lines_end P closed (Empty c ∷ lines) goes e = cc
lines_end P closed (Found ∷ lines) goes e = cc
lines_end P closed (Out ∷ lines) goes e = cc
lines_end P ended (line ∷ lines) goes e = cc

-- lines after lines
lines_append : (P : Network) (m : Point) (xs ys : List Line) (q : Point) → line_steps P m xs ≡ Ok q → line_steps P m (xs ++ ys) ≡ line_steps P q ys
lines_append P m [] ys q e = let same : m ≡ q = cc in ap (λ (k : Point). line_steps P k ys) same
lines_append P m (x ∷ xs) ys q e =
    let on = and_ok (line_step P m x) (λ next. line_steps P next xs) q e in
    ap (λ (r : Result Point Reject). and_on r (λ next. line_steps P next (xs ++ ys))) on.1 ∙ lines_append P on.0 xs ys q on.2

-- lines are all accepted and end the proof exactly where they spell one, with the end behind it
pub lines_ended : (P : Network) → IsProblem P → (D : Test) → Within D (in_base P) → (lines : List Line)
    → (line_steps P (going D []) lines ≡ Ok ended)
    ↔ ((before : List Line) × (lines ≡ before ++ End ∷ []) × (proof : Proof) × Closes P D proof × SpellsNodes before (nodes proof))
lines_ended P p D within lines = (
  (λ e.
      let r = lines_end P (going D []) lines (λ f. cc) e in
      let f = (lines_close P p D within r.0).0 r.2 in
      (r.0, r.1, f.0, f.1, f.2)),
  (λ h.
      ap (λ (ls : List Line). line_steps P (going D []) ls) h.1
      ∙ lines_append P (going D []) h.0 (End ∷ []) closed ((lines_close P p D within h.0).1 (h.2, h.3, h.4))),
)
