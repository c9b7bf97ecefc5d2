-- Accepted nodes are those of proofs, one for each branch that is open.
use Rattle.std.proofs.Common.{◌≡◌, Bool, true, false, List, [], ◌∷◌, ◌++◌, refl, sym, ◌∙◌, ap, subst, inl, inr, Option, Some, None, append_assoc, append-nil}
use Rattle.std.proofs.lemmas.Bool.{cases_Bool}
use Rattle.std.specs.Prelude.{◌↔◌, Result, Ok, Err, ⊤, ◌||◌}
use Rattle.wfc_problem.specs.Domains.{Test, Within, with_literal}
use Rattle.wfc_problem.specs.Network.{Network, IsProblem, in_base}
use Rattle.wfc_problem.specs.declared.Literal.TheVariants.{Is, Not}
use Rattle.wfc_proof.specs.Checker.{Point, after_close, node_fault, after_node, or_else, and_on, node_step, node_steps}
use Rattle.wfc_proof.specs.Checker.Point.{going, closed}
use Rattle.wfc_proof.specs.Proof.{Proof, Closes, FollowsFrom, is_left_off, StopsThere, Node, nodes}
use Rattle.wfc_proof.specs.Proof.Proof.{empty, remove, split, left_off}
use Rattle.wfc_proof.specs.Proof.Node.{empties, removes, splits}
use Rattle.wfc_proof.specs.declared.Reject.{Reject}
use Rattle.wfc_proof.proofs.Nodes.{accepted_removal, removal_accepted, accepted_split, split_accepted, accepted_empty, empty_accepted}
use Rattle.wfc_problem.proofs.CallerLemmas.{cut_within}

-- ---- steps

-- what goes on goes on from a point
pub and_ok : (r : Result Point Reject) (f : Point → Result Point Reject) (q : Point) → and_on r f ≡ Ok q → (m : Point) × (r ≡ Ok m) × (f m ≡ Ok q)
and_ok (Ok m) f q e = (m, refl, e)
and_ok (Err r) f q e = cc

-- no refusal
or_else_ok : (o : Option Reject) (m q : Point) → or_else o m ≡ Ok q → (o ≡ None) × (m ≡ q)
or_else_ok None m q e = (refl, cc)
or_else_ok (Some r) m q e = cc

-- an accepted node, and the rest from where it leads
pub step_cases : (P : Network) (D : Test) (waiting : List Test) (n : Node) (ns : List Node) (q : Point) → node_steps P (going D waiting) (n ∷ ns) ≡ Ok q
    → (node_fault P D n ≡ None) × (node_steps P (after_node D waiting n) ns ≡ Ok q)
step_cases P D waiting n ns q e =
    let on = and_ok (node_step P (going D waiting) n) (λ next. node_steps P next ns) q e in
    let here = or_else_ok (node_fault P D n) (after_node D waiting n) on.0 on.1 in
    (here.0, subst (λ (m : Point). node_steps P m ns ≡ Ok q) (sym here.1) on.2)

-- and the other way
pub step_on : (P : Network) (D : Test) (waiting : List Test) (n : Node) (ns : List Node) → node_fault P D n ≡ None
    → node_steps P (going D waiting) (n ∷ ns) ≡ node_steps P (after_node D waiting n) ns
step_on P D waiting n ns e = ap (λ (o : Option Reject). and_on (or_else o (after_node D waiting n)) (λ next. node_steps P next ns)) e

-- nodes after nodes
on_on : (r : Result Point Reject) (f g : Point → Result Point Reject) → and_on (and_on r f) g ≡ and_on r (λ m. and_on (f m) g)
on_on (Ok m) f g = refl
on_on (Err r) f g = refl

on_same : (r : Result Point Reject) (f g : Point → Result Point Reject) → ((m : Point) → f m ≡ g m) → and_on r f ≡ and_on r g
on_same (Ok m) f g same = same m
on_same (Err r) f g same = refl

pub steps_append : (P : Network) (q : Point) (xs ys : List Node) → node_steps P q (xs ++ ys) ≡ and_on (node_steps P q xs) (λ m. node_steps P m ys)
steps_append P q [] ys = refl
steps_append P q (x ∷ xs) ys =
    on_same (node_step P q x) (λ next. node_steps P next (xs ++ ys)) (λ next. and_on (node_steps P next xs) (λ m. node_steps P m ys)) (λ m. steps_append P m xs ys)
    ∙ sym (on_on (node_step P q x) (λ next. node_steps P next xs) (λ m. node_steps P m ys))

-- ---- closing

-- all these domains lie within the base
abbrev pub Inside : Network → List Test → Type 0
Inside P [] = ⊤
Inside P (D ∷ Ds) = Within D (in_base P) × Inside P Ds

-- the nodes of a proof for each of these domains, one after another
abbrev pub Forest : Network → List Test → List Node → Type 0
Forest P [] ns = ns ≡ []
Forest P (D ∷ waiting) ns = (proof : Proof) × Closes P D proof × (rest : List Node) × (ns ≡ nodes proof ++ rest) × Forest P waiting rest

-- accepted nodes that close all are a forest's
pub closed_forest : (P : Network) → IsProblem P → (Ds : List Test) → Inside P Ds → (ns : List Node) → node_steps P (after_close Ds) ns ≡ Ok closed → Forest P Ds ns
closed_forest P p [] inside [] e = refl
closed_forest P p [] inside (n ∷ ns) e = cc
closed_forest P p (D ∷ waiting) inside [] e = cc
closed_forest P p (D ∷ waiting) inside (empties c ∷ ns) e =
    let s = step_cases P D waiting (empties c) ns closed e in
    (empty c, accepted_empty P p D inside.0 c s.0, ns, refl, closed_forest P p waiting inside.1 ns s.1)
closed_forest P p (D ∷ waiting) inside (removes c v d ∷ ns) e =
    let s = step_cases P D waiting (removes c v d) ns closed e in
    let f = closed_forest P p (with_literal D (Not v c) ∷ waiting) (cut_within D (in_base P) (Not v c) inside.0, inside.1) ns s.1 in
    (remove c v d f.0, (accepted_removal P D c v d s.0, f.1), f.2, ap (λ (xs : List Node). removes c v d ∷ xs) f.3, f.4)
closed_forest P p (D ∷ waiting) inside (splits c v ∷ ns) e =
    let s = step_cases P D waiting (splits c v) ns closed e in
    let f = closed_forest P p (with_literal D (Is v c) ∷ with_literal D (Not v c) ∷ waiting)
    (cut_within D (in_base P) (Is v c) inside.0, (cut_within D (in_base P) (Not v c) inside.0, inside.1)) ns s.1 in
    let g = f.4 in
    let same : ns ≡ (nodes f.0 ++ nodes g.0) ++ g.2 = f.3 ∙ ap (λ (xs : List Node). nodes f.0 ++ xs) g.3 ∙ sym (append_assoc (nodes f.0) (nodes g.0) g.2) in
    (split c v f.0 g.0, (accepted_split P D c v s.0, f.1, g.1), g.2, ap (λ (xs : List Node). splits c v ∷ xs) same, g.4)

-- the nodes of a proof that closes are accepted, and what comes next meets the branches that wait
pub proof_accepted : (P : Network) → IsProblem P → (D : Test) (waiting : List Test) → Within D (in_base P) → (proof : Proof) → Closes P D proof → (rest : List Node)
    → node_steps P (going D waiting) (nodes proof ++ rest) ≡ node_steps P (after_close waiting) rest
proof_accepted P p D waiting within (empty c) (l, e) rest = step_on P D waiting (empties c) rest (empty_accepted P D c l e)
proof_accepted P p D waiting within (remove c v d more) (h, closes) rest =
    step_on P D waiting (removes c v d) (nodes more ++ rest) (removal_accepted P p D within c v d h)
    ∙ proof_accepted P p (with_literal D (Not v c)) waiting (cut_within D (in_base P) (Not v c) within) more closes rest
proof_accepted P p D waiting within (split c v left right) (h, first, second) rest =
    step_on P D waiting (splits c v) ((nodes left ++ nodes right) ++ rest) (split_accepted P p D within c v h)
    ∙ ap (λ (xs : List Node). node_steps P (going (with_literal D (Is v c)) (with_literal D (Not v c) ∷ waiting)) xs) (append_assoc (nodes left) (nodes right) rest)
    ∙ proof_accepted P p (with_literal D (Is v c)) (with_literal D (Not v c) ∷ waiting) (cut_within D (in_base P) (Is v c) within) left first (nodes right ++ rest)
    ∙ proof_accepted P p (with_literal D (Not v c)) waiting (cut_within D (in_base P) (Not v c) within) right second rest
proof_accepted P p D waiting within left_off closes rest = absurd closes

-- ---- following

-- the nodes of a proof for each of these domains, one after another, where nothing comes after a branch that was left off
abbrev pub Follows : Network → List Test → List Node → Type 0
Follows P [] ns = ns ≡ []
Follows P (D ∷ waiting) ns =
    (proof : Proof) × FollowsFrom P D proof × StopsThere proof × (rest : List Node) × (ns ≡ nodes proof ++ rest) × (is_left_off proof ≡ true → rest ≡ []) × Follows P waiting rest

-- all left off
all_off : (P : Network) (Ds : List Test) → Follows P Ds []
all_off P [] = refl
all_off P (D ∷ Ds) = (left_off, tt, tt, [], refl, (λ e. refl), all_off P Ds)

-- a proof without nodes was left off
no_nodes : (proof : Proof) (rest : List Node) → nodes proof ++ rest ≡ [] → (proof ≡ left_off) × (rest ≡ [])
no_nodes (empty c) rest e = cc
no_nodes (remove c v d more) rest e = cc
no_nodes (split c v left right) rest e = cc
no_nodes left_off rest e = (refl, e)

-- nothing is behind a split of which a branch was left off
split_off : (a b : Bool) (rest : List Node) → (a ≡ true → rest ≡ []) → (b ≡ true → rest ≡ []) → (a || b) ≡ true → rest ≡ []
split_off true b rest f g e = f refl
split_off false b rest f g e = g e

-- accepted nodes are those of proofs that follow
pub follow_forest : (P : Network) → IsProblem P → (Ds : List Test) → Inside P Ds → (ns : List Node) (q : Point) → node_steps P (after_close Ds) ns ≡ Ok q → Follows P Ds ns
follow_forest P p [] inside [] q e = refl
follow_forest P p [] inside (n ∷ ns) q e = cc
follow_forest P p (D ∷ waiting) inside [] q e = all_off P (D ∷ waiting)
follow_forest P p (D ∷ waiting) inside (empties c ∷ ns) q e =
    let s = step_cases P D waiting (empties c) ns q e in
    (empty c, accepted_empty P p D inside.0 c s.0, tt, ns, refl, (λ f. cc), follow_forest P p waiting inside.1 ns q s.1)
follow_forest P p (D ∷ waiting) inside (removes c v d ∷ ns) q e =
    let s = step_cases P D waiting (removes c v d) ns q e in
    let f = follow_forest P p (with_literal D (Not v c) ∷ waiting) (cut_within D (in_base P) (Not v c) inside.0, inside.1) ns q s.1 in
    (remove c v d f.0, (accepted_removal P D c v d s.0, f.1), f.2, f.3, ap (λ (xs : List Node). removes c v d ∷ xs) f.4, f.5, f.6)
follow_forest P p (D ∷ waiting) inside (splits c v ∷ ns) q e =
    let s = step_cases P D waiting (splits c v) ns q e in
    let f = follow_forest P p (with_literal D (Is v c) ∷ with_literal D (Not v c) ∷ waiting)
    (cut_within D (in_base P) (Is v c) inside.0, (cut_within D (in_base P) (Not v c) inside.0, inside.1)) ns q s.1 in
    let g = f.6 in
    let same : ns ≡ (nodes f.0 ++ nodes g.0) ++ g.3 = f.4 ∙ ap (λ (xs : List Node). nodes f.0 ++ xs) g.4 ∙ sym (append_assoc (nodes f.0) (nodes g.0) g.3) in
    let gone : is_left_off f.0 ≡ true → (g.0 ≡ left_off) × (g.3 ≡ []) = λ off. no_nodes g.0 g.3 (sym g.4 ∙ f.5 off) in (
      split c v f.0 g.0,
      (accepted_split P D c v s.0, f.1, g.1),
      (f.2, g.2, (λ off. (gone off).0)),
      g.3,
      ap (λ (xs : List Node). splits c v ∷ xs) same,
      split_off (is_left_off f.0) (is_left_off g.0) g.3 (λ off. (gone off).1) g.5,
      g.6,
    )

-- ---- at one branch

-- nodes that close the domains are a proof's
pub closed_proof : (P : Network) → IsProblem P → (D : Test) → Within D (in_base P) → (ns : List Node) → node_steps P (going D []) ns ≡ Ok closed
    → (proof : Proof) × Closes P D proof × (ns ≡ nodes proof)
closed_proof P p D within ns e =
    let f = closed_forest P p (D ∷ []) (within, tt) ns e in
    (f.0, f.1, f.3 ∙ ap (λ (xs : List Node). nodes f.0 ++ xs) f.4 ∙ append-nil (nodes f.0))

-- accepted nodes are those of a proof that follows
pub follow_proof : (P : Network) → IsProblem P → (D : Test) → Within D (in_base P) → (ns : List Node) (q : Point) → node_steps P (going D []) ns ≡ Ok q
    → (proof : Proof) × FollowsFrom P D proof × StopsThere proof × (ns ≡ nodes proof)
follow_proof P p D within ns q e =
    let f = follow_forest P p (D ∷ []) (within, tt) ns q e in
    (f.0, f.1, f.2, f.4 ∙ ap (λ (xs : List Node). nodes f.0 ++ xs) f.6 ∙ append-nil (nodes f.0))

-- a proof that follows, of which nothing was left off, closes
pub follows_closes : (P : Network) (D : Test) (proof : Proof) → FollowsFrom P D proof → is_left_off proof ≡ false → Closes P D proof
follows_closes P D (empty c) h off = h
follows_closes P D (remove c v d rest) h off = (h.0, follows_closes P (with_literal D (Not v c)) rest h.1 off)
follows_closes P D (split c v left right) h off =
    let both = or-parts (is_left_off left) (is_left_off right) off in
    (h.0, follows_closes P (with_literal D (Is v c)) left h.1 both.0, follows_closes P (with_literal D (Not v c)) right h.2 both.1)
  where
    or-parts : (a b : Bool) → (a || b) ≡ false → (a ≡ false) × (b ≡ false)
    or-parts true b e = cc
    or-parts false b e = (refl, e)
follows_closes P D left_off h off = cc

-- the nodes of a proof that follows, of which a branch was left off, lead to an open branch
left_accepted : (P : Network) → IsProblem P → (D : Test) (waiting : List Test) → Within D (in_base P) → (proof : Proof) → FollowsFrom P D proof → StopsThere proof → is_left_off proof ≡ true
    → (E : Test) × (more : List Test) × (node_steps P (going D waiting) (nodes proof) ≡ Ok (going E more))
left_accepted P p D waiting within (empty c) h stops off = cc
left_accepted P p D waiting within (remove c v d rest) h stops off =
    let r = left_accepted P p (with_literal D (Not v c)) waiting (cut_within D (in_base P) (Not v c) within) rest h.1 stops off in
    (r.0, r.1, step_on P D waiting (removes c v d) (nodes rest) (removal_accepted P p D within c v d h.0) ∙ r.2)
left_accepted P p D waiting within (split c v left right) h stops off =
    let E : Test = with_literal D (Is v c) in
    let F : Test = with_literal D (Not v c) in
    let here = step_on P D waiting (splits c v) (nodes left ++ nodes right) (split_accepted P p D within c v h.0) in
    elim (cases_Bool (is_left_off left)) [
      | inl first ↦
          let r = left_accepted P p E (F ∷ waiting) (cut_within D (in_base P) (Is v c) within) left h.1 stops.0 first in
          let same : nodes left ++ nodes right ≡ nodes left = ap (λ (x : Proof). nodes left ++ nodes x) (stops.2 first) ∙ append-nil (nodes left) in
          (r.0, r.1, here ∙ ap (λ (xs : List Node). node_steps P (going E (F ∷ waiting)) xs) same ∙ r.2)
      | inr none ↦
          let second : is_left_off right ≡ true = behind-none (is_left_off left) (is_left_off right) none off in
          let r = left_accepted P p F waiting (cut_within D (in_base P) (Not v c) within) right h.2 stops.1 second in
          (r.0, r.1, here ∙ proof_accepted P p E (F ∷ waiting) (cut_within D (in_base P) (Is v c) within) left (follows_closes P E left h.1 none) (nodes right) ∙ r.2)
    ]
  where
    behind-none : (a b : Bool) → a ≡ false → (a || b) ≡ true → b ≡ true
    behind-none true b e f = cc
    behind-none false b e f = f
left_accepted P p D waiting within left_off h stops off = (D, waiting, refl)

-- nodes are accepted and leave a branch open exactly where a branch of their proof was left off
pub going_iff : (P : Network) → IsProblem P → (D : Test) → Within D (in_base P) → (ns : List Node)
    → ((E : Test) × (more : List Test) × (node_steps P (going D []) ns ≡ Ok (going E more)))
    ↔ ((proof : Proof) × FollowsFrom P D proof × StopsThere proof × (is_left_off proof ≡ true) × (ns ≡ nodes proof))
going_iff P p D within ns = (
  (λ h.
      let f = follow_proof P p D within ns (going h.0 h.1) h.2 in
      let off : is_left_off f.0 ≡ true = (elim (cases_Bool (is_left_off f.0)) [
        | inl some ↦ some
        | inr none ↦
            let all : node_steps P (going D []) (nodes f.0 ++ []) ≡ Ok closed = proof_accepted P p D [] within f.0 (follows_closes P D f.0 f.1 none) [] in
            let same : ns ≡ nodes f.0 ++ [] = f.3 ∙ sym (append-nil (nodes f.0)) in
            let both : Ok closed ≡ Ok (going h.0 h.1) = sym all ∙ ap (λ (xs : List Node). node_steps P (going D []) xs) (sym same) ∙ h.2 in
            cc
      ]) in
      (f.0, f.1, f.2, off, f.3)),
  (λ h.
      let r = left_accepted P p D [] within h.0 h.1 h.2 h.3 in
      (r.0, r.1, ap (λ (xs : List Node). node_steps P (going D []) xs) h.4 ∙ r.2)),
)
