-- Lines that spell a proof of a problem keep within the limits of each format.
use Rattle.std.proofs.Common.{◌≡◌, ℕ, ◌<◌, ◌^◌, Bool, true, false, List, [], ◌∷◌, ◌++◌, refl, sym, ap, ◌∙◌, subst, arith}
use Rattle.std.specs.List.{list_all}
use Rattle.wfc_problem.proofs.CallerLemmas.{base_inside, cut_within, few_cells, few_dirs, few_values, neighbour_in}
use Rattle.wfc_problem.specs.Domains.{Test, Within, with_literal}
use Rattle.wfc_problem.specs.Network.{Network, IsProblem, in_base}
use Rattle.wfc_problem.specs.declared.Literal.TheVariants.{Is, Not}
use Rattle.wfc_proof.specs.Lines.{has_nodes, nodes_of_lines, SpellsNodes}
use Rattle.wfc_proof.specs.Proof.{Proof, Closes, FollowsFrom, Node, nodes}
use Rattle.wfc_proof.specs.Proof.Proof.{empty, remove, split, left_off}
use Rattle.wfc_proof.specs.Proof.Node.{empties, removes, splits}
use Rattle.wfc_proof.specs.ProofText.{AreOfFormat}
use Rattle.wfc_proof.specs.Spans.{counted_lines, in_spans}
use Rattle.wfc_proof.specs.declared.Line.{Line}
use Rattle.wfc_proof.specs.declared.Line.TheVariants.{Remove, Span, Try, Empty, End, Found, Out}
use Rattle.wfc_proof.specs.declared.heads.Format.TheVariants.{One, Two}
use Rattle.wfc_proof.proofs.UpgradeLemmas.{spans_spell}
pub use Rattle.wfc_proof.proofs.UpgradeLemmas.{proof_kept}

-- ---- the numbers of a proof

-- the node's numbers are within the limits
abbrev Fits : Node → Type 0
Fits (empties c) = c < 2 ^ 32
Fits (removes c v d) = (c < 2 ^ 32) × (v < 2 ^ 16) × (d < 2 ^ 8)
Fits (splits c v) = (c < 2 ^ 32) × (v < 2 ^ 16)

-- so are those of all nodes
abbrev AllFit : List Node → Type 0
AllFit [] = Unit {0}
AllFit (n ∷ ns) = Fits n × AllFit ns

-- those of some nodes and of more, and of either
fit_both : (ns more : List Node) → AllFit ns → AllFit more → AllFit (ns ++ more)
fit_both [] more first rest = rest
fit_both (n ∷ ns) more first rest = (first.0, fit_both ns more first.1 rest)

-- a cell and a value that stand
stands_fit : (P : Network) → IsProblem P → (D : Test) → Within D (in_base P) → (c v : ℕ) → D c v ≡ true → (c < 2 ^ 32) × (v < 2 ^ 16)
stands_fit P p D within c v stands =
    let there = base_inside P p c v (within c v stands) in (
      omega (arith, there.0, few_cells P p),
      omega (arith, there.1, few_values P p),
    )

-- the nodes of a proof that follows
follows_fit : (P : Network) → IsProblem P → (D : Test) → Within D (in_base P) → (proof : Proof) → FollowsFrom P D proof → AllFit (nodes proof)
follows_fit P p D within (empty c) h = (omega (arith, h.0, few_cells P p), tt)
follows_fit P p D within (remove c v d rest) h =
    let here = stands_fit P p D within c v h.0.stands in
    let way = neighbour_in P p c d h.0.next h.0.beside in (
      (here.0, here.1, omega (arith, way.1, few_dirs P p)),
      follows_fit P p (with_literal D (Not v c)) (cut_within D (in_base P) (Not v c) within) rest h.1,
    )
follows_fit P p D within (split c v left right) h = (
  stands_fit P p D within c v h.0.stands,
  fit_both (nodes left) (nodes right) (follows_fit P p (with_literal D (Is v c)) (cut_within D (in_base P) (Is v c) within) left h.1)
      (follows_fit P p (with_literal D (Not v c)) (cut_within D (in_base P) (Not v c) within) right h.2),
)
follows_fit P p D within left_off h = tt

-- a proof that closes follows
pub closes_follows : (P : Network) (D : Test) (proof : Proof) → Closes P D proof → FollowsFrom P D proof
closes_follows P D (empty c) h = h
closes_follows P D (remove c v d rest) h = (h.0, closes_follows P (with_literal D (Not v c)) rest h.1)
closes_follows P D (split c v left right) h = (h.0, closes_follows P (with_literal D (Is v c)) left h.1, closes_follows P (with_literal D (Not v c)) right h.2)
closes_follows P D left_off h = absurd h

-- ---- lines without a span

-- whether a line is no span
abbrev pub is_single : Line → Bool
is_single (Remove c v d) = true
is_single (Span c first last d) = false
is_single (Try c v) = true
is_single (Empty c) = true
is_single End = true
is_single Found = true
is_single Out = true

-- they count as themselves
single_counted : (lines : List Line) → list_all is_single lines ≡ true → counted_lines lines ≡ lines
single_counted [] single = refl
single_counted (Remove c v d ∷ lines) single = ap (λ ls. Remove c v d ∷ ls) (single_counted lines single)
single_counted (Span c first last d ∷ lines) single = cc
single_counted (Try c v ∷ lines) single = ap (λ ls. Try c v ∷ ls) (single_counted lines single)
single_counted (Empty c ∷ lines) single = ap (λ ls. Empty c ∷ ls) (single_counted lines single)
single_counted (End ∷ lines) single = ap (λ ls. End ∷ ls) (single_counted lines single)
single_counted (Found ∷ lines) single = ap (λ ls. Found ∷ ls) (single_counted lines single)
single_counted (Out ∷ lines) single = ap (λ ls. Out ∷ ls) (single_counted lines single)

-- where their nodes fit they are lines of format 1
single_formed : (lines : List Line) → list_all is_single lines ≡ true → list_all has_nodes lines ≡ true → AllFit (nodes_of_lines lines) → AreOfFormat One lines
single_formed [] single has fit = record {}
single_formed (Remove c v d ∷ lines) single has fit = (fit.0, single_formed lines single has fit.1)
single_formed (Span c first last d ∷ lines) single has fit = cc
single_formed (Try c v ∷ lines) single has fit = (fit.0, single_formed lines single has fit.1)
single_formed (Empty c ∷ lines) single has fit = (fit.0, single_formed lines single has fit.1)
single_formed (End ∷ lines) single has fit = cc
single_formed (Found ∷ lines) single has fit = cc
single_formed (Out ∷ lines) single has fit = cc

-- the lines of a format that spell what these lines do
pub record AreFormed (lines : List Line) (proof : Proof) : Type 0 where
  pub plain : AreOfFormat One lines
  pub joined : AreOfFormat Two (in_spans lines)
  pub spells : SpellsNodes (in_spans lines) (nodes proof)

-- lines that spell a proof which follows from the base domains are lines of format 1, and joined into spans they are lines of format 2 that spell it
pub proof_formed : (P : Network) → IsProblem P → (proof : Proof) (lines : List Line) → FollowsFrom P (in_base P) proof → list_all is_single lines ≡ true → SpellsNodes lines (nodes proof) → AreFormed lines proof
proof_formed P p proof lines follows single spells =
    let fit = follows_fit P p (in_base P) (λ c v t. t) proof follows in
    let formed = single_formed lines single spells.0 (subst AllFit (sym spells.1) fit) in
    let spans = spans_spell One lines formed spells.0 in
    let same : in_spans (counted_lines lines) ≡ in_spans lines = ap in_spans (single_counted lines single) in
    record {
      plain = formed;
      joined = subst (AreOfFormat Two) same spans.0;
      spells = subst (λ (ls : List Line). SpellsNodes ls (nodes proof)) same (spans.1, spans.2 ∙ spells.1);
    }
