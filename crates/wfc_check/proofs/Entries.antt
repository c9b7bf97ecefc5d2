-- One more entry, and that there is room for all.
use Rattle.std.proofs.Common.{◌≡◌, ℕ, ◌+◌, ◌*◌, ◌<◌, ◌≤◌, Bool, true, false, cond, List, [], ◌∷◌, ◌++◌, length, refl, ◌∙◌, ap, arith}
use Rattle.std.specs.Prelude.{◌&&◌}
use Rattle.std.proofs.lemmas.Bool.{and_parts}
use Rattle.wfc_problem.specs.Domains.{Test, Within, with_literal}
use Rattle.wfc_problem.specs.Network.{Network, IsProblem, in_base, values}
use Rattle.wfc_problem.specs.Rounds.{pairs, depth_of}
use Rattle.wfc_problem.specs.declared.Literal.TheVariants.{Not}
use Rattle.wfc_problem.proofs.CallerLemmas.{base_inside, cut_within}
use Rattle.wfc_proof.proofs.Waiting.{not_less}
use Rattle.wfc_check.specs.Entries.{behind_entry, domains_left, put_off, waiting_branches, are_stood}
use Rattle.wfc_check.specs.declared.trail.Entry.{Entry}

-- one more entry
pub left_more : (D : Test) (es : List Entry) (e : Entry) → domains_left D (es ++ e ∷ []) ≡ behind_entry (domains_left D es) e
left_more D [] e = refl
left_more D (x ∷ es) e = left_more (behind_entry D x) es e

pub waiting_more : (D : Test) (waits : List Test) (es : List Entry) (e : Entry) → waiting_branches D waits (es ++ e ∷ []) ≡ put_off (domains_left D es) (waiting_branches D waits es) e
waiting_more D waits [] e = refl
waiting_more D waits (x ∷ es) e = waiting_more (behind_entry D x) (put_off D waits x) es e

both_of : (a b c : Bool) → (a && (b && c)) ≡ ((a && b) && c)
both_of a b c = grind arith

last_of : (a : Bool) → (a && true) ≡ (true && a)
last_of a = grind arith

pub stood_more : (D : Test) (es : List Entry) (e : Entry) → are_stood D (es ++ e ∷ []) ≡ (are_stood D es && domains_left D es e.cell e.value)
stood_more D [] e = last_of (D e.cell e.value)
stood_more D (x ∷ es) e = ap (λ b. D x.cell x.value && b) (stood_more (behind_entry D x) es e) ∙ both_of (D x.cell x.value) (are_stood (behind_entry D x) es) (domains_left D (x ∷ es) e.cell e.value)

-- entries only take away
within_at : (b : Bool) (D B : Test) (c v : ℕ) → Within D B → Within (cond b D (with_literal D (Not v c))) B
within_at true D B c v within = within
within_at false D B c v within = cut_within D B (Not v c) within

pub left_within : (D B : Test) (es : List Entry) → Within D B → Within (domains_left D es) B
left_within D B [] within = within
left_within D B (e ∷ es) within = left_within (behind_entry D e) B es (within_at e.waits D B e.cell e.value within)

-- what stands is in range
pub left_inside : (P : Network) → IsProblem P → (es : List Entry) (c v : ℕ) → domains_left (in_base P) es c v ≡ true → (c < P.cells) × (v < values P)
left_inside P p es c v t = base_inside P p c v (left_within (in_base P) (in_base P) es (λ x w s. s) c v t)

-- each entry takes a pair or adds a branch
room_at : (b : Bool) (P : Network) → IsProblem P → (D : Test) → Within D (in_base P) → (W : List Test) (c v : ℕ) → D c v ≡ true
    → pairs P (cond b D (with_literal D (Not v c))) + length W + 1 ≤ pairs P D + length (cond b (with_literal D (Not v c) ∷ W) W)
room_at true P p D within W c v t = omega arith
room_at false P p D within W c v t = omega (arith, not_less P p D within c v t)

room_from : (P : Network) → IsProblem P → (D : Test) → Within D (in_base P) → (W : List Test) (es : List Entry) → are_stood D es ≡ true
    → length es + pairs P (domains_left D es) + length W ≤ pairs P D + length (waiting_branches D W es)
room_from P p D within W [] s = omega arith
room_from P p D within W (e ∷ es) s =
    let parts = and_parts (D e.cell e.value) (are_stood (behind_entry D e) es) s in
    let more = room_from P p (behind_entry D e) (within_at e.waits D (in_base P) e.cell e.value within) (put_off D W e) es parts.1 in
    omega (arith, more, room_at e.waits P p D within W e.cell e.value parts.0)

-- as many entries as pairs are gone and branches wait
pub room_of : (P : Network) → IsProblem P → (es : List Entry) → are_stood (in_base P) es ≡ true
    → length es + pairs P (domains_left (in_base P) es) ≤ depth_of P + length (waiting_branches (in_base P) [] es)
room_of P p es s = omega (arith, room_from P p (in_base P) (λ x w t. t) [] es s)

-- where a value stands there is a pair
pub some_pair : (P : Network) → IsProblem P → (es : List Entry) (c v : ℕ) → domains_left (in_base P) es c v ≡ true → 0 < pairs P (domains_left (in_base P) es)
some_pair P p es c v t = omega (arith, not_less P p (domains_left (in_base P) es) (left_within (in_base P) (in_base P) es (λ x w s. s)) c v t)

-- room for one more where few branches wait
pub room_more : (P : Network) → IsProblem P → (es : List Entry) (c v room : ℕ) → are_stood (in_base P) es ≡ true → domains_left (in_base P) es c v ≡ true
    → length (waiting_branches (in_base P) [] es) ≤ depth_of P → 2 * depth_of P ≤ room → length es < room
room_more P p es c v room s t few r = omega (arith, room_of P p es s, some_pair P p es c v t)
