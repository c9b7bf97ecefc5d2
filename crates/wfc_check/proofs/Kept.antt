-- What a trail is kept in, with an entry more or less.
use Rattle.std.proofs.Common.{◌≡◌, ℕ, ◌+◌, ◌*◌, ◌<◌, ◌≤◌, Bool, true, false, List, [], ◌∷◌, ◌++◌, length, set, sym, ◌∙◌, ap, subst, arith}
use Rattle.std.specs.Prelude.{not}
use Rattle.std.proofs.lemmas.Bool.{and_parts, and_from}
use Rattle.std.proofs.lemmas.Nat.{mul-add-lt}
use Rattle.std.proofs.lemmas.List.{length-set}
use Rattle.wfc_problem.specs.Domains.{Test}
use Rattle.wfc_problem.specs.Network.{Network, values, in_base}
use Rattle.wfc_problem.specs.Rounds.{depth_of}
use Rattle.wfc_check.specs.Entries.{domains_left, waiting_branches, are_stood}
use Rattle.wfc_check.specs.Flags.{AreKept}
use Rattle.wfc_check.specs.declared.trail.Entry.{Entry}
use Rattle.wfc_check.proofs.Rows.{flag_removed, flag_restored}
use Rattle.wfc_check.proofs.Entries.{left_more, waiting_more, stood_more, left_inside, room_more}

-- an entry for a value that is taken away, and one for a branch that waits
abbrev pub taken : ℕ → ℕ → Entry
taken c v = record { cell = c; value = v; waits = false }

abbrev pub waits_at : ℕ → ℕ → Entry
waits_at c v = record { cell = c; value = v; waits = true }

-- there is room for one more
pub kept_room : (P : Network) (flags : List Bool) (es : List Entry) (room : ℕ) → AreKept P flags es room → (c v : ℕ) → domains_left (in_base P) es c v ≡ true → length es < room
kept_room P flags es room h c v t = room_more P h.problem es c v room h.stood t h.few h.fits

-- what stands has a flag
pub kept_inside : (P : Network) (flags : List Bool) (es : List Entry) (room : ℕ) → AreKept P flags es room → (c v : ℕ) → domains_left (in_base P) es c v ≡ true → (c < P.cells) × (v < values P)
kept_inside P flags es room h c v t = left_inside P h.problem es c v t

-- a value is taken away
pub kept_removed : (P : Network) (flags : List Bool) (es : List Entry) (room room' : ℕ) → AreKept P flags es room → (c v : ℕ) → domains_left (in_base P) es c v ≡ true → 2 * depth_of P ≤ room'
    → AreKept P (set flags (c * values P + v) false) (es ++ taken c v ∷ []) room'
kept_removed P flags es room room' h c v t fits =
    let n = left_inside P h.problem es c v t in
    record {
      problem = h.problem;
      whole = length-set flags (c * values P + v) false ∙ h.whole;
      each = λ x w. flag_removed (values P) flags (domains_left (in_base P) es) c v P.cells h.whole n.0 n.1 h.each x w
          ∙ ap (λ (D : Test). D x w) (sym (left_more (in_base P) es (taken c v)));
      stood = stood_more (in_base P) es (taken c v) ∙ and_from _ _ h.stood t;
      few = omega (arith, h.few, ap length (waiting_more (in_base P) [] es (taken c v)));
      fits = fits;
    }

-- a branch waits
pub kept_waits : (P : Network) (flags : List Bool) (es : List Entry) (room room' : ℕ) → AreKept P flags es room → (c v : ℕ) → domains_left (in_base P) es c v ≡ true
    → length (waiting_branches (in_base P) [] es) < depth_of P → 2 * depth_of P ≤ room' → AreKept P flags (es ++ waits_at c v ∷ []) room'
kept_waits P flags es room room' h c v t few fits = record {
  problem = h.problem;
  whole = h.whole;
  each = λ x w. h.each x w ∙ ap (λ (D : Test). D x w) (sym (left_more (in_base P) es (waits_at c v)));
  stood = stood_more (in_base P) es (waits_at c v) ∙ and_from _ _ h.stood t;
  few = omega (arith, few, ap length (waiting_more (in_base P) [] es (waits_at c v)));
  fits = fits;
}

-- the last entry's value stood
pub last_stood : (P : Network) (flags : List Bool) (es : List Entry) (e : Entry) (room : ℕ) → AreKept P flags (es ++ e ∷ []) room
    → (are_stood (in_base P) es ≡ true) × (domains_left (in_base P) es e.cell e.value ≡ true)
last_stood P flags es e room h = and_parts _ _ (sym (stood_more (in_base P) es e) ∙ h.stood)

-- a value comes back
pub kept_restored : (P : Network) (flags : List Bool) (es : List Entry) (c v room room' : ℕ) → AreKept P flags (es ++ taken c v ∷ []) room → 2 * depth_of P ≤ room'
    → AreKept P (set flags (c * values P + v) true) es room'
kept_restored P flags es c v room room' h fits =
    let s = last_stood P flags es (taken c v) room h in
    let n = left_inside P h.problem es c v s.1 in
    record {
      problem = h.problem;
      whole = length-set flags (c * values P + v) true ∙ h.whole;
      each = flag_restored (values P) flags (domains_left (in_base P) es) c v P.cells h.whole n.0 n.1 s.1
          (λ x w. h.each x w ∙ ap (λ (D : Test). D x w) (left_more (in_base P) es (taken c v)));
      stood = s.0;
      few = omega (arith, h.few, ap length (waiting_more (in_base P) [] es (taken c v)));
      fits = fits;
    }

-- a branch waits no more
pub kept_awaited : (P : Network) (flags : List Bool) (es : List Entry) (c v room room' : ℕ) → AreKept P flags (es ++ waits_at c v ∷ []) room → 2 * depth_of P ≤ room' → AreKept P flags es room'
kept_awaited P flags es c v room room' h fits =
    let s = last_stood P flags es (waits_at c v) room h in
    record {
      problem = h.problem;
      whole = h.whole;
      each = λ x w. h.each x w ∙ ap (λ (D : Test). D x w) (left_more (in_base P) es (waits_at c v));
      stood = s.0;
      few = omega (arith, h.few, ap length (waiting_more (in_base P) [] es (waits_at c v)));
      fits = fits;
    }

-- ---- the last entry is taken back

is_taken : (e : Entry) → not e.waits ≡ true → e ≡ taken e.cell e.value
is_taken e h = let w : e.waits ≡ false = grind (arith, h) in λ i. record { cell = e.cell; value = e.value; waits = w i }

is_awaited : (e : Entry) → not e.waits ≡ false → e ≡ waits_at e.cell e.value
is_awaited e h = let w : e.waits ≡ true = grind (arith, h) in λ i. record { cell = e.cell; value = e.value; waits = w i }

-- its value stands behind the others
pub back_stood : (P : Network) (flags : List Bool) (all es : List Entry) (e : Entry) (room : ℕ) → AreKept P flags all room → all ≡ es ++ e ∷ []
    → domains_left (in_base P) es e.cell e.value ≡ true
back_stood P flags all es e room h is = (last_stood P flags es e room (subst (λ (xs : List Entry). AreKept P flags xs room) is h)).1

-- and has a flag
pub back_flag : (P : Network) (flags : List Bool) (all es : List Entry) (e : Entry) (room : ℕ) → AreKept P flags all room → all ≡ es ++ e ∷ []
    → e.cell * values P + e.value < length flags
back_flag P flags all es e room h is =
    let n = left_inside P h.problem es e.cell e.value (back_stood P flags all es e room h is) in
    omega (arith, h.whole, mul-add-lt e.cell (values P) e.value P.cells n.0 n.1)

pub back_taken : (P : Network) (flags : List Bool) (all es : List Entry) (e : Entry) (room room' : ℕ) → AreKept P flags all room → all ≡ es ++ e ∷ [] → not e.waits ≡ true
    → 2 * depth_of P ≤ room' → AreKept P (set flags (e.cell * values P + e.value) true) es room'
back_taken P flags all es e room room' h is w fits =
    kept_restored P flags es e.cell e.value room room' (subst (λ (xs : List Entry). AreKept P flags xs room) (is ∙ ap (λ (x : Entry). es ++ x ∷ []) (is_taken e w)) h) fits

pub back_awaited : (P : Network) (flags : List Bool) (all es : List Entry) (e : Entry) (room room' : ℕ) → AreKept P flags all room → all ≡ es ++ e ∷ [] → not e.waits ≡ false
    → 2 * depth_of P ≤ room' → AreKept P flags es room'
back_awaited P flags all es e room room' h is w fits =
    kept_awaited P flags es e.cell e.value room room' (subst (λ (xs : List Entry). AreKept P flags xs room) (is ∙ ap (λ (x : Entry). es ++ x ∷ []) (is_awaited e w)) h) fits
