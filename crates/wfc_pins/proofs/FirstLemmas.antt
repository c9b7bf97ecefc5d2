-- The first line with a property: of steps out of range, and of lines that say no pin.
use Rattle.std.proofs.Common.{◌≡◌, ℕ, ◌<◌, Bool, true, false, not, ◌&&◌, List, [], ◌∷◌, ◌++◌, length, map, Option, Some, None, Result, Ok, Err, refl, sym, ap, ◌∙◌, subst, if◌then◌else◌}
use Rattle.std.specs.List.{All, find}
use Rattle.std.specs.Option.{option_map, ok_or}
use Rattle.std.proofs.lemmas.Bool.{false≢true, and_parts, and_from, ltb-true, lt-ltb}
use Rattle.std.proofs.lemmas.List.Elements.{All-cons, All-nil, All-head, All-tail}
use Rattle.wfc_text.specs.Line.{LineView}
use Rattle.wfc_problem.specs.Domains.{IsLiteralIn}
use Rattle.wfc_problem.specs.Network.{Network, values}
use Rattle.wfc_problem.specs.declared.Literal.TheVariants.{Is, Not}
use Rattle.wfc_pins.specs.InOrder.{IsFirstWith, all_in_order, and_rest}
use Rattle.wfc_pins.specs.PinView.{PinView}
use Rattle.wfc_pins.specs.Pins.{pin_of, pin_said}
use Rattle.wfc_pins.specs.Steps.{IsStepIn, step_fits, range_fault}
use Rattle.wfc_pins.specs.declared.pins.PinFault.{PinFault}
use Rattle.wfc_pins.specs.declared.pins.PinFault.TheVariants as pin_faults
use Rattle.wfc_pins.specs.declared.steps.RangeFault.TheVariants.{OutOfRange}
use Rattle.wfc_pins.specs.declared.steps.Step.{Step}
use Rattle.wfc_pins.specs.declared.steps.Step.TheVariants.{Assume, Undo}
use Rattle.wfc_pins.specs.declared.steps.StepLine.{StepLine}

-- ---- the first with a property

-- the first of all, with one more in front that lacks it
first_behind : {X : Type 0} (P : X → Type 0) (y : X) (xs : List X) (x : X) → (P y → ⊥) → IsFirstWith P xs x → IsFirstWith P (y ∷ xs) x
first_behind P y xs x lacks first = record {
  before = y ∷ first.before;
  after = first.after;
  is = ap (λ l. y ∷ l) first.is;
  here = first.here;
  none = All-cons (λ z. P z → ⊥) y first.before lacks first.none;
}

-- the one in front
first_here : {X : Type 0} (P : X → Type 0) (x : X) (xs : List X) → P x → IsFirstWith P (x ∷ xs) x
first_here P x xs has = record { before = []; after = xs; is = refl; here = has; none = All-nil (λ z. P z → ⊥) }

-- a search that finds is of the first
found_first : {X : Type 0} (p : X → Bool) (P : X → Type 0) → ((x : X) → p x ≡ true → P x) → ((x : X) → p x ≡ false → P x → ⊥)
    → (xs : List X) (x : X) → find p xs ≡ Some x → IsFirstWith P xs x
found_first p P has lacks [] x is = absurd (cc)
found_first p P has lacks (y ∷ xs) x is = by (p y) refl is (found_first p P has lacks xs x)
  where
    by : (t : Bool) → p y ≡ t → (if t then Some y else find p xs) ≡ Some x → (find p xs ≡ Some x → IsFirstWith P xs x) → IsFirstWith P (y ∷ xs) x
    by true e some others = let same : y ≡ x = cc in subst (IsFirstWith P (y ∷ xs)) same (first_here P y xs (has y e))
    by false e rest others = first_behind P y xs x (lacks y e) (others rest)

-- and the first is found
first_found : {X : Type 0} (p : X → Bool) (P : X → Type 0) → ((x : X) → P x → p x ≡ true) → ((x : X) → (P x → ⊥) → p x ≡ false)
    → (before : List X) (x : X) (after : List X) → P x → All (λ y. P y → ⊥) before → find p (before ++ x ∷ after) ≡ Some x
first_found p P has lacks [] x after here none = ap (λ t. if t then Some x else find p after) (has x here)
first_found p P has lacks (y ∷ before) x after here none =
    ap (λ t. if t then Some y else find p (before ++ x ∷ after)) (lacks y (All-head (λ z. P z → ⊥) y before none))
    ∙ first_found p P has lacks before x after here (All-tail (λ z. P z → ⊥) y before none)

-- nothing is found where all lack it
none_found : {X : Type 0} (p : X → Bool) (Q : X → Type 0) → ((x : X) → Q x → p x ≡ false) → (xs : List X) → All Q xs → find p xs ≡ None
none_found p Q lacks [] all = refl
none_found p Q lacks (x ∷ xs) all =
    ap (λ t. if t then Some x else find p xs) (lacks x (All-head Q x xs all)) ∙ none_found p Q lacks xs (All-tail Q x xs all)

-- and where nothing is, all do
found_none : {X : Type 0} (p : X → Bool) (Q : X → Type 0) → ((x : X) → p x ≡ false → Q x) → (xs : List X) → find p xs ≡ None → All Q xs
found_none p Q has [] is = All-nil Q
found_none p Q has (x ∷ xs) is = by (p x) refl is (found_none p Q has xs)
  where
    by : (t : Bool) → p x ≡ t → (if t then Some x else find p xs) ≡ None → (find p xs ≡ None → All Q xs) → All Q (x ∷ xs)
    by true e some others = absurd (cc)
    by false e rest others = All-cons Q x xs (has x e) (others rest)

-- ---- steps in a problem

-- the test says whether a step is in a problem
pub fits-in : (P : Network) (step : Step) → step_fits P step ≡ true → IsStepIn P step
fits-in P (Assume (Is value cell)) is = let parts = and_parts _ _ is in (ltb-true cell P.cells parts.0, ltb-true value (values P) parts.1)
fits-in P (Assume (Not value cell)) is = let parts = and_parts _ _ is in (ltb-true cell P.cells parts.0, ltb-true value (values P) parts.1)
fits-in P Undo is = tt

pub in-fits : (P : Network) (step : Step) → IsStepIn P step → step_fits P step ≡ true
in-fits P (Assume (Is value cell)) is = and_from _ _ (lt-ltb cell P.cells is.0) (lt-ltb value (values P) is.1)
in-fits P (Assume (Not value cell)) is = and_from _ _ (lt-ltb cell P.cells is.0) (lt-ltb value (values P) is.1)
in-fits P Undo is = refl

-- what is not true is false, and the other way round
not_true : (t : Bool) → (t ≡ true → ⊥) → not t ≡ true
not_true true never = absurd (never refl)
not_true false never = refl

no_not : (t : Bool) → not t ≡ true → t ≡ true → ⊥
no_not true e is = absurd (false≢true e)
no_not false e is = absurd (false≢true is)

kept_not : (t : Bool) → not t ≡ false → t ≡ true
kept_not true e = refl
kept_not false e = absurd (false≢true (sym e))

-- a step that is out of range, as a property of its line
abbrev IsOut : Network → StepLine → Type 0
IsOut P line = IsStepIn P line.step → ⊥

abbrev is_out : Network → StepLine → Bool
is_out P line = not (step_fits P line.step)

out-true : (P : Network) (line : StepLine) → is_out P line ≡ true → IsOut P line
out-true P line is within = no_not (step_fits P line.step) is (in-fits P line.step within)

out-false : (P : Network) (line : StepLine) → is_out P line ≡ false → IsOut P line → ⊥
out-false P line is out = out (fits-in P line.step (kept_not (step_fits P line.step) is))

true-out : (P : Network) (line : StepLine) → IsOut P line → is_out P line ≡ true
true-out P line out = not_true (step_fits P line.step) (λ is. out (fits-in P line.step is))

false-in : (P : Network) (line : StepLine) → IsStepIn P line.step → is_out P line ≡ false
false-in P line within = ap not (in-fits P line.step within)

false-out : (P : Network) (line : StepLine) → (IsOut P line → ⊥) → is_out P line ≡ false
false-out P line never = by (is_out P line) refl
  where
    by : (t : Bool) → is_out P line ≡ t → t ≡ false
    by true e = absurd (never (out-true P line e))
    by false e = refl

-- a fault names the first line out of range
pub range_fault-first : (P : Network) (steps : List StepLine) (n : ℕ) → range_fault P steps ≡ Some (OutOfRange n)
    → (line : StepLine) × (line.line ≡ n) × IsFirstWith (λ (l : StepLine). IsStepIn P l.step → ⊥) steps line
range_fault-first P steps n is = by (find (is_out P) steps) refl is
  where
    by : (o : Option StepLine) → find (is_out P) steps ≡ o → option_map (λ (l : StepLine). OutOfRange l.line) o ≡ Some (OutOfRange n)
        → (line : StepLine) × (line.line ≡ n) × IsFirstWith (λ (l : StepLine). IsStepIn P l.step → ⊥) steps line
    by None e none = absurd (cc)
    by (Some line) e some = let same : line.line ≡ n = cc in (line, same, found_first (is_out P) (IsOut P) (out-true P) (out-false P) steps line e)

pub first-range_fault : (P : Network) (steps : List StepLine) (line : StepLine)
    → IsFirstWith (λ (l : StepLine). IsStepIn P l.step → ⊥) steps line → range_fault P steps ≡ Some (OutOfRange line.line)
first-range_fault P steps line first =
    ap (option_map (λ (l : StepLine). OutOfRange l.line))
    (ap (find (is_out P)) first.is ∙ first_found (is_out P) (IsOut P) (true-out P) (false-out P) first.before line first.after first.here first.none)

-- and there is none where all are in the problem
pub range_fault-none : (P : Network) (steps : List StepLine) → range_fault P steps ≡ None → All (λ (l : StepLine). IsStepIn P l.step) steps
range_fault-none P steps is = by (find (is_out P) steps) refl is
  where
    by : (o : Option StepLine) → find (is_out P) steps ≡ o → option_map (λ (l : StepLine). OutOfRange l.line) o ≡ None → All (λ (l : StepLine). IsStepIn P l.step) steps
    by None e none = found_none (is_out P) (λ l. IsStepIn P l.step) (λ l is. fits-in P l.step (kept_not (step_fits P l.step) is)) steps e
    by (Some line) e some = absurd (cc)

pub none-range_fault : (P : Network) (steps : List StepLine) → All (λ (l : StepLine). IsStepIn P l.step) steps → range_fault P steps ≡ None
none-range_fault P steps all =
    ap (option_map (λ (l : StepLine). OutOfRange l.line)) (none_found (is_out P) (λ l. IsStepIn P l.step) (false-in P) steps all)

-- ---- lines that say no pin

abbrev SaysNoPin : LineView → Type 0
SaysNoPin line = pin_said line ≡ None

-- a fault behind a pin is that of the rest
rest_fault : (pin : PinView) (rest : Result (List PinView) PinFault) (fault : PinFault) → and_rest (Ok pin) rest ≡ Err fault → rest ≡ Err fault
rest_fault pin (Ok pins) fault is = absurd (cc)
rest_fault pin (Err other) fault is = let same : other ≡ fault = cc in ap Err same

-- a fault names the first line that says no pin
pub pins-first : (lines : List LineView) (n : ℕ) → all_in_order (map pin_of lines) ≡ Err (pin_faults.BadLine n)
    → (line : LineView) × (line.number ≡ n) × IsFirstWith SaysNoPin lines line
pins-first [] n is = absurd (cc)
pins-first (line ∷ lines) n is = by (pin_said line) refl is (pins-first lines n)
  where
    by : (o : Option PinView) → pin_said line ≡ o → and_rest (ok_or o (pin_faults.BadLine line.number)) (all_in_order (map pin_of lines)) ≡ Err (pin_faults.BadLine n)
        → (all_in_order (map pin_of lines) ≡ Err (pin_faults.BadLine n) → (l : LineView) × (l.number ≡ n) × IsFirstWith SaysNoPin lines l)
        → (l : LineView) × (l.number ≡ n) × IsFirstWith SaysNoPin (line ∷ lines) l
    by None e fault others = let same : line.number ≡ n = cc in (line, same, first_here SaysNoPin line lines e)
    by (Some pin) e rest others =
        let found = others (rest_fault pin (all_in_order (map pin_of lines)) _ rest) in
        let says : SaysNoPin line → ⊥ = λ none. (let clash : Some pin ≡ None = sym e ∙ none in cc) in
        (found.0, found.1, first_behind SaysNoPin line lines found.0 says found.2)

-- and the first line that says none is at fault
pub first-pins : (before : List LineView) (line : LineView) (after : List LineView) → SaysNoPin line → All (λ l. SaysNoPin l → ⊥) before
    → all_in_order (map pin_of (before ++ line ∷ after)) ≡ Err (pin_faults.BadLine line.number)
first-pins [] line after here none = ap (λ o. and_rest (ok_or o (pin_faults.BadLine line.number)) (all_in_order (map pin_of after))) here
first-pins (l ∷ before) line after here none = by (pin_said l) refl (first-pins before line after here (All-tail (λ m. SaysNoPin m → ⊥) l before none))
  where
    rest : Result (List PinView) PinFault
    rest = all_in_order (map pin_of (before ++ line ∷ after))

    by : (o : Option PinView) → pin_said l ≡ o → rest ≡ Err (pin_faults.BadLine line.number) → and_rest (ok_or o (pin_faults.BadLine l.number)) rest ≡ Err (pin_faults.BadLine line.number)
    by None e others = absurd (All-head (λ m. SaysNoPin m → ⊥) l before none e)
    by (Some pin) e others = ap (and_rest (Ok pin)) others

-- pins are read exactly where each line says its own
pub pins-said : (lines : List LineView) (pins : List PinView) → all_in_order (map pin_of lines) ≡ Ok pins → map pin_said lines ≡ map Some pins
pins-said [] pins is = let same : [] ≡ pins = cc in ap (map Some) same
pins-said (line ∷ lines) pins is = by (pin_said line) (all_in_order (map pin_of lines)) refl refl is (pins-said lines)
  where
    by : (o : Option PinView) (rest : Result (List PinView) PinFault) → pin_said line ≡ o → all_in_order (map pin_of lines) ≡ rest
        → and_rest (ok_or o (pin_faults.BadLine line.number)) rest ≡ Ok pins
        → ((more : List PinView) → all_in_order (map pin_of lines) ≡ Ok more → map pin_said lines ≡ map Some more) → map pin_said (line ∷ lines) ≡ map Some pins
    by None rest e f fault others = absurd (cc)
    by (Some pin) (Err other) e f fault others = absurd (cc)
    by (Some pin) (Ok more) e f both others =
        let same : pin ∷ more ≡ pins = cc in
        ap (λ o. o ∷ map pin_said lines) e ∙ ap (λ l. Some pin ∷ l) (others more f) ∙ ap (map Some) same

pub said-pins : (lines : List LineView) (pins : List PinView) → map pin_said lines ≡ map Some pins → all_in_order (map pin_of lines) ≡ Ok pins
said-pins [] [] is = refl
said-pins [] (pin ∷ pins) is = absurd (cc)
said-pins (line ∷ lines) [] is = absurd (cc)
said-pins (line ∷ lines) (pin ∷ pins) is =
    let head : pin_said line ≡ Some pin = cc in
    let tail : map pin_said lines ≡ map Some pins = cc in
    ap (λ o. and_rest (ok_or o (pin_faults.BadLine line.number)) (all_in_order (map pin_of lines))) head
    ∙ ap (and_rest (Ok pin)) (said-pins lines pins tail)
