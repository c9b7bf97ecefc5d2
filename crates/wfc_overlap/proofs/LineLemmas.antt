-- What the lines of a pins file mean, one by one.
use Rattle.std.proofs.Common.{◌≡◌, ℕ, ◌<◌, Bool, true, false, ◌&&◌, nat_lt, Option, Some, None, Result, Ok, Err, List, [], ◌∷◌, position, ap, ◌∙◌, subst, refl, if◌then◌else◌}
use Rattle.std.specs.Prelude.{All}
use Rattle.std.specs.Option.{ok_or, option_map}
use Rattle.std.specs.Str.{bytes_eq}
use Rattle.std.proofs.lemmas.Bool.{and_from, ltb-true, lt-ltb}
use Rattle.std.proofs.lemmas.List.Elements.{All-cons, All-nil}
use Rattle.wfc_model.specs.Legal.{Pin}
use Rattle.wfc_pins.specs.InOrder.{and_rest}
use Rattle.wfc_pins.specs.PinView.{PinView}
use Rattle.wfc_pins.specs.declared.fault.BuildFault.{BuildFault}
use Rattle.wfc_pins.specs.declared.fault.BuildFault.TheVariants.{PinOutside, UnknownSymbol}
use Rattle.wfc_places.specs.Marks.{marked_pin}
use Rattle.wfc_overlap.specs.Built.{picture_pin, picture_pins}

-- a line means a pin by these texts: its place is inside, and the pin has the number of its symbol
pub record MeansPin (texts : List (List ℕ)) (width height : ℕ) (line : PinView) (pin : Pin) : Type 0 where
  pub number : ℕ
  pub column_in : line.x < width
  pub row_in : line.y < height
  pub place : position (λ text. bytes_eq text line.symbol) texts ≡ Some number
  pub is : marked_pin line number ≡ pin

-- where it is read as a pin, it means that
pub pin_meant : (texts : List (List ℕ)) (width height : ℕ) (line : PinView) (pin : Pin) → picture_pin texts width height line ≡ Ok pin → MeansPin texts width height line pin
pin_meant texts width height line pin is = by_tests (nat_lt line.x width) (nat_lt line.y height) (position (λ text. bytes_eq text line.symbol) texts) refl refl refl is
  where
    by_tests : (wide high : Bool) (place : Option ℕ) → nat_lt line.x width ≡ wide → nat_lt line.y height ≡ high → position (λ text. bytes_eq text line.symbol) texts ≡ place
        → (if wide && high then ok_or (option_map (marked_pin line) place) (UnknownSymbol line.line) else Err (PinOutside line.line)) ≡ Ok pin → MeansPin texts width height line pin
    by_tests true true (Some number) p q r is =
        let same : marked_pin line number ≡ pin = cc (is) in
        record { number = number; column_in = ltb-true line.x width p; row_in = ltb-true line.y height q; place = r; is = same }
    by_tests true true None p q r is = absurd (cc (is))
    by_tests true false place p q r is = absurd (cc (is))
    by_tests false high place p q r is = absurd (cc (is))

-- and what it means it is read as
pub meant_pin : (texts : List (List ℕ)) (width height : ℕ) (line : PinView) (pin : Pin) → MeansPin texts width height line pin → picture_pin texts width height line ≡ Ok pin
meant_pin texts width height line pin means =
    ap (λ b. if b then ok_or (option_map (marked_pin line) (position (λ text. bytes_eq text line.symbol) texts)) (UnknownSymbol line.line) else Err (PinOutside line.line))
    (and_from (nat_lt line.x width) (nat_lt line.y height) (lt-ltb line.x width means.column_in) (lt-ltb line.y height means.row_in))
    ∙ ap (λ place. ok_or (option_map (marked_pin line) place) (UnknownSymbol line.line)) means.place
    ∙ ap Ok means.is

-- where lines are read as pins, the first is read as a pin, and those behind it as the others
pub record HasFirst (texts : List (List ℕ)) (width height : ℕ) (line : PinView) (lines : List PinView) (pins : List Pin) : Type 0 where
  pub pin : Pin
  pub rest : List Pin
  pub first : picture_pin texts width height line ≡ Ok pin
  pub later : picture_pins texts width height lines ≡ Ok rest
  pub is : pin ∷ rest ≡ pins

pub first_meant : (texts : List (List ℕ)) (width height : ℕ) (line : PinView) (lines : List PinView) (pins : List Pin) → picture_pins texts width height (line ∷ lines) ≡ Ok pins → HasFirst texts width height line lines pins
first_meant texts width height line lines pins is = by_first (picture_pin texts width height line) (picture_pins texts width height lines) refl refl is
  where
    by_first : (first : Result Pin BuildFault) (rest : Result (List Pin) BuildFault) → picture_pin texts width height line ≡ first → picture_pins texts width height lines ≡ rest → and_rest first rest ≡ Ok pins
        → HasFirst texts width height line lines pins
    by_first (Err fault) rest p q is = absurd (cc (is))
    by_first (Ok pin) (Err fault) p q is = absurd (cc (is))
    by_first (Ok pin) (Ok rest) p q is =
        let same : pin ∷ rest ≡ pins = cc (is) in
        record { pin = pin; rest = rest; first = p; later = q; is = same }

-- the pins that lines mean are inside
pub pins_inside : (texts : List (List ℕ)) (width height : ℕ) (lines : List PinView) (pins : List Pin) → picture_pins texts width height lines ≡ Ok pins → All (λ (pin : Pin). (pin.column < width) × (pin.row < height)) pins
pins_inside texts width height [] pins is =
    let same : (let none : List Pin = [] in none) ≡ pins = cc (is) in
    subst (All (λ (pin : Pin). (pin.column < width) × (pin.row < height))) same (All-nil (λ (pin : Pin). (pin.column < width) × (pin.row < height)))
pins_inside texts width height (line ∷ lines) pins is =
    let parts = first_meant texts width height line lines pins is in
    let means = pin_meant texts width height line parts.pin parts.first in
    let inside : (parts.pin.column < width) × (parts.pin.row < height) =
    subst (λ (pin : Pin). (pin.column < width) × (pin.row < height)) means.is (means.column_in, means.row_in) in
    subst (All (λ (pin : Pin). (pin.column < width) × (pin.row < height))) parts.is
    (All-cons (λ (pin : Pin). (pin.column < width) × (pin.row < height)) parts.pin parts.rest inside (pins_inside texts width height lines parts.rest parts.later))
