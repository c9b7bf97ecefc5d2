-- Pins and bans by number.
use Rattle.std.specs.Prelude.{ℕ, ◌==◌, Bool, not, if◌then◌else◌}
use Rattle.wfc_model.specs.Legal.{Pin}
use Rattle.wfc_pins.specs.PinView.{PinView}

-- whether a number suits a pin: a kept one is the pin's, and a banned one isn't
abbrev pub suits : Pin → ℕ → Bool
suits pin number = if pin.keep then number == pin.number else not (number == pin.number)

-- the pin that a line means, where its symbol has this number
abbrev pub marked_pin : PinView → ℕ → Pin
marked_pin line number = record { keep = line.keep; column = line.x; row = line.y; number = number }
