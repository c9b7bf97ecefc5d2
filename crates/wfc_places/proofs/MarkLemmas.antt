-- When a number suits a pin.
use Rattle.std.proofs.Common.{◌≡◌, ℕ, Bool, true, false, cond, not, sym, ap, ◌∙◌}
use Rattle.std.specs.Prelude.{MatchBool, ◌≢◌, ◌==◌}
use Rattle.std.proofs.lemmas.Bool.{false≢true, eqb-true, eq-eqb, ne_eqb, not_from_true}
use Rattle.wfc_model.specs.Legal.{Pin}
use Rattle.wfc_places.specs.Marks.{suits}

-- a number suits a pin where it is kept or banned as the pin says
suits_by : (keep : Bool) (k number : ℕ) → MatchBool keep (k ≡ number) (k ≢ number) → cond keep (k == number) (not (k == number)) ≡ true
suits_by true k number same = eq-eqb k number same
suits_by false k number other = ap not (ne_eqb k number other)

by_suits : (keep : Bool) (k number : ℕ) → cond keep (k == number) (not (k == number)) ≡ true → MatchBool keep (k ≡ number) (k ≢ number)
by_suits true k number test = eqb-true k number test
by_suits false k number test = λ same. false≢true (sym (not_from_true (k == number) (eq-eqb k number same)) ∙ test)

pub suits-from : (pin : Pin) (k : ℕ) → MatchBool pin.keep (k ≡ pin.number) (k ≢ pin.number) → suits pin k ≡ true
suits-from pin k held = suits_by pin.keep k pin.number held

pub held-from_suits : (pin : Pin) (k : ℕ) → suits pin k ≡ true → MatchBool pin.keep (k ≡ pin.number) (k ≢ pin.number)
held-from_suits pin k test = by_suits pin.keep k pin.number test
