use Rattle.std.proofs.Common.{◌≡◌, lit<, arith, refl}
use Rattle.wfc_model.specs.Legal.{kept_pin, banned_pin}
use Rattle.wfc_model.proofs.laws.pins_of_legal.Goals as goal

pub returns-clause-other_kept : goal.returns-clause-other_kept
returns-clause-other_kept c legal = let first : 97 ≡ 98 = (legal.held 1 (kept_pin 0 0 98) (lit< tt)).number in omega (arith, first)

pub returns-clause-banned : goal.returns-clause-banned
returns-clause-banned c legal = (legal.held 0 (banned_pin 0 0 97) (lit< tt)).number refl
