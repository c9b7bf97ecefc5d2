use Rattle.std.proofs.Common.{inl, inr, refl, arith}
use Rattle.wfc_model.specs.Legal.{banned_pin, kept_pin}
use Rattle.wfc_tileset.specs.Samples.{crossing}
use Rattle.wfc_tiled.proofs.LegalMapLemmas.{four_are_legal, no_place, refused_across, refused_down}
use Rattle.wfc_tiled.proofs.examples.legal_maps_by_example.Goals as goal

pub returns-clause-taken : goal.returns-clause-taken
returns-clause-taken c = four_are_legal

pub returns-clause-across : goal.returns-clause-across
returns-clause-across c legal =
    refused_across crossing 9 5 refl (legal.across 0 0 1 (omega arith) (omega arith) (omega arith, inl refl) (0, omega arith, refl) (1, omega arith, refl))

pub returns-clause-down : goal.returns-clause-down
returns-clause-down c legal =
    refused_down crossing 4 10 refl (legal.down 3 0 1 (omega arith) (omega arith) (omega arith, inl refl) (2, omega arith, refl) (3, omega arith, refl))

pub returns-clause-wrapped : goal.returns-clause-wrapped
returns-clause-wrapped c legal =
    refused_across crossing 10 5 refl (legal.across 3 0 0 (omega arith) (omega arith) (omega arith, inr (refl, refl, refl)) (2, omega arith, refl) (0, omega arith, refl))

pub returns-clause-no_tile : goal.returns-clause-no_tile
returns-clause-no_tile c legal =
    let below = legal.filled 3 1 (omega arith) (omega arith) (3, omega arith, refl) in omega (arith, below)

pub returns-clause-other_pin : goal.returns-clause-other_pin
returns-clause-other_pin c legal =
    let held = legal.held 0 (kept_pin 0 0 9) (omega arith) in omega (arith, held.1.number)

pub returns-clause-in_a_hole : goal.returns-clause-in_a_hole
returns-clause-in_a_hole c legal =
    let hole = legal.holes 2 0 (omega arith) (omega arith) (λ place. no_place 2 place (λ e. omega arith) (λ e. omega arith) (λ e. omega arith) (λ e. omega arith)) in omega (arith, hole)

pub returns-clause-pin_in_a_hole : goal.returns-clause-pin_in_a_hole
returns-clause-pin_in_a_hole c legal =
    let held = legal.held 0 (banned_pin 2 0 9) (omega arith) in
    no_place 2 held.0 (λ e. omega arith) (λ e. omega arith) (λ e. omega arith) (λ e. omega arith)
