-- When the pins of a problem are refused before a line is looked at.
use Rattle.std.proofs.Common.{◌≡◌, ◌<◌, ◌||◌, false, true, List, Err, Result, cond, ltb, ◌∙◌}
use Rattle.std.proofs.lemmas.Bool.{cond-false, cond-true, le-ltb, lt-ltb, or_from, or_left, or_right}
use Rattle.wfc_model.specs.Legal.{Pin}
use Rattle.wfc_picture.specs.declared.symbol.Symbol.{Symbol}
use Rattle.wfc_pins.specs.PinView.{PinView}
use Rattle.wfc_pins.specs.declared.fault.BuildFault.{BuildFault}
use Rattle.wfc_pins.specs.declared.fault.BuildFault.TheVariants.{SizeBelowN, TooLarge}
use Rattle.wfc_problem.specs.declared.TheConstants.{MAX_PAIRS}
use Rattle.wfc_overlap.specs.Bridge.{IsRoom, window_pair_count}
use Rattle.wfc_overlap.specs.Built.{IsCrowded, checked_picture_pins, picture_pins, texts_of}
use Rattle.wfc_overlap.specs.Sample.{Output}
use Rattle.wfc_pattern.specs.Patterns.{PatternsView}

module _ (p : PatternsView) (s : List Symbol) (o : Output) (lines : List PinView) where
  -- what is answered of an output with room for a window
  abbrev by_count : Result (List Pin) BuildFault
  by_count = cond (ltb MAX_PAIRS (window_pair_count p o)) (Err (TooLarge (window_pair_count p o))) (picture_pins (texts_of s) o.width o.height lines)

  pub narrow_pins : o.width < p.n → checked_picture_pins p s o lines ≡ Err SizeBelowN
  narrow_pins below = cond-true (ltb o.width p.n || ltb o.height p.n) (Err SizeBelowN) by_count (or_left (ltb o.width p.n) (ltb o.height p.n) (lt-ltb o.width p.n below))

  pub low_pins : o.height < p.n → checked_picture_pins p s o lines ≡ Err SizeBelowN
  low_pins below = cond-true (ltb o.width p.n || ltb o.height p.n) (Err SizeBelowN) by_count (or_right (ltb o.width p.n) (ltb o.height p.n) (lt-ltb o.height p.n below))

  pub crowded_pins : IsCrowded p o → checked_picture_pins p s o lines ≡ Err (TooLarge (window_pair_count p o))
  crowded_pins crowd =
      let count = window_pair_count p o in
      cond-false (ltb o.width p.n || ltb o.height p.n) (Err SizeBelowN) by_count (or_from (ltb o.width p.n) (ltb o.height p.n) (le-ltb o.width p.n crowd.0) (le-ltb o.height p.n crowd.1))
      ∙ cond-true (ltb MAX_PAIRS count) (Err (TooLarge count)) (picture_pins (texts_of s) o.width o.height lines) (lt-ltb MAX_PAIRS count crowd.2)

  pub roomy_pins : IsRoom p o → checked_picture_pins p s o lines ≡ picture_pins (texts_of s) o.width o.height lines
  roomy_pins room =
      let count = window_pair_count p o in
      cond-false (ltb o.width p.n || ltb o.height p.n) (Err SizeBelowN) by_count (or_from (ltb o.width p.n) (ltb o.height p.n) (le-ltb o.width p.n room.wide) (le-ltb o.height p.n room.high))
      ∙ cond-false (ltb MAX_PAIRS count) (Err (TooLarge count)) (picture_pins (texts_of s) o.width o.height lines) (le-ltb MAX_PAIRS count room.few_pairs)
