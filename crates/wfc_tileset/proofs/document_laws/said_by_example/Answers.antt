use Rattle.std.proofs.Common.{◌≡◌, ℕ, List, [], codes, length, get_or, inl, inr, Option, Some, refl, ap, ◌∙◌, arith}
use Rattle.toml.specs.Data.{Data, string, integer}
use Rattle.std.specs.Prelude.{pos}
use Rattle.wfc_symmetry.specs.declared.class.Class.TheVariants.{F}
use Rattle.wfc_tileset.specs.Document.{symmetry_class}
use Rattle.wfc_tileset.proofs.document_laws.said_by_example.Goals as goal

-- the whole number of a value, 0 where there is none
abbrev number_of_value : Option Data → ℕ
number_of_value (Some (integer (pos n))) = n
number_of_value _ = 0

-- the text of a value
abbrev text_of_value : Option Data → List ℕ
text_of_value (Some (string s)) = s
text_of_value _ = []

pub returns-clause-weight : goal.returns-clause-weight
returns-clause-weight c says = elim says.weight [
  | inl both ↦ (let none = both.0 in cc)
  | inr is ↦ omega (arith, ap number_of_value is)
]

pub returns-clause-class : goal.returns-clause-class
returns-clause-class c says =
    let word : codes "T" ≡ says.word = ap text_of_value says.class in
    let is : symmetry_class (codes "T") ≡ Some F = ap symmetry_class word ∙ says.class_is in
    cc

pub returns-clause-turn : goal.returns-clause-turn
returns-clause-turn c = record { tile_in = omega arith; turn_in = omega arith; text_is = inr refl }

pub returns-clause-no_turn : goal.returns-clause-no_turn
returns-clause-no_turn c = record { tile_in = omega arith; turn_in = omega arith; text_is = inl (refl, refl) }

pub returns-clause-other_turn : goal.returns-clause-other_turn
returns-clause-other_turn c says = elim says.text_is [
  | inl both ↦ omega (arith, ap length both.0)
  | inr is ↦ omega (arith, ap (λ t. get_or t 2 0) is)
]

pub returns-clause-other_tile : goal.returns-clause-other_tile
returns-clause-other_tile c says = elim says.text_is [
  | inl both ↦ omega (arith, ap length both.0)
  | inr is ↦ omega (arith, ap (λ t. get_or t 0 0) is)
]

pub returns-clause-past : goal.returns-clause-past
returns-clause-past c says = omega (arith, says.turn_in)

pub returns-clause-named_twice : goal.returns-clause-named_twice
returns-clause-named_twice c apart = let second = apart.1.0 in cc
