-- Answers in order, up to the first fault.
use Rattle.std.specs.Prelude.{◌≡◌, List, [], ◌∷◌, ◌++◌, All, Result, Ok, Err}
use Rattle.wfc_outside.specs.Gives.{result_map}

-- the answer and those behind it, or the first fault of them
abbrev pub and_rest : {X E : Type 0} → Result X E → Result (List X) E → Result (List X) E
and_rest (Err fault) rest = Err fault
and_rest (Ok x) rest = result_map (λ xs. x ∷ xs) rest

-- all answers, or the first fault of them
abbrev pub all_in_order : {X E : Type 0} → List (Result X E) → Result (List X) E
all_in_order [] = Ok []
all_in_order (answer ∷ answers) = and_rest answer (all_in_order answers)

-- x is the first of these with a property: it has it, and none before it does
pub record IsFirstWith {X : Type 0} (P : X → Type 0) (xs : List X) (x : X) : Type 0 where
  pub before : List X
  pub after : List X
  pub is : xs ≡ before ++ x ∷ after
  pub here : P x
  pub none : All (λ y. P y → ⊥) before
