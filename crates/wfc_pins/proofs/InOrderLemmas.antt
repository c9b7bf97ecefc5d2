-- Answers in order, with others in front of them.
use Rattle.std.proofs.Common.{◌≡◌, ℕ, suc, ◌+◌, ◌<◌, List, [], ◌∷◌, ◌++◌, length, get_or, map, drop, Result, Ok, Err, refl, sym, ap, ◌∙◌, add-one, append_assoc}
use Rattle.std.proofs.Math.Seq.{drop-cons}
use Rattle.wfc_outside.specs.Gives.{result_map}
use Rattle.wfc_pins.specs.InOrder.{all_in_order, and_rest}

-- the answers with others in front of them, if there is no fault
abbrev pub behind : {X E : Type 0} → List X → Result (List X) E → Result (List X) E
behind front answers = result_map (λ xs. front ++ xs) answers

-- an answer and those behind it, as one more in front of these
pub behind-and_rest : {X E : Type 0} (front : List X) (x : X) (answers : Result (List X) E) → behind front (and_rest (Ok x) answers) ≡ behind (front ++ x ∷ []) answers
behind-and_rest front x (Ok xs) = ap Ok (sym (append_assoc front (x ∷ []) xs))
behind-and_rest front x (Err fault) = refl

-- nothing in front of them
pub behind-none : {X E : Type 0} (answers : Result (List X) E) → behind [] answers ≡ answers
behind-none (Ok xs) = refl
behind-none (Err fault) = refl

-- what is read so far and what is left make the whole
abbrev pub IsReadTo : {X Y E : Type 0} → (X → Result Y E) → List X → Result (List Y) E → ℕ → List Y → Type 0
IsReadTo f xs whole k done = behind done (all_in_order (map f (drop k xs))) ≡ whole

dropped : {X : Type 0} (xs : List X) (k : ℕ) (x : X) → k < length xs → x ≡ get_or xs k x → drop k xs ≡ x ∷ drop (k + 1) xs
dropped xs k x inside at = rw add-one (drop-cons xs k x inside ∙ ap (λ y. y ∷ drop (suc k) xs) (sym at))

-- one element more
pub read_on : {X Y E : Type 0} (f : X → Result Y E) (xs : List X) (whole : Result (List Y) E) (k : ℕ) (x : X) (done : List Y) (y : Y) → k < length xs → x ≡ get_or xs k x → f x ≡ Ok y
    → IsReadTo f xs whole k done → IsReadTo f xs whole (k + 1) (done ++ y ∷ [])
read_on f xs whole k x done y inside at is so_far =
    sym (ap (λ ls. behind done (all_in_order (map f ls))) (dropped xs k x inside at)
    ∙ ap (λ a. behind done (and_rest a (all_in_order (map f (drop (k + 1) xs))))) is
    ∙ behind-and_rest done y (all_in_order (map f (drop (k + 1) xs)))) ∙ so_far
