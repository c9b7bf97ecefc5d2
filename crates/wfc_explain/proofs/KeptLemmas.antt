-- The lines that are kept of a list of them.
use Rattle.std.proofs.Common.{◌≡◌, ℕ, zero, suc, ◌+◌, ◌*◌, ◌<◌, Bool, true, false, List, [], ◌∷◌, ◌++◌, length, map, take, get_or, refl, sym, ap, ◌∙◌, arith, Result, Ok, Err}
use Rattle.std.specs.Prelude.{All}
use Rattle.std.specs.List.{flat_map, list_all}
use Rattle.std.proofs.lemmas.Bool.{and_from, and_parts, false≢true}
use Rattle.std.proofs.lemmas.List.{length-take, take_more}
use Rattle.std.proofs.lemmas.List.Elements.{All-cons}
use Rattle.wfc_pins.specs.InOrder.{all_in_order, and_rest}
use Rattle.wfc_problem.specs.Network.{has_flag}
use Rattle.wfc_problem.proofs.CallerLemmas.{flag_at, flag_inside}
use Rattle.wfc_explain.specs.KeptLines.{kept_of}
use Rattle.wfc_explain.specs.Pinned.{IsFewer}

-- ---- a line more

-- one line more is kept, or isn't
kept-push : {X : Type 0} (keep : List Bool) (xs : List X) (b : Bool) (x : X) → length keep ≡ length xs → kept_of (keep ++ b ∷ []) (xs ++ x ∷ []) ≡ kept_of keep xs ++ kept_of (b ∷ []) (x ∷ [])
kept-push [] [] b x long = refl
kept-push [] (y ∷ xs) b x long = absurd (omega (arith, long))
kept-push (a ∷ keep) [] b x long = absurd (omega (arith, long))
kept-push (true ∷ keep) (y ∷ xs) b x long = ap (λ ys. y ∷ ys) (kept-push keep xs b x (omega (arith, long)))
kept-push (false ∷ keep) (y ∷ xs) b x long = kept-push keep xs b x (omega (arith, long))

-- so of the first lines
pub kept_more : {X : Type 0} (keep : List Bool) (xs : List X) (at : ℕ) (b : Bool) (x : X) → at < length xs → length keep ≡ length xs → b ≡ get_or keep at false → x ≡ get_or xs at x
    → kept_of (take (at + 1) keep) (take (at + 1) xs) ≡ kept_of (take at keep) (take at xs) ++ kept_of (b ∷ []) (x ∷ [])
kept_more keep xs at b x inside long b_is x_is =
    (λ i. kept_of (take_more keep at false (omega (arith, inside, long)) i) (take_more xs at x inside i))
    ∙ (λ i. kept_of (take at keep ++ sym b_is i ∷ []) (take at xs ++ sym x_is i ∷ []))
    ∙ kept-push (take at keep) (take at xs) b x (omega (arith, length-take at keep, length-take at xs, long, inside))

-- ---- answers of lines

-- an answer and those behind it that are all without a fault
record AreParts {Y E : Type 0} (r : Result Y E) (rest : Result (List Y) E) (ys : List Y) : Type 0 where
  y : Y
  zs : List Y
  first_is : r ≡ Ok y
  rest_is : rest ≡ Ok zs
  all_are : ys ≡ y ∷ zs

parts_of : {Y E : Type 0} (r : Result Y E) (rest : Result (List Y) E) (ys : List Y) → and_rest r rest ≡ Ok ys → AreParts r rest ys
parts_of (Err fault) rest ys is = cc
parts_of (Ok y) (Err fault) ys is = cc
parts_of (Ok y) (Ok zs) ys is = record { y = y; zs = zs; first_is = refl; rest_is = refl; all_are = cc }

-- where all lines are without a fault, those that are kept are too, and give what is kept of the answers
pub kept_in_order : {X Y E : Type 0} (f : X → Result Y E) (keep : List Bool) (xs : List X) (ys : List Y) → all_in_order (map f xs) ≡ Ok ys → all_in_order (map f (kept_of keep xs)) ≡ Ok (kept_of keep ys)
kept_in_order f [] xs ys is = refl
kept_in_order f (true ∷ keep) [] [] is = refl
kept_in_order f (true ∷ keep) [] (y ∷ ys) is = cc
kept_in_order f (false ∷ keep) [] [] is = refl
kept_in_order f (false ∷ keep) [] (y ∷ ys) is = cc
kept_in_order f (true ∷ keep) (x ∷ xs) ys is =
    let parts = parts_of (f x) (all_in_order (map f xs)) ys is in
    (λ i. and_rest (parts.first_is i) (kept_in_order f keep xs parts.zs parts.rest_is i)) ∙ ap (λ l. Ok (kept_of (true ∷ keep) l)) (sym parts.all_are)
kept_in_order f (false ∷ keep) (x ∷ xs) ys is =
    let parts = parts_of (f x) (all_in_order (map f xs)) ys is in
    kept_in_order f keep xs parts.zs parts.rest_is ∙ ap (λ l. Ok (kept_of (false ∷ keep) l)) (sym parts.all_are)

-- there are as many answers as lines
pub as_many : {X Y E : Type 0} (f : X → Result Y E) (xs : List X) (ys : List Y) → all_in_order (map f xs) ≡ Ok ys → length ys ≡ length xs
as_many f [] [] is = refl
as_many f [] (y ∷ ys) is = cc
as_many f (x ∷ xs) ys is =
    let parts = parts_of (f x) (all_in_order (map f xs)) ys is in
    let rest = as_many f xs parts.zs parts.rest_is in
    ap length parts.all_are ∙ ap suc rest

-- ---- tests that all kept pass

-- what passes for all that more keep passes for all that fewer keep
pub kept_pass : {X : Type 0} (p : X → Bool) (fewer more : List Bool) (xs : List X) → length fewer ≡ length more → IsFewer fewer more
    → list_all p (kept_of more xs) ≡ true → list_all p (kept_of fewer xs) ≡ true
kept_pass p [] more xs long falls pass = refl
kept_pass p (b ∷ fewer) [] xs long falls pass = absurd (omega (arith, long))
kept_pass p (true ∷ fewer) (m ∷ more) [] long falls pass = refl
kept_pass p (false ∷ fewer) (m ∷ more) [] long falls pass = refl
kept_pass p (true ∷ fewer) (true ∷ more) (x ∷ xs) long falls pass =
    let both = and_parts (p x) (list_all p (kept_of more xs)) pass in
    and_from (p x) (list_all p (kept_of fewer xs)) both.0 (kept_pass p fewer more xs (omega (arith, long)) (λ line. falls (suc line)) both.1)
kept_pass p (true ∷ fewer) (false ∷ more) (x ∷ xs) long falls pass = absurd (false≢true (falls zero refl))
kept_pass p (false ∷ fewer) (true ∷ more) (x ∷ xs) long falls pass =
    kept_pass p fewer more xs (omega (arith, long)) (λ line. falls (suc line)) (and_parts (p x) (list_all p (kept_of more xs)) pass).1
kept_pass p (false ∷ fewer) (false ∷ more) (x ∷ xs) long falls pass = kept_pass p fewer more xs (omega (arith, long)) (λ line. falls (suc line)) pass

-- ---- tables of flags

-- flags of tests, of which the one implies the other
pub map_fewer : {X : Type 0} (p q : X → Bool) → ((x : X) → p x ≡ true → q x ≡ true) → (xs : List X) → IsFewer (map p xs) (map q xs)
map_fewer p q implies [] line stands = absurd (false≢true stands)
map_fewer p q implies (x ∷ xs) zero stands = implies x stands
map_fewer p q implies (x ∷ xs) (suc line) stands = map_fewer p q implies xs line stands

-- of two rows, and of what stands behind them
append_fewer : (xs ys us vs : List Bool) → length xs ≡ length ys → IsFewer xs ys → IsFewer us vs → IsFewer (xs ++ us) (ys ++ vs)
append_fewer [] [] us vs long first rest line stands = rest line stands
append_fewer [] (y ∷ ys) us vs long first rest line stands = absurd (omega (arith, long))
append_fewer (x ∷ xs) [] us vs long first rest line stands = absurd (omega (arith, long))
append_fewer (x ∷ xs) (y ∷ ys) us vs long first rest zero stands = first zero stands
append_fewer (x ∷ xs) (y ∷ ys) us vs long first rest (suc line) stands = append_fewer xs ys us vs (omega (arith, long)) (λ k. first (suc k)) rest line stands

-- of all rows
pub flat_map_fewer : {X : Type 0} (f g : X → List Bool) → ((x : X) → length (f x) ≡ length (g x)) → ((x : X) → IsFewer (f x) (g x)) → (xs : List X) → IsFewer (flat_map f xs) (flat_map g xs)
flat_map_fewer f g long row [] = λ line stands. absurd (false≢true stands)
flat_map_fewer f g long row (x ∷ xs) = append_fewer (f x) (g x) (flat_map f xs) (flat_map g xs) (long x) (row x) (flat_map_fewer f g long row xs)

-- so of their entries by cell and value
pub flags_fewer : (n : ℕ) (xs ys : List Bool) → IsFewer xs ys → (c v : ℕ) → has_flag n xs c v ≡ true → has_flag n ys c v ≡ true
flags_fewer n xs ys falls c v stands =
    let inside = (flag_inside n xs c v stands).0 in
    flag_at n ys c v inside ∙ falls (c * n + v) (sym (flag_at n xs c v inside) ∙ stands)

-- ---- what holds of all

-- what holds of all of a list holds of those that are kept
pub All-kept : {X : Type 0} (P : X → Type 0) (keep : List Bool) (xs : List X) → All P xs → All P (kept_of keep xs)
All-kept P [] xs all = λ k d h. absurd (omega (arith, h))
All-kept P (b ∷ keep) [] all = none b
  where
    none : (b : Bool) → All P (kept_of (b ∷ keep) [])
    none true = λ k d h. absurd (omega (arith, h))
    none false = λ k d h. absurd (omega (arith, h))
All-kept P (true ∷ keep) (x ∷ xs) all =
    All-cons P x (kept_of keep xs) (all zero x (omega arith)) (All-kept P keep xs (λ k d h. all (suc k) d (omega (arith, h))))
All-kept P (false ∷ keep) (x ∷ xs) all = All-kept P keep xs (λ k d h. all (suc k) d (omega (arith, h)))
