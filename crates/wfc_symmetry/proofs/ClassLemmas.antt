-- The actions on the variants of a class, looked up for each variant and action.
use Rattle.std.proofs.Common.{◌≡◌, ℕ, ◌<◌, Bool, true, refl, sym, ◌∙◌}
use Rattle.std.specs.List.{list_all, range_with_len}
use Rattle.std.proofs.lemmas.Bool.{eqb-true, ltb-true}
use Rattle.std.specs.Prelude.{nat_lt, ◌==◌}
use Rattle.wfc_lists.proofs.Lists.{all_pass}
use Rattle.wfc_lists.proofs.Ranges.{range_Contains}
use Rattle.wfc_symmetry.specs.Class.{variant_count, variant_by_action, action_behind}
use Rattle.wfc_symmetry.specs.declared.class.Class.{Class}
use Rattle.wfc_symmetry.specs.declared.class.Class.TheVariants.{X, I, L, T, F, Slash}

-- what a test of all numbers below a limit says of one of them
each_below : (n : ℕ) (p : ℕ → Bool) → list_all p (range_with_len 0 n) ≡ true → (k : ℕ) → k < n → p k ≡ true
each_below n p all k below = all_pass p (range_with_len 0 n) k all (range_Contains n k below)

-- what a test of all pairs of actions says of one of them
each_pair : (p : ℕ → ℕ → Bool) → list_all (λ a. list_all (p a) (range_with_len 0 8)) (range_with_len 0 8) ≡ true
    → (a b : ℕ) → a < 8 → b < 8 → p a b ≡ true
each_pair p all a b in_a in_b = each_below 8 (p a) (each_below 8 (λ a. list_all (p a) (range_with_len 0 8)) all a in_a) b in_b

-- for each variant of a class and each pair of actions: one behind the other is the action that they are joined to
abbrev is_joined : Class → ℕ → ℕ → ℕ → Bool
is_joined class i a b = variant_by_action class (variant_by_action class i b) a == variant_by_action class i (action_behind a b)

abbrev are_joined : Class → ℕ → Bool
are_joined class i = list_all (λ a. list_all (is_joined class i a) (range_with_len 0 8)) (range_with_len 0 8)

all_joined : (class : Class) → list_all (are_joined class) (range_with_len 0 (variant_count class)) ≡ true
all_joined X = refl
all_joined I = refl
all_joined Slash = refl
all_joined L = refl
all_joined T = refl
all_joined F = refl

pub acted_behind : (class : Class) (i a b : ℕ) → i < variant_count class → a < 8 → b < 8
    → variant_by_action class (variant_by_action class i b) a ≡ variant_by_action class i (action_behind a b)
acted_behind class i a b variant in_a in_b =
    eqb-true _ _ (each_pair (is_joined class i) (each_below (variant_count class) (are_joined class) (all_joined class) i variant) a b in_a in_b)

-- for each variant and each action: what becomes of it is a variant
abbrev is_variant : Class → ℕ → ℕ → Bool
is_variant class i a = nat_lt (variant_by_action class i a) (variant_count class)

abbrev are_variants : Class → ℕ → Bool
are_variants class i = list_all (is_variant class i) (range_with_len 0 8)

all_variants : (class : Class) → list_all (are_variants class) (range_with_len 0 (variant_count class)) ≡ true
all_variants X = refl
all_variants I = refl
all_variants Slash = refl
all_variants L = refl
all_variants T = refl
all_variants F = refl

pub variant_by_action_below : (class : Class) (i a : ℕ) → i < variant_count class → a < 8 → variant_by_action class i a < variant_count class
variant_by_action_below class i a variant in_a =
    ltb-true _ _ (each_below 8 (is_variant class i) (each_below (variant_count class) (are_variants class) (all_variants class) i variant) a in_a)

-- an action makes of the first of eight variants the one with its number, so that any two differ
abbrev is_itself : ℕ → Bool
is_itself a = variant_by_action F 0 a == a

variant_by_action_first : (a : ℕ) → a < 8 → variant_by_action F 0 a ≡ a
variant_by_action_first a in_a = eqb-true _ _ (each_below 8 is_itself refl a in_a)

pub variant_by_action_differ : (a b : ℕ) → a < 8 → b < 8 → variant_by_action F 0 a ≡ variant_by_action F 0 b → a ≡ b
variant_by_action_differ a b in_a in_b same = sym (variant_by_action_first a in_a) ∙ same ∙ variant_by_action_first b in_b
