-- Options: when the first of two, or what one is mapped to, is none.
use Rattle.std.proofs.Common.{◌≡◌, refl, ap, ◌∙◌, Option, Some, None}
use Rattle.std.specs.Option.{option_map, option_or}

-- where the first of both is none, neither is there
pub both_none : {T : Type 0} (o p : Option T) → option_or o p ≡ None → (o ≡ None) × (p ≡ None)
both_none None p e = (refl, e)
both_none (Some x) p e = cc

-- where neither is there, the first of both is none
pub or_none : {T : Type 0} (o p : Option T) → o ≡ None → p ≡ None → option_or o p ≡ None
or_none o p e f = ap (λ q. option_or q p) e ∙ f

-- what is mapped to none is none
pub map_none : {A B : Type 0} (f : A → B) (o : Option A) → option_map f o ≡ None → o ≡ None
map_none f None e = refl
map_none f (Some x) e = cc
