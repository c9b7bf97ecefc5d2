-- The first choosers of a kind.
use Rattle.std.proofs.Common.{Bool, List, [], ap, arith, drop, false, if◌then◌else◌, length, map, nat_lt, refl, subst, suc, sym, take, true, zero, Some, ℕ, ◌&&◌, ◌++◌, ◌+◌, ◌-◌, ◌<◌, ◌∙◌, ◌∷◌, ◌≡◌, ◌≤◌}
use Rattle.std.proofs.Math.ListN.{get_or}
use Rattle.std.proofs.lemmas.Bool.Decides.{nat_tests}
use Rattle.std.proofs.lemmas.List.{append-nil, append_assoc, length-append, length-map, map-append}
use Rattle.std.proofs.lemmas.List.Sums.{length-filter}
use Rattle.std.specs.List.{slice_get}
use Rattle.wfc_choose.specs.Pick.{Rule}
use Rattle.wfc_choose.specs.declared.RuleKind.{RuleKind}
use Rattle.wfc_lists.proofs.Counts.{count_by-map}
use Rattle.wfc_plan.specs.Kinds.{HasChoosers, count_kinds, same_rule}
use Rattle.wfc_reply.specs.Choosers.{first_rule, first_rules, kinds_of, of_kind}

-- ---- how many are taken

-- there are so many rules of a kind
pub length-of_kind : (kind : RuleKind) (rules : List Rule) → length (of_kind kind rules) ≡ count_kinds kind (kinds_of rules)
length-of_kind kind rules = length-filter (λ (rule : Rule). same_rule kind rule.kind) rules ∙ sym (count_by-map (same_rule kind) (λ (rule : Rule). rule.kind) rules)

length_taken : {X : Type 0} (n : ℕ) (xs : List X) → n ≤ length xs → length (take n xs) ≡ n
length_taken zero xs enough = refl
length_taken (suc n) [] enough = absurd (omega (arith, enough))
length_taken (suc n) (x ∷ xs) enough = omega (arith, length_taken n xs (omega (arith, enough)))

-- where enough choosers are there, so many are taken
pub length-first_rules : (many : ℕ) (kind : RuleKind) (rules : List Rule) → HasChoosers many (kinds_of rules) kind → length (first_rules many kind rules) ≡ many
length-first_rules many kind rules there = length_taken many (of_kind kind rules) (omega (arith, there, length-of_kind kind rules))

pub many_taken : {X : Type 0} (rule : X → Rule) (many : ℕ) (kind : RuleKind) (all taken : List X) → map rule taken ≡ first_rules many kind (map rule all) → HasChoosers many (kinds_of (map rule all)) kind
    → length taken ≡ many
many_taken rule many kind all taken first there = omega (arith, ap (λ (rs : List Rule). length rs) first, length-map taken rule, length-first_rules many kind (map rule all) there)

-- the first that is taken is the first of the kind
pub first_taken : {X : Type 0} (rule : X → Rule) (kind : RuleKind) (all taken : List X) (x : X) → map rule taken ≡ first_rules 1 kind (map rule all) → 0 < length taken → x ≡ get_or taken 0 x
    → first_rule kind (map rule all) ≡ Some (rule x)
first_taken rule kind all [] x first some is = absurd (omega (arith, some))
first_taken {X = X} rule kind all (y ∷ ys) x first some is =
    sym (head (of_kind kind (map rule all))) ∙ ap (λ (rs : List Rule). slice_get rs 0) (sym first) ∙ ap (λ (z : X). Some (rule z)) (sym is)
  where
    head : (rs : List Rule) → slice_get (take 1 rs) 0 ≡ slice_get rs 0
    head [] = refl
    head (r ∷ rs) = refl

-- ---- the first choosers of a kind

-- some are taken, and with the first of the others of the kind they are those that are wanted
pub record IsTaken {X : Type 0} (rule : X → Rule) (kind : RuleKind) (many : ℕ) (all xs taken : List X) (made : ℕ) : Type 0 where
  pub whole : map rule taken ++ take (many - length taken) (of_kind kind (map rule xs)) ≡ take many (of_kind kind (map rule all))
  pub count : length xs + made ≡ length all

pub none_taken : {X : Type 0} (rule : X → Rule) (kind : RuleKind) (many : ℕ) (all taken : List X) → taken ≡ [] → IsTaken rule kind many all all taken 0
none_taken {X = X} rule kind many all taken none =
    let all_left : many - 0 ≡ many = omega arith in
    subst (λ (ts : List X). IsTaken rule kind many all all ts 0) (sym none) (record { whole = ap (λ k. take k (of_kind kind (map rule all))) all_left; count = omega arith })

-- why one isn't wanted: enough are taken, or it is of another kind
data Skips (n : ℕ) (b : Bool) : Type 0 where
  full : n ≡ 0 → Skips n b
  other : b ≡ false → Skips n b

-- where the next one isn't wanted
pub one_left : {X : Type 0} (rule : X → Rule) (kind : RuleKind) (many : ℕ) (all xs rest taken : List X) (made : ℕ) (x : X) → IsTaken rule kind many all xs taken made
    → 0 < length xs → x ≡ get_or xs 0 x → rest ≡ take 0 xs ++ drop 1 xs → (nat_lt (length taken) many && same_rule kind (rule x).kind) ≡ false → IsTaken rule kind many all rest taken (made + 1)
one_left rule kind many all [] rest taken made x t some first rest_is not_wanted = absurd (omega (arith, some))
one_left {X = X} rule kind many all (z ∷ zs) rest taken made x t some first rest_is not_wanted =
    let tail : rest ≡ zs = rest_is in
    subst (λ (ys : List X). IsTaken rule kind many all ys taken (made + 1)) (sym tail) (record {
      whole = ap (λ (rs : List Rule). map rule taken ++ rs) (sym (skipped (many - length taken) (same_rule kind (rule z).kind) (unwanted (nat_lt (length taken) many) (same_rule kind (rule z).kind) refl
          (ap (λ (y : X). nat_lt (length taken) many && same_rule kind (rule y).kind) (sym first) ∙ not_wanted)))) ∙ t.whole;
      count = omega (arith, t.count);
    })
  where
    unwanted : (room b : Bool) → nat_lt (length taken) many ≡ room → (room && b) ≡ false → Skips (many - length taken) b
    unwanted true b test is = other is
    unwanted false b test is = full (grind (arith, nat_tests, test))

    skipped : (n : ℕ) (b : Bool) → Skips n b
        → take n (if b then rule z ∷ of_kind kind (map rule zs) else of_kind kind (map rule zs)) ≡ take n (of_kind kind (map rule zs))
    skipped n b (full none) = ap (λ k. take k (if b then rule z ∷ of_kind kind (map rule zs) else of_kind kind (map rule zs))) none ∙ ap (λ k. take k (of_kind kind (map rule zs))) (sym none)
    skipped n b (other is) = ap (λ c. take n (if c then rule z ∷ of_kind kind (map rule zs) else of_kind kind (map rule zs))) is

-- where it is
pub one_taken : {X : Type 0} (rule : X → Rule) (kind : RuleKind) (many : ℕ) (all xs rest taken more : List X) (made : ℕ) (x : X) → IsTaken rule kind many all xs taken made
    → 0 < length xs → x ≡ get_or xs 0 x → rest ≡ take 0 xs ++ drop 1 xs → (nat_lt (length taken) many && same_rule kind (rule x).kind) ≡ true → more ≡ taken ++ x ∷ []
    → IsTaken rule kind many all rest more (made + 1)
one_taken rule kind many all [] rest taken more made x t some first rest_is wanted more_is = absurd (omega (arith, some))
one_taken {X = X} rule kind many all (z ∷ zs) rest taken more made x t some first rest_is wanted more_is =
    let tail : rest ≡ zs = rest_is in
    let test = both (nat_lt (length taken) many) (same_rule kind (rule x).kind) wanted in
    let of = ap (λ (y : X). same_rule kind (rule y).kind) (sym first) ∙ test.1 in
    let room : length taken < many = grind (arith, nat_tests, test.0) in
    let left : many - length taken ≡ suc (many - length more) = omega (arith, room, ap (λ (ts : List X). length ts) more_is, length-append taken (x ∷ [])) in
    subst (λ (ys : List X). IsTaken rule kind many all ys more (made + 1)) (sym tail) (record {
      whole = ap (λ (ts : List X). map rule ts ++ take (many - length more) (of_kind kind (map rule zs))) more_is
          ∙ ap (λ (rs : List Rule). rs ++ take (many - length more) (of_kind kind (map rule zs))) (map-append rule taken (x ∷ []))
          ∙ append_assoc (map rule taken) (rule x ∷ []) (take (many - length more) (of_kind kind (map rule zs)))
          ∙ ap (λ (y : X). map rule taken ++ (rule y ∷ take (many - length more) (of_kind kind (map rule zs)))) first
          ∙ ap (λ (rs : List Rule). map rule taken ++ rs) (sym (ap (λ c. take (suc (many - length more)) (if c then rule z ∷ of_kind kind (map rule zs) else of_kind kind (map rule zs))) of))
          ∙ ap (λ k. map rule taken ++ take k (of_kind kind (map rule (z ∷ zs)))) (sym left)
          ∙ t.whole;
      count = omega (arith, t.count);
    })
  where
    both : (a b : Bool) → (a && b) ≡ true → (a ≡ true) × (b ≡ true)
    both true true is = (refl, refl)
    both true false is = absurd (cc (is))
    both false b is = absurd (cc (is))

-- at last all
pub all_taken : {X : Type 0} (rule : X → Rule) (kind : RuleKind) (many : ℕ) (all xs taken : List X) (made : ℕ) → IsTaken rule kind many all xs taken made → length all ≤ made
    → map rule taken ≡ take many (of_kind kind (map rule all))
all_taken rule kind many all [] taken made t enough =
    sym (ap (λ (rs : List Rule). map rule taken ++ rs) (take_none (many - length taken)) ∙ append-nil (map rule taken)) ∙ t.whole
  where
    take_none : (n : ℕ) → take n (of_kind kind []) ≡ []
    take_none zero = refl
    take_none (suc n) = refl
all_taken rule kind many all (x ∷ xs) taken made t enough = absurd (omega (arith, t.count, enough))
