-- Rules of a kind, and those of the runners.
use Rattle.std.proofs.Common.{Bool, List, Some, [], ap, false, if◌then◌else◌, refl, suc, sym, take, true, zero, ℕ, ◌∙◌, ◌∷◌, ◌≡◌}
use Rattle.std.specs.List.{slice_get}
use Rattle.wfc_choose.specs.Pick.{Rule}
use Rattle.wfc_choose.specs.declared.RuleKind.{RuleKind}
use Rattle.wfc_plan.specs.Kinds.{same_rule}
use Rattle.wfc_reply.proofs.CallerLemmas.{kinds_same}
use Rattle.wfc_reply.specs.Choosers.{first_rule, first_rules, of_kind}

-- what is taken of a list stands in it
taken_there : {X : Type 0} (n : ℕ) (xs : List X) (i : ℕ) (x : X) → slice_get (take n xs) i ≡ Some x → slice_get xs i ≡ Some x
taken_there zero xs i x there = absurd (cc (there))
taken_there (suc n) [] i x there = there
taken_there (suc n) (y ∷ ys) zero x there = there
taken_there (suc n) (y ∷ ys) (suc i) x there = taken_there n ys i x there

-- a rule that stands among those of a kind is of it, and then the first of the kind is some rule
pub record IsOfKind (kind : RuleKind) (rules : List Rule) (rule : Rule) : Type 0 where
  pub is : rule.kind ≡ kind
  pub first : Rule
  pub chosen_is : first_rule kind rules ≡ Some first
  pub first_is : first.kind ≡ kind

pub of_kind_is : (kind : RuleKind) (rules : List Rule) (i : ℕ) (rule : Rule) → slice_get (of_kind kind rules) i ≡ Some rule → IsOfKind kind rules rule
of_kind_is kind [] i rule there = absurd (cc (there))
of_kind_is kind (r ∷ rules) i rule there = by_test (same_rule kind r.kind) refl (λ k found. of_kind_is kind rules k rule found) i there
  where
    by_test : (b : Bool) → same_rule kind r.kind ≡ b → ((k : ℕ) → slice_get (of_kind kind rules) k ≡ Some rule → IsOfKind kind rules rule) → (i : ℕ) → slice_get (if b then r ∷ of_kind kind rules else of_kind kind rules) i ≡ Some rule → IsOfKind kind (r ∷ rules) rule
    by_test true test later zero there =
        let same : r ≡ rule = cc (there) in
        let alike = kinds_same kind r.kind test in
        record { is = ap (λ (x : Rule). x.kind) (sym same) ∙ alike; first = r; chosen_is = ap (λ b. slice_get (if b then r ∷ of_kind kind rules else of_kind kind rules) 0) test; first_is = alike }
    by_test true test later (suc i) there =
        record { is = (later i there).is; first = r; chosen_is = ap (λ b. slice_get (if b then r ∷ of_kind kind rules else of_kind kind rules) 0) test; first_is = kinds_same kind r.kind test }
    by_test false test later_is i there =
        let later = later_is i there in
        record { is = later.is; first = later.first; chosen_is = ap (λ b. slice_get (if b then r ∷ of_kind kind rules else of_kind kind rules) 0) test ∙ later.chosen_is; first_is = later.first_is }

-- so of the runners
pub runner_is : (kind : RuleKind) (rules : List Rule) (many i : ℕ) (rule : Rule) → slice_get (first_rules many kind rules) i ≡ Some rule → IsOfKind kind rules rule
runner_is kind rules many i rule there = of_kind_is kind rules i rule (taken_there many (of_kind kind rules) i rule there)
